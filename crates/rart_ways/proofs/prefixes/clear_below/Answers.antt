use Rattle.std.proofs.Common.{refl}
use Rattle.rart_ways.proofs.EditLemmas.{on-any}
use Rattle.rart_ways.proofs.PlanLemmas.{not-none}
use Rattle.rart_ways.proofs.UnderPrefixLemmas.{stands-some, stands-whole}
use Rattle.rart_ways.proofs.prefixes.clear_below.Goals as goal

pub returns-then-steps-eq0-clause-cleared : goal.returns-then-steps-eq0-clause-cleared
returns-then-steps-eq0-clause-cleared g c = (
  refl,
  stands-some _ _ _ _ _ c.requires.tree c.in-Some.ensures.stands,
  stands-whole _ _ _ _ _ c.if-steps-eq0.true c.in-Some.ensures.stands,
)

pub returns-in_err-cut_off-clause-present : goal.returns-in_err-cut_off-clause-present
returns-in_err-cut_off-clause-present g c =
    on-any c.from_residual.result
    (stands-some _ _ _ _ _ c.requires.tree c.in-Some.ensures.stands)

pub returns-in_err-cut_off-clause-absent_makes_none :
    goal.returns-in_err-cut_off-clause-absent_makes_none
returns-in_err-cut_off-clause-absent_makes_none g c none =
    let some = stands-some _ _ _ _ _ c.requires.tree c.in-Some.ensures.stands in
    absurd (not-none _ some.1 (none some.0))

pub returns-clause-cleared : goal.returns-clause-cleared
returns-clause-cleared g c = (
  c.in_ok-cut_off.ensures.cleared,
  stands-some _ _ _ _ _ c.requires.tree c.in-Some.ensures.stands,
)

pub returns-clause-absent_makes_none : goal.returns-clause-absent_makes_none
returns-clause-absent_makes_none g c none =
    let some = stands-some _ _ _ _ _ c.requires.tree c.in-Some.ensures.stands in
    absurd (not-none _ some.1 (none some.0))

use Rattle.std.proofs.Common.{Some, sym, subst, ◌∙◌}
use Rattle.rart_ways.specs.Prefixes.{IsUnderAlone, part_of}
use Rattle.rart_ways.proofs.EditLemmas.{on-any}
use Rattle.rart_ways.proofs.PlanLemmas.{not-none}
use Rattle.rart_ways.proofs.PutPartLemmas.{part-alone, part-stands, tail-none}
use Rattle.rart_ways.proofs.UnderPrefixLemmas.{stands-some}
use Rattle.rart_ways.proofs.prefixes.keep_under.Goals as goal

pub behind-requires-clause-part : goal.behind-requires-clause-part
behind-requires-clause-part g c =
    let at = c.in-Some.ensures in
    part-stands c.in-Some.end c.args.prefix.now c.args.root.now.shape c.requires.tree at.stands
    at.node at.prefix g.P.Partial.MAXIMUM_SIZE c.requires.lengths

pub returns-in_err-behind-clause-present : goal.returns-in_err-behind-clause-present
returns-in_err-behind-clause-present g c =
    on-any c.from_residual.result
    (stands-some _ _ _ _ _ c.requires.tree c.in-Some.ensures.stands)

pub returns-in_err-behind-clause-absent_makes_none :
    goal.returns-in_err-behind-clause-absent_makes_none
returns-in_err-behind-clause-absent_makes_none g c none =
    let some = stands-some _ _ _ _ _ c.requires.tree c.in-Some.ensures.stands in
    absurd (not-none _ some.1 (none some.0))

pub returns-clause-absent_makes_none : goal.returns-clause-absent_makes_none
returns-clause-absent_makes_none g c none =
    let some = stands-some _ _ _ _ _ c.requires.tree c.in-Some.ensures.stands in
    absurd (not-none _ some.1 (none some.0))

pub returns-clause-kept : goal.returns-clause-kept
returns-clause-kept g c =
    let p = c.args.prefix.now in
    let root = c.args.root.now.shape in
    let end = c.in-Some.end in
    let at = c.in-Some.ensures in
    subst (λ z. IsUnderAlone p root (Some z))
    (sym (c.in_ok-behind.ensures.shown ∙ tail-none (part_of end)))
    (part-alone end p root c.requires.tree at.stands at.node at.prefix)

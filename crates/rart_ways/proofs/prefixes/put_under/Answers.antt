use Rattle.rart_ways.proofs.EditLemmas.{on-any}
use Rattle.rart_ways.proofs.PlanLemmas.{not-none}
use Rattle.rart_ways.proofs.PutPartLemmas.{part-put, part-stands}
use Rattle.rart_ways.proofs.UnderPrefixLemmas.{stands-some}
use Rattle.rart_ways.proofs.prefixes.put_under.Goals as goal

pub put_below-requires-clause-part : goal.put_below-requires-clause-part
put_below-requires-clause-part g c =
    let at = c.in-Some.ensures in
    part-stands c.in-Some.end c.args.prefix.now c.args.from.now.shape c.requires.tree_from at.stands
    at.node at.prefix g.P.Partial.MAXIMUM_SIZE c.requires.lengths_from

pub returns-in_err-put_below-clause-present : goal.returns-in_err-put_below-clause-present
returns-in_err-put_below-clause-present g c =
    on-any c.from_residual.result
    (stands-some _ _ _ _ _ c.requires.tree_from c.in-Some.ensures.stands)

pub returns-in_err-put_below-clause-absent_makes_none :
    goal.returns-in_err-put_below-clause-absent_makes_none
returns-in_err-put_below-clause-absent_makes_none g c none =
    let some = stands-some _ _ _ _ _ c.requires.tree_from c.in-Some.ensures.stands in
    absurd (not-none _ some.1 (none some.0))

pub returns-clause-absent_makes_none : goal.returns-clause-absent_makes_none
returns-clause-absent_makes_none g c none =
    let some = stands-some _ _ _ _ _ c.requires.tree_from c.in-Some.ensures.stands in
    absurd (not-none _ some.1 (none some.0))

pub returns-clause-put : goal.returns-clause-put
returns-clause-put g c =
    let p = c.args.prefix.now in
    let from = c.args.from.now.shape in
    let at = c.in-Some.ensures in (
      part-put c.in-Some.end p from c.requires.tree_from at.stands at.node at.prefix _ _
          c.in_ok-put_below.ensures.grafted,
      stands-some _ _ _ _ _ c.requires.tree_from at.stands,
    )

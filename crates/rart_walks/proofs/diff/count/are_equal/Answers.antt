use Rattle.std.proofs.Common.{subst}
use Rattle.rart_walks.specs.DiffEnds.{EntersToFirst}
use Rattle.rart_walks.proofs.CountedLemmas.{counted-start, counted-next}
use Rattle.rart_walks.proofs.DiffEndLemmas.{first-ends}
use Rattle.rart_walks.proofs.diff.count.are_equal.Goals as goal

pub returns-clause-ends : goal.returns-clause-ends
returns-clause-ends g c =
    let made = c.new-changes.ensures in
    let next = c.in_ok-next.ensures in
    let counted = counted-next _ (counted-start c.args.work.now made.nodes) next.exact
    next.counted in
    subst (EntersToFirst c.args.old c.args.new c.args.work.now c.next.new.work) made.changes
    (first-ends g.V.PartialEq.eq c.args.old c.args.new c.new-changes.result made.before
    made.after c.next.new.self c.args.work.now c.next.new.work c.in_ok-next.field-0 next.gives
    next.come next.each counted)

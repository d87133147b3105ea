use Rattle.std.proofs.Common.{Ok, ap}
use Rattle.std.specs.declared.alloc.AllocError.{AllocError}
use Rattle.rart_maps.proofs.LookupLemmas.{replacement-sets}
use Rattle.rart_changes.proofs.TrackingLemmas.{keeps-touched}
use Rattle.rart_changes.proofs.tracked.TrackedTree.insert_and_replace_counted.Goals as goal

pub invariant_of-self-2 : goal.invariant_of-self-2
invariant_of-self-2 g c =
    let w = c.args.key.now in
    let replaced = c.in_ok-replaced.ensures in
    let marked = c.in_ok-touched.ensures.marked in
    keeps-touched w _ c.self.invariant
    (replacement-sets _ _ w {E = AllocError} _ (Ok _) (replaced.answer, replaced.set))
    marked.keys marked.counted (ap (λ v. v.number) replaced.set)

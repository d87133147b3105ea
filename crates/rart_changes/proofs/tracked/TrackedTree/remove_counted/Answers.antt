use Rattle.std.proofs.Common.{Ok, sym, ap, ◌∙◌, is_some}
use Rattle.std.specs.declared.alloc.AllocError.{AllocError}
use Rattle.rart_maps.proofs.LookupLemmas.{removal-sets}
use Rattle.rart_changes.proofs.TrackingLemmas.{copied-some, keeps-touched, removal-number}
use Rattle.rart_changes.proofs.tracked.TrackedTree.remove_counted.Goals as goal

pub invariant_of-self-2 : goal.invariant_of-self-2
invariant_of-self-2 g c =
    let w = c.args.key.now in
    let removed = c.in_ok-removed.ensures in
    let there = sym (ap is_some c.get_bytes_counted.ensures.value)
    ∙ sym (copied-some c.get_bytes_counted.result) ∙ c.if-is_none.ensures in
    let marked = c.in_ok-touched.ensures.marked in
    keeps-touched w _ c.self.invariant
    (removal-sets _ _ w {E = AllocError} (Ok _) (removed.answer, removed.removed))
    marked.keys marked.counted
    (removal-number c.self.inside.current c.remove_bytes_counted.new.self w there removed.removed)

-- the key is there, so it is one that the tree's keys may be
pub marked-requires-clause-admitted : goal.marked-requires-clause-admitted
marked-requires-clause-admitted g c =
    let there = sym (ap is_some c.get_bytes_counted.ensures.value)
    ∙ sym (copied-some c.get_bytes_counted.result) ∙ c.if-is_none.ensures in
    (c.know_keys_for_proof.ensures.lengths c.args.key.now there).0

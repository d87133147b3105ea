use Rattle.std.proofs.Common.{◌≡◌, ◌+◌, length, map}
use Rattle.std.specs.Vec.Iter.{into_iter_items, into_iter_len}
use Rattle.rart_maps.specs.Visits.{AnswersUpTo}
use Rattle.rart_changes.specs.ConflictVisits.{ByConflict, conflicts_at}
use Rattle.rart_changes.specs.ChangeVisits.{lookup_least}
use Rattle.rart_changes.proofs.ShowLemmas.{AreCounted}
use Rattle.rart_changes.proofs.tracked.conflicts.show_conflicts.Given as goal

abbrev pub invariant-loop-key : goal.invariant-loop-key
invariant-loop-key g l =
    let bytes = g.K.KeyTrait.bytes in
    let all = map bytes l.fn.keys.items in
    let left = map bytes (into_iter_items l.key-iterator) in
    let at = conflicts_at g.V.PartialEq.eq l.base.content l.ours.content l.theirs.content in
    record {
      length : into_iter_len l.key-iterator ≡ length (into_iter_items l.key-iterator);
      calls : AnswersUpTo g.F.FnMut (ByConflict bytes) tt l.fn.f (at all) (at left) l.f;
      counted : AreCounted 3 (lookup_least l.base + lookup_least l.ours + lookup_least l.theirs)
          all left l.fn.work l.work;
    }

use Rattle.std.proofs.Common.{◌≡◌, ◌+◌, length, map}
use Rattle.std.specs.Vec.Iter.{into_iter_items, into_iter_len}
use Rattle.rart_maps.specs.Visits.{AnswersUpTo}
use Rattle.rart_changes.specs.ChangeVisits.{changes_at, lookup_least}
use Rattle.rart_maps.specs.ChangeVisits.{ByKeyChange}
use Rattle.rart_changes.proofs.ShowLemmas.{AreCounted}
use Rattle.rart_changes.proofs.tracked.showing.show_changes.Given as goal

abbrev pub invariant-loop-key : goal.invariant-loop-key
invariant-loop-key g l =
    let bytes = g.K.KeyTrait.bytes in
    let all = map bytes l.fn.keys.items in
    let left = map bytes (into_iter_items l.key-iterator) in
    let at = changes_at g.V.PartialEq.eq l.old.content l.new.content in
    record {
      length : into_iter_len l.key-iterator ≡ length (into_iter_items l.key-iterator);
      calls : AnswersUpTo g.F.FnMut (ByKeyChange bytes) tt l.fn.f (at all) (at left) l.f;
      counted : AreCounted 2 (lookup_least l.old + lookup_least l.new) all left l.fn.work l.work;
    }

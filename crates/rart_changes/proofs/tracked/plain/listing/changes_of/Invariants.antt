use Rattle.std.proofs.Common.{◌≡◌, ◌++◌, length, map}
use Rattle.std.specs.Vec.Iter.{into_iter_items, into_iter_len}
use Rattle.rart_changes.specs.ChangeVisits.{changes_at}
use Rattle.rart_changes.specs.Shown.{shown_change}
use Rattle.rart_changes.proofs.tracked.plain.listing.changes_of.Given as goal

abbrev pub invariant-loop-key : goal.invariant-loop-key
invariant-loop-key g l =
    let bytes = g.K.KeyTrait.bytes in
    let all = map bytes l.fn.keys.items in
    let left = map bytes (into_iter_items l.key-iterator) in
    let at = changes_at g.V.PartialEq.eq l.old.content l.new.content in
    record {
      length : into_iter_len l.key-iterator ≡ length (into_iter_items l.key-iterator);
      listed : map (shown_change {V = g.row.V.Denot} bytes) l.list.items ++ at left ≡ at all;
    }

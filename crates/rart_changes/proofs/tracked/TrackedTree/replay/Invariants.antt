use Rattle.std.proofs.Common.{◌≡◌, ◌+◌, ◌<◌, ◌^◌, ◌⊎◌, ℕ, List, length, map}
use Rattle.std.specs.Prelude.{Contains, IsTrue}
use Rattle.std.specs.Vec.Iter.{into_iter_items, into_iter_len}
use Rattle.rart_maps.specs.ChangeLists.{effects, patched}
use Rattle.rart_maps.specs.FoundLaws.{KeysAscend}
use Rattle.rart_changes.specs.ChangeVisits.{changes_at}
use Rattle.rart_changes.specs.Tracking.{is_in}
use Rattle.rart_changes.proofs.tracked.TrackedTree.replay.Given as goal

abbrev pub invariant-loop-key : goal.invariant-loop-key
invariant-loop-key g l =
    let bytes = g.K.KeyTrait.bytes in
    let all = map bytes l.fn.keys.items in
    let items = into_iter_items l.key-iterator in
    let at = changes_at g.V.PartialEq.eq l.old.content l.new.content in
    record {
      count : into_iter_len l.key-iterator ≡ length items;
      room : l.self.current.number + length items < 2 ^ 64;
      base : l.self.base ≡ l.fn.self.base;
      current : patched l.self.current.content (at (map bytes items))
          ≡ patched l.fn.self.current.content (at all);
      among : (q : List ℕ) → Contains (map bytes items) q → Contains all q;
      ascending : KeysAscend bytes items;
      number : l.self.current.number + effects l.self.current.content (at (map bytes items))
          ≡ l.fn.self.current.number + effects l.fn.self.current.content (at all);
      touched : (q : List ℕ) → IsTrue (is_in l.self.touched q)
          → Contains all q ⊎ IsTrue (is_in l.fn.self.touched q);
    }

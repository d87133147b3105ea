use Rattle.std.proofs.Common.{ℕ, List}
use Rattle.rart_maps.specs.Iterations.{ByKey}
use Rattle.rart_family.specs.Collections.{pairs_of}
use Rattle.rart_family.proofs.CollectionLemmas.{Collected}
use Rattle.rart_family.proofs.family.walks.entries_of.Given as goal

abbrev pub invariant-loop-item : goal.invariant-loop-item
invariant-loop-item g l =
    let walk = goal.iterator-loop-item g in
    let bytes = g.K.KeyTrait.bytes in
    record {
      starts : walk.can_next l.item-iterator;
      ends : walk.is_finite l.item-iterator;
      collected : (found : List (List ℕ × g.row.V.Denot)) →
          Collected walk.next_gives (ByKey bytes) (pairs_of bytes l.entries.items) l.item-iterator
          found l.fn.walk;
    }

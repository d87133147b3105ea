use Rattle.std.proofs.Common.{List}
use Rattle.rart_maps.specs.Iterations.{ByReference}
use Rattle.rart_family.proofs.CollectionLemmas.{Collected}
use Rattle.rart_family.proofs.family.walks.values_of.Given as goal

abbrev pub invariant-loop-item : goal.invariant-loop-item
invariant-loop-item g l =
    let walk = goal.iterator-loop-item g in
    record {
      starts : walk.can_next l.item-iterator;
      ends : walk.is_finite l.item-iterator;
      collected : (found : List g.row.V.Denot) →
          Collected walk.next_gives ByReference l.values.items l.item-iterator found l.fn.walk;
    }

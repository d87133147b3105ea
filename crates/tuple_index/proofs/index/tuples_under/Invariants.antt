use Rattle.std.proofs.Common.{◌≡◌, List, map}
use Rattle.rart_maps.specs.Iterations.{IsTakenFrom}
use Rattle.rart_maps.specs.Pairs.{under}
use Rattle.tuple_index.specs.Decoding.{tuple_at}
use Rattle.tuple_index.specs.Indexes.{Pair}
use Rattle.tuple_index.proofs.index.tuples_under.Given as goal

abbrev pub invariant-loop-item : goal.invariant-loop-item
invariant-loop-item l =
    (taken : List Pair)
    × IsTakenFrom (under l.tree.content l.prefix.bytes.items) taken l.item-iterator
    × (l.found.items ≡ map (λ pair. tuple_at pair.0) taken)

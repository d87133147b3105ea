use Rattle.std.proofs.Common.{Some, ℕ, List, map, ap}
use Rattle.rart_versioned.proofs.counted.tree.VersionedAdaptiveRadixTree.values_iter_rev.Goals as goal

pub returns : goal.returns
returns g c =
    ap (λ (list : List (List ℕ × g.row.V.Denot)). Some (map (λ pair. pair.1) list)) c.in_ok-walk.ensures.pairs

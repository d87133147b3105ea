use Rattle.std.proofs.Common.{Some, ℕ, List, ap}
use Rattle.rart_versioned.proofs.counted.tree.VersionedAdaptiveRadixTree.iter_rev.Goals as goal

pub returns : goal.returns
returns g c =
    ap (λ (list : List (List ℕ × g.row.V.Denot)). Some list) c.in_ok-walk.ensures.pairs

use Rattle.std.proofs.Common.{Some, ℕ, List, reverse, ap, ◌∙◌}
use Rattle.rart_maps.specs.Pairs.{under}
use Rattle.rart_versioned.proofs.counted.tree.VersionedAdaptiveRadixTree.prefix_iter_rev.Goals as goal

pub returns : goal.returns
returns g c =
    ap (λ (list : List (List ℕ × g.row.V.Denot)). Some list)
    (c.in_ok-walk.ensures.pairs
    ∙ ap (λ prefix. reverse (under c.args.self.now.content prefix)) c.as_slice.ensures)

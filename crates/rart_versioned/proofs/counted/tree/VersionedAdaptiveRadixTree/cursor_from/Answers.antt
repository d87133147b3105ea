use Rattle.std.proofs.Common.{sym, ◌∙◌}
use Rattle.std.specs.Range.Bound.{bound_map}
use Rattle.rart_versioned.proofs.VersionIterationLemmas.{within-from_low}
use Rattle.rart_versioned.proofs.counted.tree.VersionedAdaptiveRadixTree.cursor_from.Goals as goal

pub returns : goal.returns
returns g c =
    c.in_ok-walk.ensures.pairs
    ∙ sym (within-from_low c.args.self.now.content (bound_map (λ low. low.now) c.args.low))

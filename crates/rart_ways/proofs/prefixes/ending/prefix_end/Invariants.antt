use Rattle.rart_node.specs.Shape.{height}
use Rattle.rart_ways.proofs.UnderPrefixLemmas.{IsPrefixSearch}
use Rattle.rart_ways.proofs.prefixes.ending.prefix_end.Given as goal

abbrev pub invariant-down : goal.invariant-down
invariant-down g l =
    IsPrefixSearch l.fn.root.shape l.fn.prefix l.fn.work l.steps l.at.shape l.rest l.work

abbrev pub decreases-down : goal.decreases-down
decreases-down g l = height l.at.shape

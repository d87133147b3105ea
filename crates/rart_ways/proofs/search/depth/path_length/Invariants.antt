use Rattle.rart_node.specs.Shape.{height}
use Rattle.rart_ways.proofs.LookupPathLemmas.{IsSearchDown}
use Rattle.rart_ways.proofs.search.depth.path_length.Given as goal

abbrev pub invariant-down : goal.invariant-down
invariant-down g l =
    IsSearchDown l.fn.root.shape l.fn.key l.fn.work l.steps
    l.at.shape l.rest l.work

abbrev pub decreases-down : goal.decreases-down
decreases-down g l = height l.at.shape

use Rattle.std.proofs.Common.{◌-◌, ◌≡◌, length}
use Rattle.rart_ways.specs.Runs.{run_from, shared}
use Rattle.rart_ways.proofs.BuildingLemmas.{Building}
use Rattle.rart_ways.proofs.sorted.+tree_of.Given as goal

abbrev pub decreases-tree_of : goal.decreases-tree_of
decreases-tree_of g l = length l.pairs.now.items - l.from

abbrev pub invariant-building : goal.invariant-building
invariant-building g l =
    Building g.K.KeyTrait.bytes l.first l.at l.count l.fn.pairs.items
    (shared (run_from g.K.KeyTrait.bytes l.fn.from l.fn.depth l.fn.pairs.items)) l.fn.work.made
    l.pairs.items l.node.shape l.work.made
    × (l.work.entered ≡ l.fn.work.entered)

abbrev pub decreases-building : goal.decreases-building
decreases-building g l = length l.pairs.items

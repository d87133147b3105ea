use Rattle.std.proofs.Common.{◌≡◌, ◌+◌, None, length}
use Rattle.rart_node.specs.KeyPaths.{HoldsNothing, no_extent}
use Rattle.rart_walks.specs.WalkFields.{IsWalk, cursor}
use Rattle.rart_versioned.proofs.plain.count.count_left.Given as goal

abbrev pub invariant-loop-walk : goal.invariant-loop-walk
invariant-loop-walk g l = record {
  walk : IsWalk HoldsNothing no_extent None l.walk;
  left : l.count + length (cursor l.walk).pairs ≡ length (cursor l.fn.walk).pairs;
}

abbrev pub decreases-loop-walk : goal.decreases-loop-walk
decreases-loop-walk g l = length (cursor l.walk).pairs

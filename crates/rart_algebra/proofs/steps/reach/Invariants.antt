use Rattle.std.proofs.Common.{◌≡◌, ◌⊎◌}
use Rattle.rart_lockstep.specs.TreeCursorFields.{cursor_shape}
use Rattle.rart_node.specs.Shape.{height}
use Rattle.rart_node.specs.Trees.{IsTree}
use Rattle.rart_algebra.proofs.ReachLemmas.{HasPassed}
use Rattle.rart_algebra.proofs.steps.reach.Given as goal

abbrev pub invariant-along : goal.invariant-along
invariant-along g l = record {
  tree : IsTree (cursor_shape l.right);
  whole : (l.left.from ≡ 0) ⊎ (l.right.from ≡ 0);
  passed : HasPassed (cursor_shape l.fn.left) (cursor_shape l.fn.right) l.fn.work
      (cursor_shape l.left) (cursor_shape l.right) l.work;
}

abbrev pub decreases-along : goal.decreases-along
decreases-along g l = height (cursor_shape l.right)

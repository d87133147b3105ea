use Rattle.std.proofs.Common.{◌-◌, ◌≡◌, ◌+◌, ◌≤◌, drop}
use Rattle.rart_below.specs.Bytes.{common_length}
use Rattle.rart_lockstep.proofs.tree_cursors.short_common.Given as goal

abbrev pub invariant-loop-common : goal.invariant-loop-common
invariant-loop-common l =
    (l.common ≤ l.shorter)
    × (l.common + common_length (drop l.common l.left) (drop l.common l.right)
    ≡ common_length l.left l.right)

abbrev pub decreases-loop-common : goal.decreases-loop-common
decreases-loop-common l = l.shorter - l.common

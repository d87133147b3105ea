use Rattle.std.proofs.Common.{◌-◌, ◌≤◌, ◌+◌}
use Rattle.rart_below.specs.Bytes.{common_length}
use Rattle.rart_below.proofs.beginnings.compare_by_eight.Given as goal

abbrev pub invariant-loop-place : goal.invariant-loop-place
invariant-loop-place l =
    (l.place ≤ l.last + 8) × (l.place ≤ common_length l.left l.right)

abbrev pub decreases-loop-place : goal.decreases-loop-place
decreases-loop-place l = l.last - l.place

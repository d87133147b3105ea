use Rattle.std.proofs.Common.{◌-◌, ◌≤◌}
use Rattle.rart_below.specs.Bytes.{common_length}
use Rattle.rart_below.proofs.beginnings.equal_by_eight.Given as goal

abbrev pub invariant-loop-matched : goal.invariant-loop-matched
invariant-loop-matched l =
    (l.matched ≤ l.shorter) × (l.matched ≤ common_length l.left l.right)

abbrev pub decreases-loop-matched : goal.decreases-loop-matched
decreases-loop-matched l = l.shorter - l.matched

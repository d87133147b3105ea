use Rattle.std.proofs.Common.{◌-◌, ◌≤◌, ◌≡◌, ◌+◌, drop}
use Rattle.rart_below.specs.Bytes.{common_length}
use Rattle.rart_below.proofs.beginnings.begins_by_bytes.Given as goal

abbrev pub invariant-loop-matched : goal.invariant-loop-matched
invariant-loop-matched l =
    (l.matched ≤ l.count)
    × (l.matched + common_length (drop l.matched l.beginning) (drop l.matched l.bytes)
    ≡ common_length l.beginning l.bytes)

abbrev pub decreases-loop-matched : goal.decreases-loop-matched
decreases-loop-matched l = l.count - l.matched

use Rattle.std.proofs.Common.{◌≡◌, ◌-◌}
use Rattle.rart_below.proofs.byte_set.BytesLeft.take_first.Given as goal

abbrev pub invariant-loop-self : goal.invariant-loop-self
invariant-loop-self l = l.self.left ≡ l.fn.self.left

abbrev pub decreases-loop-self : goal.decreases-loop-self
decreases-loop-self l = 4 - l.self.place

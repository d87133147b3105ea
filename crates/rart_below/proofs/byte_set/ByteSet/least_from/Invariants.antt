use Rattle.std.proofs.Common.{◌-◌}
use Rattle.rart_below.specs.ByteSets.{has_byte}
use Rattle.rart_below.proofs.LeastByteLemmas.{HasNoneTo}
use Rattle.rart_below.proofs.byte_set.ByteSet.least_from.Given as goal

abbrev pub invariant-loop-first : goal.invariant-loop-first
invariant-loop-first l = HasNoneTo l.from l.first (has_byte l.self)

abbrev pub decreases-loop-first : goal.decreases-loop-first
decreases-loop-first l = 256 - l.first

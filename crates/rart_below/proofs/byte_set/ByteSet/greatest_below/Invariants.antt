use Rattle.rart_below.specs.ByteSets.{has_byte}
use Rattle.rart_below.proofs.GreatestByteLemmas.{HasNoneDownTo}
use Rattle.rart_below.proofs.byte_set.ByteSet.greatest_below.Given as goal

abbrev pub invariant-loop-unseen : goal.invariant-loop-unseen
invariant-loop-unseen l = HasNoneDownTo l.end l.unseen (has_byte l.self)

abbrev pub decreases-loop-unseen : goal.decreases-loop-unseen
decreases-loop-unseen l = l.unseen

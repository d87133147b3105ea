use Rattle.std.proofs.Common.{arith}
use Rattle.rart_below.proofs.CommonLengthLemmas.{common_length-split}
use Rattle.rart_below.proofs.beginnings.prefix_length.Goals as goal

pub loop-matched-init : goal.loop-matched-init
loop-matched-init c = (
  omega arith,
  common_length-split _ _ _ c.equal_blocks-matched.ensures.equal,
)

use Rattle.std.proofs.Common.{arith}
use Rattle.rart_below.proofs.ByteSetLemmas.{bit-removed}
use Rattle.rart_below.proofs.byte_set.ByteSet.remove.Goals as goal

pub returns : goal.returns
returns c =
    rw c.from.ensures (bit-removed c.args.self.now.words c.args.byte (omega arith)
    (omega (arith, c.ranges.byte.fits)))

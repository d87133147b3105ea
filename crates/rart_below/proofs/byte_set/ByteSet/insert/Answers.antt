use Rattle.std.proofs.Common.{arith}
use Rattle.rart_below.proofs.ByteSetLemmas.{bit-inserted}
use Rattle.rart_below.proofs.byte_set.ByteSet.insert.Goals as goal

pub returns : goal.returns
returns c =
    rw c.from.ensures (bit-inserted c.args.self.now.words c.args.byte (omega arith)
    (omega (arith, c.ranges.byte.fits)))

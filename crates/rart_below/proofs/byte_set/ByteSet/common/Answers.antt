use Rattle.std.proofs.Common.{arith}
use Rattle.rart_below.proofs.ByteSetLemmas.{bit-common, common_words, and-past}
use Rattle.rart_below.proofs.byte_set.ByteSet.common.Goals as goal

pub returns : goal.returns
returns c =
    let one = c.args.self.now.words in
    let other = c.args.other.now.words in
    λ byte. bit-common one other (common_words one other) byte
    (and-past one other (omega arith) (omega arith))

use Rattle.std.proofs.Common.{◌<◌, get_or, arith}
use Rattle.rart_below.proofs.ByteSetLemmas.{first-taken}
use Rattle.rart_below.proofs.byte_set.BytesLeft.take_first.Goals as goal

pub returns-then-word-ne0 : goal.returns-then-word-ne0
returns-then-word-ne0 c =
    let left = c.loop-self.self in
    let words = left.left.words in
    let some : 0 < get_or words left.place 0 = omega (arith, c.if-word-ne0.true) in
    let taken = first-taken words left.place (omega arith)
    (omega (arith, c.loop-self-test.true)) left.none_before some (omega arith) in
    rw (← c.loop-self.invariant) taken

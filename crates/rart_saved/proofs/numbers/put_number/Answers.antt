use Rattle.std.proofs.Common.{arith}
use Rattle.rart_saved.proofs.SevenBitLemmas.{written-on, written-last}
use Rattle.rart_saved.proofs.numbers.put_number.Goals as goal

pub loop-left-preserved : goal.loop-left-preserved
loop-left-preserved c =
    written-on _ _ _ _ _ (omega (arith, c.loop-left.auto.left-fits)) c.loop-left-test.true
    c.loop-left.invariant c.in_ok-push.ensures.items

pub returns : goal.returns
returns c =
    written-last _ _ _ _ _ c.loop-left-test.false c.loop-left.invariant
    c.in_ok-push-2.ensures.items

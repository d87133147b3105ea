use Rattle.std.proofs.Common.{◌<◌, ◌+◌, ◌-◌, ◌*◌, ◌/◌, ◌%◌, ◌^◌, ◌≡◌, w64, bit_and, get_or, subst, arith, Some}
use Rattle.std.specs.Int.{leading_zeros}
use Rattle.std.proofs.lemmas.Nat.{and_le_l}
use Rattle.rart_below.specs.ByteSets.{has_byte, IsGreatestBelow}
use Rattle.rart_below.proofs.LeastByteLemmas.{word-bits}
use Rattle.rart_below.proofs.GreatestByteLemmas.{greatest-here, greatest_down_to, mask-to, none-here, none_down_to}
use Rattle.rart_below.proofs.byte_set.ByteSet.greatest_below.Goals as goal

pub returns-then-word-ne0 : goal.returns-then-word-ne0
returns-then-word-ne0 c =
    let holds = has_byte c.args.self.now in
    let unseen = c.loop-unseen.unseen in
    let last = unseen - 1 in
    let whole = get_or c.args.self.now.words (last / 64) 0 in
    let word = bit_and whole ((2 ^ 64 - 1) / 2 ^ (63 - last % 64)) in
    let fits : whole < 2 ^ 64 = omega arith in
    let found =
    greatest-here holds last whole word (word-bits c.args.self.now.words last) (mask-to last whole)
    (omega (arith, c.if-word-ne0.true))
    (omega (arith, fits, and_le_l whole ((2 ^ 64 - 1) / 2 ^ (63 - last % 64)))) in
    let greatest = last / 64 * 64 + 63 - leading_zeros w64 word in
    let next : last + 1 ≡ unseen = omega (arith, c.loop-unseen-test.true) in
    greatest_down_to c.args.end unseen greatest holds c.loop-unseen.invariant
    (subst (λ (end : _). IsGreatestBelow end holds (Some greatest)) next found.1)

pub loop-unseen-preserved : goal.loop-unseen-preserved
loop-unseen-preserved c =
    let holds = has_byte c.args.self.now in
    let last = c.loop-unseen.unseen - 1 in
    let whole = get_or c.args.self.now.words (last / 64) 0 in
    let word = bit_and whole ((2 ^ 64 - 1) / 2 ^ (63 - last % 64)) in
    none_down_to c.args.end c.loop-unseen.unseen (last / 64 * 64) holds c.loop-unseen.invariant
    (omega arith)
    (λ byte le lt. none-here holds last whole word (word-bits c.args.self.now.words last)
    (mask-to last whole) (omega (arith, c.if-word-ne0.false)) byte le (omega (arith, lt)))

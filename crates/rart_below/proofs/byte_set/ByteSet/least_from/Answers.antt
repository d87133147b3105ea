use Rattle.std.proofs.Common.{◌<◌, ◌/◌, ◌%◌, ◌^◌, get_or, refl, arith}
use Rattle.std.proofs.Math.Nat.{div-le_self}
use Rattle.rart_below.specs.ByteSets.{has_byte}
use Rattle.rart_below.proofs.LeastByteLemmas.{word-bits, none-here, least-here, none_to, least_to}
use Rattle.rart_below.proofs.byte_set.ByteSet.least_from.Goals as goal

pub overflow_cast-result-then-word-ne0 : goal.overflow_cast-result-then-word-ne0
overflow_cast-result-then-word-ne0 c =
    let words = c.args.self.now.words in
    let first = c.loop-first.first in
    let whole = get_or words (first / 64) 0 in
    let fits : whole < 2 ^ 64 = omega arith in
    let found =
    least-here (has_byte c.args.self.now) first whole _ fits (word-bits words first) refl
    (omega (arith, c.if-word-ne0.true))
    (omega (arith, fits, div-le_self whole (2 ^ (first % 64)))) in
    record { fits = omega (arith, found.0, c.loop-first-test.true) }

pub returns-then-word-ne0 : goal.returns-then-word-ne0
returns-then-word-ne0 c =
    let words = c.args.self.now.words in
    let first = c.loop-first.first in
    let whole = get_or words (first / 64) 0 in
    let fits : whole < 2 ^ 64 = omega arith in
    let found =
    least-here (has_byte c.args.self.now) first whole _ fits (word-bits words first) refl
    (omega (arith, c.if-word-ne0.true))
    (omega (arith, fits, div-le_self whole (2 ^ (first % 64)))) in
    least_to c.args.from first _ (has_byte c.args.self.now) c.loop-first.invariant found.1

pub loop-first-preserved : goal.loop-first-preserved
loop-first-preserved c =
    let words = c.args.self.now.words in
    let first = c.loop-first.first in
    let whole = get_or words (first / 64) 0 in
    let fits : whole < 2 ^ 64 = omega arith in
    none_to c.args.from first _ (has_byte c.args.self.now) c.loop-first.invariant (omega arith)
    (none-here (has_byte c.args.self.now) first whole _ fits (word-bits words first) refl
    (omega (arith, c.if-word-ne0.false)))

use Rattle.std.proofs.Common.{sym, ◌∙◌, ◌+◌, arith, length}
use Rattle.std.proofs.lemmas.Bool.{eqb-false}
use Rattle.vtree_lines.proofs.NumberTextLemmas.{none_by_digit, none_by_value, some_number, digits_next, value_next}
use Rattle.vtree_lines.proofs.words.number_of.Goals as goal

pub returns-then-not-is_ascii_digit : goal.returns-then-not-is_ascii_digit
returns-then-not-is_ascii_digit c =
    sym (none_by_digit c.args.word.now c.loop-byte.byte-index c.loop-byte-test.true
    (sym c.is_ascii_digit.ensures.value ∙ c.if-not-is_ascii_digit.true))

pub returns-in_err-checked_mul : goal.returns-in_err-checked_mul
returns-in_err-checked_mul c = c.from_residual.ensures
    ∙ sym (none_by_value c.args.word.now (c.loop-byte.byte-index + 1)
    (omega (
      arith,
      c.in_err-checked_mul.ensures,
      c.loop-byte.invariant.value,
      value_next c.args.word.now c.loop-byte.byte-index c.loop-byte-test.true,
    )))

pub returns-in_err-number : goal.returns-in_err-number
returns-in_err-number c = c.from_residual-in_err-number.ensures
    ∙ sym (none_by_value c.args.word.now (c.loop-byte.byte-index + 1)
    (omega (
      arith,
      c.in_err-number.ensures,
      c.in_ok-checked_mul.ensures.1,
      c.from.ensures,
      c.loop-byte.invariant.value,
      value_next c.args.word.now c.loop-byte.byte-index c.loop-byte-test.true,
    )))

pub loop-byte-preserved : goal.loop-byte-preserved
loop-byte-preserved c = record {
  digits = digits_next c.args.word.now c.loop-byte.byte-index c.loop-byte-test.true
      c.loop-byte.invariant.digits
      (sym c.is_ascii_digit.ensures.value ∙ c.if-not-is_ascii_digit.false);
  value = omega (
    arith,
    c.in_ok-number.ensures.1,
    c.in_ok-checked_mul.ensures.1,
    c.from.ensures,
    c.loop-byte.invariant.value,
    value_next c.args.word.now c.loop-byte.byte-index c.loop-byte-test.true,
  );
  small = omega (arith, c.in_ok-number.ensures.0, c.in_ok-number.ensures.1);
}

pub returns : goal.returns
returns c = sym (some_number c.args.word.now c.loop-byte.number c.loop-byte.byte-index
    c.loop-byte-test.false
    (omega (
      arith,
      eqb-false (length c.args.word.now) 0
          (sym c.is_empty.ensures ∙ c.if-is_empty.false),
    )) c.if-word-gt20.false
    c.loop-byte.invariant.digits c.loop-byte.invariant.value c.loop-byte.invariant.small)

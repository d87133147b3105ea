use Rattle.std.proofs.Common.{sym, ◌∙◌, arith, ap, drop, true, false, slice_index, ◌≡◌}
use Rattle.example_store.specs.Log.{next_sum}
use Rattle.example_store.proofs.LogLemmas.{text_cut, text_long, text_behind, when_none}
use Rattle.example_store.proofs.log.line_of.Goals as goal

pub returns-then-text-lt16-clause-none : goal.returns-then-text-lt16-clause-none
returns-then-text-lt16-clause-none c = λ line e.
    absurd (omega (arith, c.if-text-lt16.true, text_long c.args.sum.now c.args.text.now line e))

pub returns-in_err-space-clause-none : goal.returns-in_err-space-clause-none
returns-in_err-space-clause-none c = when_none c.from_residual.result (λ line e.
    absurd (omega (arith, c.in_err-space.ensures.cases, text_behind c.args.sum.now c.args.text.now _ _ line c.split_at.ensures.by_index.0 c.split_at.ensures.front_len e)))

pub returns-then-space-ne32-clause-none : goal.returns-then-space-ne32-clause-none
returns-then-space-ne32-clause-none c = λ line e.
    let cut = text_cut c.args.sum.now c.args.text.now _ _ line c.split_at.ensures.by_index.0 c.split_at.ensures.front_len e in
    c.if-space-ne32.true (ap (λ s. slice_index s 0) (sym c.in_ok-space.ensures.cases.0 ∙ cut.1))

pub returns-then-not-is_same-clause-none : goal.returns-then-not-is_same-clause-none
returns-then-not-is_same-clause-none c = λ line e.
    let cut = text_cut c.args.sum.now c.args.text.now _ _ line c.split_at.ensures.by_index.0 c.split_at.ensures.front_len e in
    let same : c.in_ok-space.line.now ≡ line = ap (λ s. drop 1 s) (sym c.in_ok-space.ensures.cases.0 ∙ cut.1) in
    let no : false ≡ true = c.if-not-is_same.ensures.1
    (cut.0 ∙ ap (next_sum c.args.sum.now) (sym same) ∙ sym c.next_sum-next.ensures) in
    absurd (cc)

use Rattle.std.proofs.Common.{◌≡◌, length, sym, ap, ◌∙◌, map, arith, rules, tests, refl, eqb, true}
use Rattle.std.specs.Prelude.{OnErr, is_err}
use Rattle.std.specs.declared.result.Result.{Result}
use Rattle.std.specs.declared.result.Result.TheVariants.{Ok, Err}
use Rattle.std.proofs.lemmas.Iterator.Splits.{YieldsList-from_slice_split}
use Rattle.std.proofs.lemmas.Iterator.Consumers.{YieldsList-turn, YieldsList-end}
use Rattle.std.specs.Slice.Iter.{split_rest, split_done}
use Rattle.std.proofs.lemmas.List.{length-map}
use Rattle.vtree_lines.specs.Grammar.{word_of}
use Rattle.vtree_lines.specs.Words.{word_value}
use Rattle.vtree_lines.proofs.words.words_of.Goals as goal

err_gives : {T E : Type 0} (r : Result T E) (P : Type 0) → is_err r ≡ true → OnErr r P → P
err_gives (Ok x) P e h = absurd (cc)
err_gives (Err x) P e h = h

pub returns-clause-some : goal.returns-clause-some
returns-clause-some c =
    let into = c.into_iter-word-iterator.ensures.into_iter_gives in
    let e = YieldsList-end (YieldsList-from_slice_split _ (λ b. eqb b 32) c.args.line.now
    (ap split_rest into ∙ c.split-word-items.ensures.rest)
    (ap split_done into ∙ c.split-word-items.ensures.done) refl (λ x b q h. search (rules, tests)))
    c.loop-word.yielded _ c.loop-word.yielded_by _ _ c.in-None.is c.next.ensures.steps in
    c.loop-word.invariant.kept ∙ ap (map word_of) e.0

pub returns-then-is_err-clause-none : goal.returns-then-is_err-clause-none
returns-then-is_err-clause-none c =
    let into = c.into_iter-word-iterator.ensures.into_iter_gives in
    let e = YieldsList-turn (YieldsList-from_slice_split _ (λ b. eqb b 32) c.args.line.now
    (ap split_rest into ∙ c.split-word-items.ensures.rest)
    (ap split_done into ∙ c.split-word-items.ensures.done) refl (λ x b q h. search (rules, tests)))
    c.loop-word.yielded _ c.loop-word.yielded_by _ _ c.in-Some.word c.in-Some.is
    c.next.ensures.steps in
    let full : length c.loop-word.words.items ≡ 6 =
    err_gives c.try_push.result _
    (sym c.is_err.ensures.value ∙ c.if-is_err.true) c.try_push.ensures.full in
    omega (
      arith,
      e.0,
      full,
      ap length c.loop-word.invariant.kept,
      length-map c.loop-word.words.items word_value,
      length-map c.loop-word.yielded (λ word. word.now),
      length-map (map (λ word. word.now) c.loop-word.yielded) word_of,
    )

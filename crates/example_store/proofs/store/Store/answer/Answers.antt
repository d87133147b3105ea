use Rattle.std.proofs.Common.{refl, sym, ap, ◌∙◌}
use Rattle.example_store.specs.Kept.{Answered}
use Rattle.example_store.proofs.AnswerLemmas.{answers_kept, answers_left, answers_shown, tells_reply}
use Rattle.example_store.proofs.store.Store.answer.Goals as goal

pub returns-then-not-answer-clause-ok : goal.returns-then-not-answer-clause-ok
returns-then-not-answer-clause-ok g c =
    let kept = ap (λ (a : Answered). a.is_kept) c.answer.view_is in
    answers_shown _ _ _ _ _ c.self.view_is
    (answers_left _ _ _ c.answer_to-answer.result (sym kept ∙ c.if-not-answer.true)
    c.answer_to-answer.ensures.gives
    (c.answer_to-answer.ensures.left (sym kept ∙ c.if-not-answer.true)) refl refl refl
    (tells_reply _ _ _ _ c.has_bad_with-self-inside.ensures c.answer_to-answer.ensures.bad))

pub returns-clause-ok : goal.returns-clause-ok
returns-clause-ok g c =
    let kept = ap (λ (a : Answered). a.is_kept) c.answer.view_is in
    answers_shown _ _ _ _ _ c.self.view_is
    (answers_kept _ _ _ c.answer_to-answer.result c.answer_to-answer.new.family
    (sym kept ∙ c.if-not-answer.false) c.answer_to-answer.ensures.gives
    (c.answer_to-answer.ensures.kept (sym kept ∙ c.if-not-answer.false))
    c.in_ok-keep.ensures.family c.in_ok-keep.ensures.sum c.in_ok-keep.ensures.lines_left
    c.in_ok-keep.ensures.log c.in_ok-keep.ensures.bad)

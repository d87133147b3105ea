use Rattle.std.proofs.Common.{sym, ap, ◌∙◌}
use Rattle.example_store.specs.Kept.{Answered}
use Rattle.example_store.proofs.ReplayLemmas.{line_feedless, not_kept}
use Rattle.example_store.proofs.replay.Replayed.play.Goals as goal

pub answer_to-answer-requires : goal.answer_to-answer-requires
answer_to-answer-requires c =
    line_feedless c.args.text.now _ _ c.in-Some.ensures.some.0 c.requires.line

pub returns-then-not-answer-clause-err : goal.returns-then-not-answer-clause-err
returns-then-not-answer-clause-err c =
    not_kept c.args.text.now _ _ c.args.self.now _ _ c.in-Some.ensures.some.0
    c.in-Some.ensures.some.1
    (c.answer_to-answer.ensures.never
    (sym (ap (λ (a : Answered). a.is_kept) c.answer.view_is) ∙ c.if-not-answer.true))
    c.refused.ensures

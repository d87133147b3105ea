use Rattle.vtree_lines.proofs.ReplyStepLemmas.{replies_once}
use Rattle.example_store.proofs.AnswerLemmas.{good_gives, good_left, good_never}
use Rattle.example_store.proofs.answer.answer_to.Goals as goal

pub returns-clause-gives : goal.returns-clause-gives
returns-clause-gives c = good_gives _ _ c.args.line.now _ _ c.in-Some.ensures
    (replies_once (λ key. key.bytes.items) _ _ _ _ c.reply-reply.ensures.step)

pub returns-clause-kept : goal.returns-clause-kept
returns-clause-kept c = λ kept. record {
  command = _;
  reply = _;
  whole = c.requires;
  says = c.in-Some.ensures;
  steps = replies_once (λ key. key.bytes.items) _ _ _ _ c.reply-reply.ensures.step;
  changes = c.is_kept.ensures.yes kept;
}

pub returns-clause-left : goal.returns-clause-left
returns-clause-left c = λ left. good_left _ _ _ _
    (replies_once (λ key. key.bytes.items) _ _ _ _ c.reply-reply.ensures.step)
    (c.is_kept.ensures.no left)

pub returns-clause-never : goal.returns-clause-never
returns-clause-never c = λ left. good_never _ _ c.args.line.now _ _ c.in-Some.ensures
    (replies_once (λ key. key.bytes.items) _ _ _ _ c.reply-reply.ensures.step)
    (c.is_kept.ensures.no left)

use Rattle.vtree_lines.proofs.ReplyStepLemmas.{replies_once}
use Rattle.vtree_lines.proofs.session.Session.reply_to.Goals as goal

pub returns-clause-reply : goal.returns-clause-reply
returns-clause-reply c = replies_once (λ key. key.bytes.items) _ _ _ _ c.reply.ensures.step

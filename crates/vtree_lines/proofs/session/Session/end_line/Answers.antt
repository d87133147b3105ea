use Rattle.vtree_lines.proofs.SessionLemmas.{ends_good}
use Rattle.vtree_lines.proofs.session.Session.end_line.Goals as goal

pub returns-in-Some-clause-ends : goal.returns-in-Some-clause-ends
returns-in-Some-clause-ends g c = λ line reading. (
  _,
  ends_good line c.args.self.now c.reply_to-reply.new.self _ _
      (c.in-Some.ensures line reading) c.reply_to-reply.ensures.reply
      c.reply_to-reply.ensures.served,
  c.write_reply.ensures,
)

use Rattle.std.proofs.Common.{refl}
use Rattle.vtree_lines.proofs.SessionLemmas.{takes_feed, serving_byte}
use Rattle.vtree_lines.proofs.session.Session.take.Goals as goal

pub returns-then-byte-eq10 : goal.returns-then-byte-eq10
returns-then-byte-eq10 g c =
    takes_feed c.end_line.result c.args.byte c.args.self.now c.end_line.new.self _ _
    c.if-byte-eq10.true c.end_line.ensures.ends c.end_line.ensures.reading

pub returns : goal.returns
returns g c = λ taken origin h.
    serving_byte taken c.args.byte c.args.self.now c.push.new.self origin _ _ refl
    c.if-byte-eq10.false c.push.ensures.family c.push.ensures.served c.push.ensures.reading h

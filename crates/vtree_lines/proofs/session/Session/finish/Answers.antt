use Rattle.std.proofs.Common.{arith}
use Rattle.vtree_lines.proofs.SessionLemmas.{serves_all, serves_last, finishes_early}
use Rattle.vtree_lines.proofs.session.Session.finish.Goals as goal

pub returns-then-self-eq0 : goal.returns-then-self-eq0
returns-then-self-eq0 g c = λ taken origin h.
    serves_all taken c.args.self.now origin _ (omega (arith, c.if-self-eq0.true)) h

pub returns-in_err-end_line : goal.returns-in_err-end_line
returns-in_err-end_line g c =
    finishes_early c.from_residual.result c.args.self.now c.end_line.new.self _ _
    c.from_residual.ensures.0 c.if-self-eq0.false c.in_err-end_line.ensures.ends

pub returns : goal.returns
returns g c = λ taken origin h.
    serves_last taken c.args.self.now c.end_line.new.self origin _ _
    (omega (arith, c.if-self-eq0.false)) c.in_ok-end_line.ensures.ends h

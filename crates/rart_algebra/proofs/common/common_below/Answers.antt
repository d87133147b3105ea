use Rattle.std.proofs.Common.{ap, subst, ◌∙◌}
use Rattle.rart_lockstep.specs.TreeCursorFields.{cursor_shape}
use Rattle.rart_algebra.specs.Ahead.{MeetsUpTo}
use Rattle.rart_algebra.proofs.DescentLemmas.{meets-roots}
use Rattle.rart_algebra.proofs.common.common_below.Goals as goal

pub returns-in_err-made-clause-counted : goal.returns-in_err-made-clause-counted
returns-in_err-made-clause-counted g c =
    let left = c.args.left.now.shape in
    subst (λ z. MeetsUpTo left z c.args.work.now c.meet.new.work)
    (c.whole-right.ensures.shape ∙ c.open.ensures.shown)
    (meets-roots left (cursor_shape c.whole-right.result) c.args.work.now c.open.new.work
    c.meet.new.work (ap (λ z. z.entered) c.open.ensures.work)
    (ap (λ z. z.made) c.open.ensures.work) c.in_err-made.ensures.counted)

pub returns-clause-counted : goal.returns-clause-counted
returns-clause-counted g c =
    let left = c.args.left.now.shape in
    subst (λ z. MeetsUpTo left z c.args.work.now c.meet.new.work)
    (c.whole-right.ensures.shape ∙ c.open.ensures.shown)
    (meets-roots left (cursor_shape c.whole-right.result) c.args.work.now c.open.new.work
    c.meet.new.work (ap (λ z. z.entered) c.open.ensures.work)
    (ap (λ z. z.made) c.open.ensures.work) c.in_ok-made.ensures.counted)

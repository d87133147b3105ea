use Rattle.std.proofs.Common.{false, sym, ap, subst, ◌∙◌, Ok, arith}
use Rattle.std.specs.declared.alloc.AllocError.{AllocError}
use Rattle.rart_lockstep.specs.TreeCursorFields.{cursor_shape}
use Rattle.rart_node.proofs.NodeMergeLemmas.{if-ok}
use Rattle.rart_algebra.specs.Ahead.{EntersForCommon, JoinsUpTo, spare_of}
use Rattle.rart_algebra.specs.Parts.{shape_made}
use Rattle.rart_algebra.specs.Picks.{IsPickedOr, apart}
use Rattle.rart_algebra.proofs.CommonCountLemmas.{whatever}
use Rattle.rart_algebra.proofs.DescentLemmas.{joins-roots}
use Rattle.rart_algebra.proofs.PickLemmas.{picked-root}
use Rattle.rart_algebra.proofs.union.symmetric_difference_below.Goals as goal

pub returns-in_err-made-clause-counted : goal.returns-in_err-made-clause-counted
returns-in_err-made-clause-counted g c =
    let left = c.args.left.now.shape in
    subst (λ z. JoinsUpTo false left z c.args.work.now c.unite.new.work)
    (c.whole-right.ensures.shape ∙ c.open.ensures.shown)
    (joins-roots left (cursor_shape c.whole-right.result) c.args.work.now c.open.new.work
    c.unite.new.work (ap (λ z. z.entered) c.open.ensures.work)
    (ap (λ z. z.made) c.open.ensures.work) false 0 c.in_err-made.ensures.enters
    c.in_err-made.ensures.makes)

pub returns-clause-counted : goal.returns-clause-counted
returns-clause-counted g c =
    let left = c.args.left.now.shape in
    subst (λ z. JoinsUpTo false left z c.args.work.now c.unite.new.work)
    (c.whole-right.ensures.shape ∙ c.open.ensures.shown)
    (joins-roots left (cursor_shape c.whole-right.result) c.args.work.now c.open.new.work
    c.unite.new.work (ap (λ z. z.entered) c.open.ensures.work)
    (ap (λ z. z.made) c.open.ensures.work) false (spare_of {E = AllocError} (Ok c.in_ok-made.made))
    c.in_ok-made.ensures.enters c.in_ok-made.ensures.makes)

pub returns-clause-picked : goal.returns-clause-picked
returns-clause-picked g c =
    let left = c.args.left.now.shape in
    if-ok c.root_of.result
    (λ it is. subst (IsPickedOr apart left c.args.right.now.shape) (sym is)
    (subst (λ z. IsPickedOr apart left z (shape_made left c.in_ok-made.made))
    (c.whole-right.ensures.shape ∙ c.open.ensures.shown)
    (picked-root apart left (cursor_shape c.whole-right.result) c.in_ok-made.made
    c.requires.left c.in_ok-made.ensures.becomes)))
    c.root_of.ensures

pub returns-clause-least : goal.returns-clause-least
returns-clause-least g c =
    let left = c.args.left.now.shape in
    let one = ap (λ z. z.entered) c.open.ensures.work in
    let least = subst (λ z. EntersForCommon left z c.open.new.work c.unite.new.work)
    (c.whole-right.ensures.shape ∙ c.open.ensures.shown) c.in_ok-made.ensures.least in
    whatever c.root_of.result (omega (arith, one, least))

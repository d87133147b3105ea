use Rattle.std.proofs.Common.{◌≡◌, inr, is_some, drop, sym, ap, subst, ◌∙◌, arith}
use Rattle.rart_below.specs.Children.{child_at}
use Rattle.rart_lockstep.specs.TreeCursorFields.{cursor_shape}
use Rattle.rart_node.specs.Shape.{children_of, with_added, with_prefix}
use Rattle.rart_ways.proofs.PlanLemmas.{not_some-None}
use Rattle.rart_algebra.specs.Gains.{Gains}
use Rattle.rart_algebra.specs.Parts.{shape_now}
use Rattle.rart_algebra.proofs.GainLemmas.{rest-gained, rest-more, rest-nothing, rest-room, shown-some}
use Rattle.rart_algebra.proofs.gain.gain_rest.Goals as goal

pub returns-then-is_some-clause-gains : goal.returns-then-is_some-clause-gains
returns-then-is_some-clause-gains g c =
    let s = shape_now c.args.node.now.shape c.args.part in
    let t = cursor_shape c.args.at.now in
    rest-nothing s t c.args.byte c.requires.tree c.requires.first c.requires.order
    (ap (λ z. is_some (child_at c.args.byte (children_of z))) (sym c.node_now.ensures)
    ∙ shown-some (λ child. child.now.shape) c.seek_child.result
    (child_at c.args.byte (children_of c.node_now.result.now.shape)) c.seek_child.ensures
    ∙ sym c.is_some.ensures ∙ c.if-is_some.true)

pub returns-in_err-new-clause-more : goal.returns-in_err-new-clause-more
returns-in_err-new-clause-more g c =
    let s = shape_now c.args.node.now.shape c.args.part in
    let t = cursor_shape c.args.at.now in
    inr (rest-more s t c.args.byte c.requires.tree c.requires.first (not_some-None _
    (ap (λ z. is_some (child_at c.args.byte (children_of z))) (sym c.node_now.ensures)
    ∙ shown-some (λ child. child.now.shape) c.seek_child.result
    (child_at c.args.byte (children_of c.node_now.result.now.shape)) c.seek_child.ensures
    ∙ sym c.is_some.ensures ∙ c.if-is_some.false)))

pub returns-in_err-add_child-clause-counted : goal.returns-in_err-add_child-clause-counted
returns-in_err-add_child-clause-counted g c =
    let s = shape_now c.args.node.now.shape c.args.part in
    let t = cursor_shape c.args.at.now in
    let room = rest-room s t c.args.byte c.requires.tree c.requires.first c.in_ok-copy.copy.shape
    c.in_ok-copy.ensures.room in
    let entered = c.in_err-add_child.ensures.entered in
    let made = c.in_err-add_child.ensures.made in
    let one = ap (λ z. z.made) c.new.ensures.work in
    let none = ap (λ z. z.entered) c.new.ensures.work in
    let same = ap (λ z. z.made) c.in_ok-copy.ensures.still in
    let still = ap (λ z. z.entered) c.in_ok-copy.ensures.still in
    record {
      entered_grows = omega (arith, entered, none, still);
      entered_at_most = omega (arith, entered, none, still);
      made_grows = omega (arith, made, one, same, room);
      made_at_most = omega (arith, made, one, same, room);
    }

pub returns-in_err-add_child-clause-more : goal.returns-in_err-add_child-clause-more
returns-in_err-add_child-clause-more g c =
    let s = shape_now c.args.node.now.shape c.args.part in
    let t = cursor_shape c.args.at.now in
    inr (rest-more s t c.args.byte c.requires.tree c.requires.first (not_some-None _
    (ap (λ z. is_some (child_at c.args.byte (children_of z))) (sym c.node_now.ensures)
    ∙ shown-some (λ child. child.now.shape) c.seek_child.result
    (child_at c.args.byte (children_of c.node_now.result.now.shape)) c.seek_child.ensures
    ∙ sym c.is_some.ensures ∙ c.if-is_some.false)))

pub returns-clause-gains : goal.returns-clause-gains
returns-clause-gains g c =
    let s = shape_now c.args.node.now.shape c.args.part in
    let t = cursor_shape c.args.at.now in
    let copy = c.in_ok-copy.copy.shape in
    let none = not_some-None (child_at c.args.byte (children_of s))
    (ap (λ z. is_some (child_at c.args.byte (children_of z))) (sym c.node_now.ensures)
    ∙ shown-some (λ child. child.now.shape) c.seek_child.result
    (child_at c.args.byte (children_of c.node_now.result.now.shape)) c.seek_child.ensures
    ∙ sym c.is_some.ensures ∙ c.if-is_some.false) in
    let rest : c.in_ok-new.field-0.shape ≡ t =
    c.in_ok-new.ensures.shown ∙ c.in_ok-rest-2.ensures c.requires.clones
    ∙ ap (λ p. with_prefix p c.args.at.now.node.now.shape)
    (c.in_ok-rest.ensures ∙ ap (drop c.args.at.now.from) c.prefix.ensures) in
    subst (Gains s t)
    (sym (c.in_ok-add_child.ensures.ok ∙ ap (λ z. with_added c.args.byte z copy) rest))
    (rest-gained s t c.args.byte c.requires.tree c.requires.first copy c.in_ok-copy.ensures.room
    c.requires.order none)

pub returns-clause-counted : goal.returns-clause-counted
returns-clause-counted g c =
    let s = shape_now c.args.node.now.shape c.args.part in
    let t = cursor_shape c.args.at.now in
    let room = rest-room s t c.args.byte c.requires.tree c.requires.first c.in_ok-copy.copy.shape
    c.in_ok-copy.ensures.room in
    let entered = c.in_ok-add_child.ensures.entered in
    let made = c.in_ok-add_child.ensures.made in
    let one = ap (λ z. z.made) c.new.ensures.work in
    let none = ap (λ z. z.entered) c.new.ensures.work in
    let same = ap (λ z. z.made) c.in_ok-copy.ensures.still in
    let still = ap (λ z. z.entered) c.in_ok-copy.ensures.still in
    record {
      entered_grows = omega (arith, entered, none, still);
      entered_at_most = omega (arith, entered, none, still);
      made_grows = omega (arith, made, one, same, room);
      made_at_most = omega (arith, made, one, same, room);
    }

pub returns-clause-more : goal.returns-clause-more
returns-clause-more g c =
    let s = shape_now c.args.node.now.shape c.args.part in
    let t = cursor_shape c.args.at.now in
    inr (rest-more s t c.args.byte c.requires.tree c.requires.first (not_some-None _
    (ap (λ z. is_some (child_at c.args.byte (children_of z))) (sym c.node_now.ensures)
    ∙ shown-some (λ child. child.now.shape) c.seek_child.result
    (child_at c.args.byte (children_of c.node_now.result.now.shape)) c.seek_child.ensures
    ∙ sym c.is_some.ensures ∙ c.if-is_some.false)))

pub returns-clause-changed : goal.returns-clause-changed
returns-clause-changed g c =
    let s = shape_now c.args.node.now.shape c.args.part in
    let t = cursor_shape c.args.at.now in
    λ _. inr (rest-more s t c.args.byte c.requires.tree c.requires.first (not_some-None _
    (ap (λ z. is_some (child_at c.args.byte (children_of z))) (sym c.node_now.ensures)
    ∙ shown-some (λ child. child.now.shape) c.seek_child.result
    (child_at c.args.byte (children_of c.node_now.result.now.shape)) c.seek_child.ensures
    ∙ sym c.is_some.ensures ∙ c.if-is_some.false)))

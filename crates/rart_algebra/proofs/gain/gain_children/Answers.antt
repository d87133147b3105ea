use Rattle.std.proofs.Common.{inr, arith, is_some, sym, ap, subst, ◌∙◌}
use Rattle.rart_below.specs.ByteSets.{has_byte}
use Rattle.rart_node.specs.Shape.{children_of, value_of}
use Rattle.rart_ways.proofs.PlanLemmas.{not_some-None}
use Rattle.rart_algebra.specs.Gains.{AreAlone}
use Rattle.rart_algebra.specs.Parts.{shape_now}
use Rattle.rart_algebra.specs.Picks.{unless}
use Rattle.rart_algebra.proofs.AmongLemmas.{among-none}
use Rattle.rart_algebra.proofs.GainLemmas.{alone-have, among-some, gains-nothing, more-child, more-value, same-order}
use Rattle.rart_algebra.proofs.gain.gain_children.Goals as goal
use Rattle.rart_algebra.proofs.gain.gain_children.Goals.{else-count-eq0-via-then-count-eq0+else-is_none, else-count-eq0-via-else-count-eq0}

pub returns-then-is_none-clause-gains : goal.returns-then-is_none-clause-gains
returns-then-is_none-clause-gains g c =
    let s = shape_now c.args.node.now.shape c.args.part in
    let other = c.args.other.now.shape in
    let are = subst (λ z. AreAlone c.bytes_alone-alone.result (children_of z) (children_of other))
    c.node_now.ensures c.bytes_alone-alone.ensures in
    gains-nothing s other c.bytes_alone-alone.result are c.requires.order
    (among-none c.bytes_alone-alone.result (children_of other)
    (alone-have s other c.bytes_alone-alone.result are)
    (sym c.count_among-count.ensures.count ∙ c.if-count-eq0.true))
    (ap (λ z. unless (value_of other) (value_of z)) (sym c.node_now-2.ensures)
    ∙ sym c.in_ok-value.ensures
    ∙ not_some-None c.in_ok-value.value (grind (arith, c.is_none.ensures, c.if-is_none.true)))

pub with_children-requires-clause-order : goal.with_children-requires-clause-order
with_children-requires-clause-order g c =
    same-order (shape_now c.args.node.now.shape c.args.part) c.in_ok-copy.copy.shape
    c.requires.order c.in_ok-copy.ensures.room.children

pub returns-clause-changed : goal.returns-clause-changed
returns-clause-changed g c =
    let s = shape_now c.args.node.now.shape c.args.part in
    let other = c.args.other.now.shape in
    let alone = c.bytes_alone-alone.result in
    let are = subst (λ z. AreAlone alone (children_of z) (children_of other))
    c.node_now.ensures c.bytes_alone-alone.ensures in
    λ _. inr (elim c.else-count-eq0.branch [
      | else-count-eq0-via-then-count-eq0+else-is_none w ↦
          more-value s other alone are
          (ap (λ z. is_some (unless (value_of other) (value_of z))) (sym c.node_now-2.ensures)
          ∙ ap is_some (sym c.in_ok-value.ensures)
          ∙ grind (arith, w.is_none.ensures, w.if-is_none.false))
      | else-count-eq0-via-else-count-eq0 w ↦
          let byte = among-some (has_byte alone) (children_of other)
          (λ zero. w.if-count-eq0.false (c.count_among-count.ensures.count ∙ zero)) in
          more-child s other alone are byte.0 c.requires.other_order byte.1
    ])

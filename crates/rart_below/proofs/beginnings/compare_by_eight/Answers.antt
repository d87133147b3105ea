use Rattle.std.proofs.Common.{arith, ◌≤◌, ◌-◌, ◌∙◌, sym}
use Rattle.rart_below.specs.Bytes.{common_length}
use Rattle.rart_below.proofs.BlockLemmas.{longer_by_eight, HasBlock}
use Rattle.rart_below.proofs.BlockOrderLemmas.{order_by_block}
use Rattle.rart_below.proofs.CommonLengthLemmas.{byte_order_beginning}
use Rattle.rart_below.proofs.beginnings.compare_by_eight.Goals as goal

pub returns-then-eight_at : goal.returns-then-eight_at
returns-then-eight_at c =
    let in_left : HasBlock 8 c.loop-place.place c.args.left.now =
    record { within = omega arith; are_bytes = λ k. (c.type_inv.left k).fits } in
    let in_right : HasBlock 8 c.loop-place.place c.args.right.now =
    record { within = omega arith; are_bytes = λ k. (c.type_inv.right k).fits } in
    c.compare_blocks.ensures
    ∙ sym (order_by_block c.loop-place.place _ _ _ _ in_left in_right c.loop-place.invariant.1
    c.eight_at.ensures c.eight_at-in-loop-place.ensures c.if-eight_at.true)

pub loop-place-preserved : goal.loop-place-preserved
loop-place-preserved c =
    let in_left : HasBlock 8 c.loop-place.place c.args.left.now =
    record { within = omega arith; are_bytes = λ k. (c.type_inv.left k).fits } in
    let in_right : HasBlock 8 c.loop-place.place c.args.right.now =
    record { within = omega arith; are_bytes = λ k. (c.type_inv.right k).fits } in (
      omega arith,
      longer_by_eight c.loop-place.place c.eight_at.result _ _ in_left in_right
          c.eight_at.ensures (c.if-eight_at.false ∙ c.eight_at-in-loop-place.ensures)
          c.loop-place.invariant.1,
    )

pub returns-then-eight_at-2 : goal.returns-then-eight_at-2
returns-then-eight_at-2 c =
    let last = c.min-last.result - 8 in
    let in_left : HasBlock 8 last c.args.left.now =
    record { within = omega arith; are_bytes = λ k. (c.type_inv.left k).fits } in
    let in_right : HasBlock 8 last c.args.right.now =
    record { within = omega arith; are_bytes = λ k. (c.type_inv.right k).fits } in
    let le : last ≤ common_length c.args.left.now c.args.right.now =
    omega (arith, c.loop-place.invariant) in
    c.compare_blocks-then-eight_at-2.ensures
    ∙ sym (order_by_block last _ _ _ _ in_left in_right le
    c.eight_at-2.ensures c.eight_at-3.ensures c.if-eight_at-2.true)

pub returns : goal.returns
returns c =
    let last = c.min-last.result - 8 in
    let in_left : HasBlock 8 last c.args.left.now =
    record { within = omega arith; are_bytes = λ k. (c.type_inv.left k).fits } in
    let in_right : HasBlock 8 last c.args.right.now =
    record { within = omega arith; are_bytes = λ k. (c.type_inv.right k).fits } in
    let most =
    longer_by_eight last c.eight_at-2.result _ _ in_left in_right
    c.eight_at-2.ensures (c.if-eight_at-2.false ∙ c.eight_at-3.ensures)
    (omega (arith, c.loop-place.invariant)) in
    c.cmp.ensures
    ∙ sym (byte_order_beginning c.args.left.now c.args.right.now (grind (arith, most)))

use Rattle.std.proofs.Common.{arith, ◌-◌, ◌∙◌}
use Rattle.rart_below.proofs.BlockLemmas.{longer_by_four, HasBlock}
use Rattle.rart_below.proofs.beginnings.equal_by_four.Goals as goal

pub returns-then-four_at-2-clause-equal : goal.returns-then-four_at-2-clause-equal
returns-then-four_at-2-clause-equal c =
    let last = c.args.shorter - 4 in
    let first_left : HasBlock 4 0 c.args.left.now =
    record { within = omega arith; are_bytes = λ k. (c.type_inv.left k).fits } in
    let first_right : HasBlock 4 0 c.args.right.now =
    record { within = omega arith; are_bytes = λ k. (c.type_inv.right k).fits } in
    let first =
    longer_by_four 0 c.four_at.result _ _ first_left first_right
    c.four_at.ensures (c.if-four_at.false ∙ c.four_at-2.ensures) (omega arith) in
    let in_left : HasBlock 4 last c.args.left.now =
    record { within = omega arith; are_bytes = λ k. (c.type_inv.left k).fits } in
    let in_right : HasBlock 4 last c.args.right.now =
    record { within = omega arith; are_bytes = λ k. (c.type_inv.right k).fits } in
    let most =
    longer_by_four last c.four_at-3.result _ _ in_left in_right
    c.four_at-3.ensures (c.if-four_at-2.true ∙ c.four_at-4.ensures)
    (omega (arith, first)) in
    omega (arith, most)

pub returns-clause-equal : goal.returns-clause-equal
returns-clause-equal c =
    let first_left : HasBlock 4 0 c.args.left.now =
    record { within = omega arith; are_bytes = λ k. (c.type_inv.left k).fits } in
    let first_right : HasBlock 4 0 c.args.right.now =
    record { within = omega arith; are_bytes = λ k. (c.type_inv.right k).fits } in
    let first =
    longer_by_four 0 c.four_at.result _ _ first_left first_right
    c.four_at.ensures (c.if-four_at.false ∙ c.four_at-2.ensures) (omega arith) in
    omega (arith, first)

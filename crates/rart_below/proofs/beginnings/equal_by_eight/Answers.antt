use Rattle.std.proofs.Common.{arith, ◌-◌, ◌∙◌}
use Rattle.rart_below.proofs.BlockLemmas.{longer_by_eight, HasBlock}
use Rattle.rart_below.proofs.beginnings.equal_by_eight.Goals as goal

pub loop-matched-preserved : goal.loop-matched-preserved
loop-matched-preserved c =
    let in_left : HasBlock 8 c.loop-matched.matched c.args.left.now =
    record { within = omega arith; are_bytes = λ k. (c.type_inv.left k).fits } in
    let in_right : HasBlock 8 c.loop-matched.matched c.args.right.now =
    record { within = omega arith; are_bytes = λ k. (c.type_inv.right k).fits } in (
      omega arith,
      longer_by_eight c.loop-matched.matched c.eight_at.result _ _ in_left in_right
          c.eight_at.ensures (c.if-eight_at.false ∙ c.eight_at-in-loop-matched.ensures)
          c.loop-matched.invariant.1,
    )

pub returns-then-eight_at-2-clause-equal : goal.returns-then-eight_at-2-clause-equal
returns-then-eight_at-2-clause-equal c =
    let last = c.args.shorter - 8 in
    let in_left : HasBlock 8 last c.args.left.now =
    record { within = omega arith; are_bytes = λ k. (c.type_inv.left k).fits } in
    let in_right : HasBlock 8 last c.args.right.now =
    record { within = omega arith; are_bytes = λ k. (c.type_inv.right k).fits } in
    let most =
    longer_by_eight last c.eight_at-2.result _ _ in_left in_right
    c.eight_at-2.ensures (c.if-eight_at-2.true ∙ c.eight_at-3.ensures)
    (omega (arith, c.loop-matched.invariant.1)) in
    omega (arith, most)

use Rattle.std.proofs.Common.{arith, ◌-◌, ◌∙◌, sym, ap, length}
use Rattle.std.proofs.lemmas.Bool.{eq-eqb, eqb-true}
use Rattle.std.specs.Int.{from_le_bytes, w32}
use Rattle.rart_below.proofs.BlockLemmas.{longer_by_four, same_block, HasBlock}
use Rattle.rart_below.proofs.beginnings.begins_by_four.Goals as goal

pub returns-then-four_at : goal.returns-then-four_at
returns-then-four_at c =
    let last = length c.args.beginning.now - 4 in
    let first_left : HasBlock 4 0 c.args.beginning.now =
    record { within = omega arith; are_bytes = λ k. (c.type_inv.beginning k).fits } in
    let first_right : HasBlock 4 0 c.args.bytes.now =
    record { within = omega arith; are_bytes = λ k. (c.type_inv.bytes k).fits } in
    let first =
    longer_by_four 0 c.four_at.result _ _ first_left first_right
    c.four_at.ensures (c.if-four_at.true ∙ c.four_at-2.ensures) (omega arith) in
    let in_left : HasBlock 4 last c.args.beginning.now =
    record { within = omega arith; are_bytes = λ k. (c.type_inv.beginning k).fits } in
    let in_right : HasBlock 4 last c.args.bytes.now =
    record { within = omega arith; are_bytes = λ k. (c.type_inv.bytes k).fits } in (
      λ same. let most =
          longer_by_four last c.four_at-then-four_at.result _ _ in_left in_right
          c.four_at-then-four_at.ensures
          (eqb-true _ _ same ∙ c.four_at-then-four_at-2.ensures) (omega (arith, first)) in
          omega (arith, most),
      λ whole. eq-eqb _ _ (c.four_at-then-four_at.ensures
          ∙ ap (from_le_bytes w32) (same_block 4 last _ _ (omega (arith, whole)))
          ∙ sym c.four_at-then-four_at-2.ensures),
    )

use Rattle.std.proofs.Common.{arith, ◌-◌, ◌∙◌, sym, ap, length}
use Rattle.std.proofs.lemmas.Bool.{false≢true, eq-eqb, eqb-true}
use Rattle.std.specs.Int.{from_le_bytes, w64}
use Rattle.rart_below.proofs.BlockLemmas.{longer_by_eight, same_block, HasBlock}
use Rattle.rart_below.proofs.beginnings.begins_by_eight.Goals as goal

pub returns-then-eight_at : goal.returns-then-eight_at
returns-then-eight_at c = (
  λ never. absurd (false≢true never),
  λ whole. absurd (c.if-eight_at.true (c.eight_at.ensures
      ∙ ap (from_le_bytes w64) (same_block 8 c.loop-place.place _ _ (omega (arith, whole, c.loop-place-test.true)))
      ∙ sym c.eight_at-in-loop-place.ensures)),
)

pub loop-place-preserved : goal.loop-place-preserved
loop-place-preserved c =
    let in_left : HasBlock 8 c.loop-place.place c.args.beginning.now =
    record { within = omega arith; are_bytes = λ k. (c.type_inv.beginning k).fits } in
    let in_right : HasBlock 8 c.loop-place.place c.args.bytes.now =
    record { within = omega arith; are_bytes = λ k. (c.type_inv.bytes k).fits } in (
      omega arith,
      longer_by_eight c.loop-place.place c.eight_at.result _ _ in_left in_right
          c.eight_at.ensures (c.if-eight_at.false ∙ c.eight_at-in-loop-place.ensures)
          c.loop-place.invariant.1,
    )

pub returns : goal.returns
returns c =
    let last = length c.args.beginning.now - 8 in
    let in_left : HasBlock 8 last c.args.beginning.now =
    record { within = omega arith; are_bytes = λ k. (c.type_inv.beginning k).fits } in
    let in_right : HasBlock 8 last c.args.bytes.now =
    record { within = omega arith; are_bytes = λ k. (c.type_inv.bytes k).fits } in (
      λ same. let most =
          longer_by_eight last c.eight_at-2.result _ _ in_left in_right c.eight_at-2.ensures
          (eqb-true _ _ same ∙ c.eight_at-3.ensures) (omega (arith, c.loop-place.invariant)) in
          omega (arith, most),
      λ whole. eq-eqb _ _ (c.eight_at-2.ensures
          ∙ ap (from_le_bytes w64) (same_block 8 last _ _ (omega (arith, whole)))
          ∙ sym c.eight_at-3.ensures),
    )

-- What an array of slots ends as, where one of them is lent.
use Rattle.std.specs.Prelude.{ℕ, slice_set}
use Rattle.std.specs.Borrow.{Lends, Fml, RattleType, MutBor}
use Rattle.rart_below.specs.contracts.mapping.slot_array.SlotArray.{the_row}

-- The slot has what was last written through the reference.
abbrev pub LendsSlot : (T LENGTH : RattleType) → MutBor (the_row T LENGTH).Denot → ℕ
    → MutBor T.Denot → Fml
LendsSlot T LENGTH lender place result =
    Lends (the_row T LENGTH) T lender result
    (λ left. record { slots = slice_set lender.now.slots place left })

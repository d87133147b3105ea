-- A cursor: where it stands, what it has left, and how it goes on.
use Rattle.std.specs.Prelude.{ℕ, List, Option}
use Rattle.std.specs.Borrow.{Bor}
use Rattle.rart_versioned.specs.Walkers.{LendsNext}

-- the bytes of the key that it stands at, and the pairs that are left behind it
pub record Cursor (V : Type 0) : Type 0 where
  pub key : List ℕ
  pub left : List (List ℕ × V)

-- It stands at the first of the pairs that were left, of whose value this was lent, and has the
-- others left; or none was left, and none is.
abbrev pub GoesOnLending : {V L : Type 0} → (L → V) → Cursor V → Option L → Cursor V → Type 0
GoesOnLending value before lent after = LendsNext value before.left after.key lent after.left

-- The same, where a reference to the value was lent.
abbrev pub GoesOn : {V : Type 0} → Cursor V → Option (Bor V) → Cursor V → Type 0
GoesOn before value after = GoesOnLending (λ value. value.now) before value after

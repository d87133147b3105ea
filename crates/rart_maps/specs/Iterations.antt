-- What an iterator gives: the members of a list, one by one. Behind its end, and behind a refusal,
-- it has nothing more to give, ever, which is `None` here.
use Rattle.std.specs.Prelude.{◌≡◌, ◌+◌, ◌⊎◌, ℕ, List, [], ◌∷◌, ◌++◌, length, Option, Some, None, IsSome, Result, Ok, Err}
use Rattle.std.specs.Borrow.{Bor}
use Rattle.std.specs.declared.alloc.AllocError.{AllocError}
use Rattle.std.specs.Iterator.{Count, at_most}

-- ---- how a member is shown

module _ {V : Type 0} where
  -- a pair, by a key with its bytes and a reference to its value
  abbrev pub ByKey : {K : Type 0} → (K → List ℕ) → K × Bor V → List ℕ × V → Type 0
  ByKey bytes item pair = (bytes item.0 ≡ pair.0) × (item.1.now ≡ pair.1)

  -- a value, by a reference
  abbrev pub ByReference : Bor V → V → Type 0
  ByReference item value = item.now ≡ value

-- ---- what comes

module _ {X : Type 0} where
  -- No member is to come.
  abbrev pub IsOver : Option (List X) → Type 0
  IsOver left = (left ≡ None) ⊎ (left ≡ Some [])

  -- how many items come at most: the members, and a refusal
  abbrev pub items_left : Option (List X) → Count
  items_left None = at_most 0
  items_left (Some members) = at_most (length members + 1)

  -- What was taken and what is still to come are, one behind the other, these members.
  abbrev pub IsTakenFrom : List X → List X → Option (List X) → Type 0
  IsTakenFrom members taken left =
      (rest : List X) × (left ≡ Some rest) × (taken ++ rest ≡ members)

  module _ {A : Type 0} (Shows : A → X → Type 0) where
    -- The first member to come was given, and the others are still to come; or none was to come,
    -- and it is over; or it was refused, and nothing comes any more.
    abbrev pub NextGives :
        Option (List X) → Option (Result A AllocError) → Option (List X) → Type 0
    NextGives before None after = IsOver before × (after ≡ None)
    NextGives before (Some (Ok item)) after =
        (x : X) × (rest : List X)
        × (before ≡ Some (x ∷ rest)) × Shows item x × (after ≡ Some rest)
    NextGives before (Some (Err refused)) after = IsSome before × (after ≡ None)

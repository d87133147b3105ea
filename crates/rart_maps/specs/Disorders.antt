-- Pairs whose keys do not ascend: what that is, and worked values of it, found by hand.
use Rattle.std.specs.Prelude.{◌≡◌, ◌+◌, ℕ, List, [], ◌∷◌, Some, codes, slice_get}
use Rattle.rart_maps.specs.Order.{IsBefore}

module _ {K V : Type 0} (bytes : K → List ℕ) where
  -- The key at this place does not stand behind the one before it.
  abbrev pub IsDisorderAt : ℕ → List (K × V) → Type 0
  IsDisorderAt at pairs = (before : ℕ) × (p : K × V) × (q : K × V) × (at ≡ before + 1)
      × (slice_get pairs before ≡ Some p) × (slice_get pairs at ≡ Some q)
      × ¬ IsBefore (bytes p.0) (bytes q.0)

-- By keys that are their bytes.
abbrev pub IsOutOfOrderAt : ℕ → List (List ℕ × ℕ) → Type 0
IsOutOfOrderAt = IsDisorderAt (λ key. key)

-- A key that is less, and one that is equal, are out of order where they stand behind another. One
-- that is greater is not, and the first one never is.
abbrev pub DisordersAreWorked : Type 0
DisordersAreWorked =
    IsOutOfOrderAt 1 ((codes "b", 1) ∷ (codes "a", 2) ∷ [])
    × IsOutOfOrderAt 1 ((codes "a", 1) ∷ (codes "a", 2) ∷ [])
    × ¬ IsOutOfOrderAt 1 ((codes "a", 1) ∷ (codes "b", 2) ∷ [])
    × ¬ IsOutOfOrderAt 0 ((codes "b", 1) ∷ (codes "a", 2) ∷ [])

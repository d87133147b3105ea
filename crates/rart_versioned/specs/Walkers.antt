-- What a walk over pairs lends, whichever way it goes, and what an iterator over one has left.
use Rattle.std.specs.Prelude.{◌≡◌, ℕ, Bool, List, [], ◌∷◌, Option, Some, None, AllPairs, filter, map}
use Rattle.std.specs.Option.{option_map}
use Rattle.rart_versioned.specs.TreeWalks.{AreAdmitted}

-- ---- pairs as a walk comes to them

module _ {V : Type 0} where
  -- The key of each comes before that of each later one.
  abbrev pub AreInOrder : (List ℕ → List ℕ → Type 0) → List (List ℕ × V) → Type 0
  AreInOrder comes_before pairs = AllPairs (λ a b. comes_before a.0 b.0) pairs

  -- those whose key is within an end
  abbrev pub pairs_within : (List ℕ → Bool) → List (List ℕ × V) → List (List ℕ × V)
  pairs_within is_within pairs = filter (λ pair. is_within pair.0) pairs

-- ---- what one call gives, where `value` is the value of which something was lent

module _ {V L : Type 0} (value : L → V) where
  -- The first of the pairs that were left has this key, and this was lent of its value; or none was
  -- left, and none is.
  abbrev pub LendsNext :
      List (List ℕ × V) → List ℕ → Option L → List (List ℕ × V) → Type 0
  LendsNext before key None after = (before ≡ []) × (after ≡ [])
  LendsNext before key (Some lent) after = before ≡ (key, value lent) ∷ after

  -- a value, by what was lent of it
  abbrev pub ByLent : L → V → Type 0
  ByLent lent shown = value lent ≡ shown

  -- a pair, by a key with its bytes and what was lent of its value
  abbrev pub ByKeyAndLent : {K : Type 0} → (K → List ℕ) → K × L → List ℕ × V → Type 0
  ByKeyAndLent bytes item pair = (bytes item.0 ≡ pair.0) × ByLent item.1 pair.1

-- ---- what is left, where `left` are the pairs that a walk has left

module _ {W V : Type 0} (left : W → List (List ℕ × V)) where
  -- the values that are still to come
  abbrev pub values_left : Option W → Option (List V)
  values_left walk = option_map (λ walk. map (λ pair. pair.1) (left walk)) walk

  -- the pairs that are still to come where they end with an end
  abbrev pub within_left : (List ℕ → Bool) → Option W → Option (List (List ℕ × V))
  within_left is_within walk = option_map (λ walk. pairs_within is_within (left walk)) walk

  -- A key can be made of each key that the walk has left.
  pub record IsKeyWalk (is_sound : W → Type 0) (most : Option ℕ) (walk : W) : Type 0 where
    pub sound : is_sound walk
    pub admitted : AreAdmitted most (left walk)

  -- The keys are in order too.
  pub record IsRangeWalk (is_sound : W → Type 0) (comes_before : List ℕ → List ℕ → Type 0)
      (most : Option ℕ) (walk : W) : Type 0 where
    pub keyed : IsKeyWalk is_sound most walk
    pub ordered : AreInOrder comes_before (left walk)

-- Which nodes are entered on the way from key to key: of a tree none that is behind the first key
-- that is left of it.
use Rattle.std.specs.Prelude.{◌≡◌, ◌+◌, ◌≤◌, ◌⊎◌, ℕ, Bool, true, List, [], ◌∷◌, Contains, count_by, length}
use Rattle.rart_maps.specs.Order.{IsAtMost}

module _ {V : Type 0} where
  -- The test passes each string that is not behind the first of these keys, and all where there is
  -- none.
  abbrev pub PassesToFirst : (List ℕ → Bool) → List (List ℕ × V) → Type 0
  PassesToFirst test [] = (string : List ℕ) → test string ≡ true
  PassesToFirst test (first ∷ pairs) =
      (string : List ℕ) → IsAtMost string first.0 → test string ≡ true

  -- Of the paths before, those after are left: the others are not behind the first of these keys,
  -- so they pass each such test.
  pub record GoesTo (pairs : List (List ℕ × V)) (before after : List (List ℕ)) : Type 0 where
    pub passing : (test : List ℕ → Bool) → PassesToFirst test pairs
        → length before + count_by test after ≤ length after + count_by test before

  -- One tree had these pairs and paths left, and has those left now.
  pub record GoesOnTo (pairs : List (List ℕ × V)) (before : List (List ℕ))
      (left : List (List ℕ × V)) (after : List (List ℕ)) : Type 0 where
    pub goes : GoesTo left before after
    pub later : (test : List ℕ → Bool) → PassesToFirst test left → PassesToFirst test pairs

  -- The key is left in either list.
  abbrev pub IsLeft : List ℕ → List (List ℕ × V) → List (List ℕ × V) → Type 0
  IsLeft key one other =
      ((x : V) × Contains one (key, x)) ⊎ ((x : V) × Contains other (key, x))

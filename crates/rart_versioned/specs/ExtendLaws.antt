-- What is said of a version with many pairs put in, and worked values.
use Rattle.std.specs.Prelude.{◌≡◌, ◌≢◌, ℕ, List, [], ◌∷◌, ◌++◌, All, Option, Some, codes}
use Rattle.std.specs.FinMap as finite
use Rattle.std.specs.Iterator.{AlwaysYields}
use Rattle.rart_maps.specs.Pairs.{pairs}
use Rattle.rart_maps.specs.Versions.{Version, value_at, with_key}
use Rattle.rart_versioned.specs.Extended.{PutsIn, with_pairs}

module _ (V : Type 0) where
  -- none of these pairs has this key
  abbrev pub LacksKey : List ℕ → List (List ℕ × V) → Type 0
  LacksKey w pairs = All (λ pair. pair.0 ≢ w) pairs

  -- The last pair of a key gives its value.
  abbrev pub LastPairStays : Type 0
  LastPairStays = (v : Version V) (front rest : List (List ℕ × V)) (w : List ℕ) (x : V) →
      LacksKey w rest → value_at (with_pairs v (front ++ (w, x) ∷ rest)) w ≡ Some x

  -- A key of none of the pairs has what it had.
  abbrev pub OtherKeysStay : Type 0
  OtherKeysStay = (v : Version V) (pairs : List (List ℕ × V)) (w : List ℕ) →
      LacksKey w pairs → value_at (with_pairs v pairs) w ≡ value_at v w

  -- It is made by single insertions, and no pair changes nothing.
  abbrev pub PairsAreInsertions : Type 0
  PairsAreInsertions = (v : Version V) (pair : List ℕ × V) (pairs : List (List ℕ × V)) →
      (with_pairs v [] ≡ v)
      × (with_pairs v (pair ∷ pairs) ≡ with_pairs (with_key v pair.0 pair.1 1) pairs)

  -- Pairs in two parts are put in as all at once.
  abbrev pub PairsGoPartByPart : Type 0
  PairsGoPartByPart = (v : Version V) (front rest : List (List ℕ × V)) →
      with_pairs v (front ++ rest) ≡ with_pairs (with_pairs v front) rest

-- What is put in of an iterator that gives the same pairs in each run: these.
abbrev pub ListedPairsArePutIn : {K V U T : Type 0} → (K → List ℕ) → (U → T → Type 0)
    → (T → Option (K × V) → T → Type 0) → Type 0
ListedPairsArePutIn {V = V} {U = U} {T = T} bytes becomes steps =
    (pairs : U) (all : List (List ℕ × V)) → ((walk : T) → becomes pairs walk
    → AlwaysYields steps (λ pair. (bytes pair.0, pair.1)) walk all)
    → (before after : Version V) → PutsIn bytes becomes steps pairs before after
    → after ≡ with_pairs before all

-- Three pairs put in one, two of them of a key: its last value stays, and the number is 3 greater.
abbrev pub WorkedExtension : Type 0
WorkedExtension =
    let before : Version ℕ =
    record { content = finite.from_entries ((codes "c", 9) ∷ []); number = 5 } in
    let after = with_pairs before ((codes "b", 1) ∷ (codes "a", 2) ∷ (codes "b", 3) ∷ []) in
    (pairs after.content ≡ (codes "a", 2) ∷ (codes "b", 3) ∷ (codes "c", 9) ∷ [])
    × (after.number ≡ 8)

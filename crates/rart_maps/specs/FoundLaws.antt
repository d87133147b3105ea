-- Which pairs stand in what is read off maps: with their order, these laws say each list whole.
use Rattle.std.specs.Prelude.{◌≡◌, ◌≤◌, ◌↔◌, ℕ, List, Some, length, Contains, AllPairs, IsTrue}
use Rattle.std.specs.declared.ops.Bound.{Bound}
use Rattle.std.specs.FinMap as finite
use Rattle.rart_below.specs.Bytes.{begins}
use Rattle.rart_maps.specs.Versions.{Map}
use Rattle.rart_maps.specs.Pairs.{pairs, within, under, prefix_matches, longest_prefix_match, common}
use Rattle.rart_maps.specs.Order.{IsBefore, MeetsLow, MeetsHigh}

-- The keys of a list ascend strictly: each stands before each later one.
abbrev pub KeysAscend : {A : Type 0} → (A → List ℕ) → List A → Type 0
KeysAscend key xs = AllPairs (λ a b. IsBefore (key a) (key b)) xs

module _ (V : Type 0) where
  -- The keys of what is read off a map ascend strictly.
  abbrev pub PairsAscendByKey : Type 0
  PairsAscendByKey = (m : Map V) → KeysAscend (λ pair. pair.0) (pairs m)

  abbrev pub WithinAscends : Type 0
  WithinAscends = (m : Map V) (low high : Bound (List ℕ)) →
      KeysAscend (λ pair. pair.0) (within m low high)

  abbrev pub UnderAscends : Type 0
  UnderAscends = (m : Map V) (p : List ℕ) → KeysAscend (λ pair. pair.0) (under m p)

  abbrev pub PrefixMatchesAscend : Type 0
  PrefixMatchesAscend = (m : Map V) (w : List ℕ) → KeysAscend (λ pair. pair.0) (prefix_matches m w)

  -- So do those in common.
  abbrev pub CommonAscends : Type 0
  CommonAscends = (left right : Map V) → KeysAscend (λ entry. entry.0) (common left right)

  -- A pair stands among all exactly where the map has the value at the key.
  abbrev pub PairsAreFound : Type 0
  PairsAreFound = (m : Map V) (key : List ℕ) (x : V) →
      Contains (pairs m) (key, x) ↔ (finite.get m key ≡ Some x)

  -- It stands within two bounds exactly where also the key meets both.
  abbrev pub WithinIsFound : Type 0
  WithinIsFound = (m : Map V) (low high : Bound (List ℕ)) (key : List ℕ) (x : V) →
      Contains (within m low high) (key, x)
      ↔ (MeetsLow low key × MeetsHigh high key × (finite.get m key ≡ Some x))

  -- It stands under p exactly where also p begins the key.
  abbrev pub UnderIsFound : Type 0
  UnderIsFound = (m : Map V) (p key : List ℕ) (x : V) →
      Contains (under m p) (key, x) ↔ (IsTrue (begins p key) × (finite.get m key ≡ Some x))

  -- It stands among those whose key begins w exactly where also the key begins w.
  abbrev pub PrefixMatchesAreFound : Type 0
  PrefixMatchesAreFound = (m : Map V) (w key : List ℕ) (x : V) →
      Contains (prefix_matches m w) (key, x) ↔ (IsTrue (begins key w) × (finite.get m key ≡ Some x))

  -- The longest of these is exactly the one whose key no other one's passes in length.
  abbrev pub LongestIsFound : Type 0
  LongestIsFound = (m : Map V) (w key : List ℕ) (x : V) →
      (longest_prefix_match m w ≡ Some (key, x))
      ↔ (Contains (prefix_matches m w) (key, x)
      × ((other : List ℕ) (y : V) → Contains (prefix_matches m w) (other, y)
      → length other ≤ length key))

  -- A key stands in common with two values exactly where either map has its value there.
  abbrev pub CommonIsFound : Type 0
  CommonIsFound = (left right : Map V) (key : List ℕ) (x y : V) →
      Contains (common left right) (key, x, y)
      ↔ ((finite.get left key ≡ Some x) × (finite.get right key ≡ Some y))

-- Two lists with the same elements, the keys of both strictly ascending, are equal.
abbrev pub AscendingListsAreFixed : Type 0 → Type 0
AscendingListsAreFixed A = (key : A → List ℕ) (xs ys : List A) →
    KeysAscend key xs → KeysAscend key ys → ((x : A) → Contains xs x ↔ Contains ys x) → xs ≡ ys

-- Laws that show what the words on maps, their pairs and the prefixes of keys mean.
use Rattle.std.specs.Prelude.{◌≡◌, ◌↔◌, ◌⊎◌, ℕ, List, [], ◌∷◌, ◌++◌, map, IsTrue, ⊤}
use Rattle.std.specs.declared.ops.Bound.{Bound}
use Rattle.std.specs.FinMap as finite
use Rattle.std.specs.FinMap.{is_sorted}
use Rattle.std.specs.FinSet as set
use Rattle.rart_below.specs.Bytes.{byte_order}
use Rattle.rart_maps.specs.Versions.{Map}
use Rattle.rart_maps.specs.Pairs.{pairs, within, under, prefix_matches, common, starts, shared}

-- The first list has some of the second's elements, in their order.
abbrev pub IsSublist : {A : Type 0} → List A → List A → Type 0
IsSublist [] ys = ⊤
IsSublist (x ∷ xs) [] = ⊥
IsSublist (x ∷ xs) (y ∷ ys) = ((x ≡ y) × IsSublist xs ys) ⊎ IsSublist (x ∷ xs) ys

module _ (V : Type 0) where
  -- The keys of the pairs ascend strictly.
  abbrev pub PairsAscend : Type 0
  PairsAscend = (m : Map V) → IsTrue (is_sorted byte_order (pairs m))

  -- What is read off one map are pairs of it, in their order.
  abbrev pub WithinIsSublist : Type 0
  WithinIsSublist = (m : Map V) (low high : Bound (List ℕ))
      → IsSublist (within m low high) (pairs m)

  abbrev pub UnderIsSublist : Type 0
  UnderIsSublist = (m : Map V) (p : List ℕ) → IsSublist (under m p) (pairs m)

  abbrev pub PrefixMatchesIsSublist : Type 0
  PrefixMatchesIsSublist = (m : Map V) (w : List ℕ) → IsSublist (prefix_matches m w) (pairs m)

  -- With the maps swapped, the same keys come in the same order with their values swapped.
  abbrev pub CommonSwaps : Type 0
  CommonSwaps =
      (left right : Map V) → common right left
      ≡ map (λ entry. (entry.0, entry.2, entry.1)) (common left right)

  -- Each prefix of a string that begins a key begins that key too.
  abbrev pub StartsShorten : Type 0
  StartsShorten = (m : Map V) (u v : List ℕ) → IsTrue (set.contains (starts m) (u ++ v))
      → IsTrue (set.contains (starts m) u)

  abbrev pub SharedShorten : Type 0
  SharedShorten =
      (left right : Map V) (u v : List ℕ) → IsTrue (set.contains (shared left right) (u ++ v))
      → IsTrue (set.contains (shared left right) u)

  -- No string begins a key of both exactly where either map has no key.
  abbrev pub SharedIsEmpty : Type 0
  SharedIsEmpty = (left right : Map V) → (set.len (shared left right) ≡ 0)
      ↔ ((left ≡ finite.empty) ⊎ (right ≡ finite.empty))

-- What can be read off one map, or off two.
use Rattle.std.specs.Prelude.{ℕ, List, [], ◌∷◌, Option, None, filter, map}
use Rattle.std.specs.declared.ops.Bound.{Bound}
use Rattle.std.specs.Ordering.{nat_cmp, as_partial_cmp}
use Rattle.std.specs.Cmp.Lexicographic.{slice_cmp}
use Rattle.std.specs.List.{filter_map, flat_map, last_or}
use Rattle.std.specs.Option.{option_map}
use Rattle.std.specs.Range.Bound.{bounds_contain}
use Rattle.std.specs.FinMap as finite
use Rattle.std.specs.FinSet as set
use Rattle.rart_below.specs.Bytes.{byte_order, begins}
use Rattle.rart_maps.specs.Versions.{Map}

module _ {V : Type 0} where
  -- all pairs, strictly ascending by key
  abbrev pub pairs : Map V → List (List ℕ × V)
  pairs m = finite.entries m

  -- the pairs whose key meets both bounds
  abbrev pub within : Map V → Bound (List ℕ) → Bound (List ℕ) → List (List ℕ × V)
  within m low high =
      filter (λ pair. bounds_contain (as_partial_cmp byte_order) low high pair.0) (pairs m)

  -- the pairs whose key p begins
  abbrev pub under : Map V → List ℕ → List (List ℕ × V)
  under m p = filter (λ pair. begins p pair.0) (pairs m)

  -- the pairs whose key begins w, the shortest first
  abbrev pub prefix_matches : Map V → List ℕ → List (List ℕ × V)
  prefix_matches m w = filter (λ pair. begins pair.0 w) (pairs m)

  -- the last of them, whose key is the longest, where there is one
  abbrev pub longest_prefix_match : Map V → List ℕ → Option (List ℕ × V)
  longest_prefix_match m w = last_or None (prefix_matches m w)

  -- each key of both with what either has there, strictly ascending by key
  abbrev pub common : Map V → Map V → List (List ℕ × V × V)
  common left right =
      filter_map (λ pair. option_map (λ x. (pair.0, pair.1, x)) (finite.get right pair.0))
      (pairs left)

-- the strings that begin w, from the empty one to w
abbrev pub prefixes_of : List ℕ → List (List ℕ)
prefixes_of [] = [] ∷ []
prefixes_of (b ∷ w) = [] ∷ map (λ u. b ∷ u) (prefixes_of w)

-- a finite set of byte strings
abbrev pub Strings : Type 0
Strings = set.FinSet (slice_cmp nat_cmp)

module _ {V : Type 0} where
  -- the strings that begin some key
  abbrev pub starts : Map V → Strings
  starts m = set.from_list (flat_map (λ pair. prefixes_of pair.0) (pairs m))

  -- the strings that begin some key of the one and some key of the other, not always the same key
  abbrev pub shared : Map V → Map V → Strings
  shared left right = set.intersection (starts left) (starts right)

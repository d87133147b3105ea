-- What two trees have in common: their pairs, and the strings that begin keys of both.
use Rattle.std.specs.Prelude.{ℕ, List}
use Rattle.std.specs.List.{filter_map, flat_map}
use Rattle.std.specs.Option.{option_map}
use Rattle.std.specs.FinSet as set
use Rattle.rart_maps.specs.Pairs.{Strings, prefixes_of}
use Rattle.rart_node.specs.Shape.{Shape}
use Rattle.rart_node.specs.Trees.{found, pairs_of}

module _ {V : Type 0} where
  -- each key of both with what either tree has there, in the order of the first
  abbrev pub common_pairs : Shape V → Shape V → List (List ℕ × V × V)
  common_pairs left right =
      filter_map (λ pair. option_map (λ x. (pair.0, pair.1, x)) (found right pair.0))
      (pairs_of left)

  -- the strings that begin a key of the list
  abbrev pub starts_of : List (List ℕ × V) → Strings
  starts_of pairs = set.from_list (flat_map (λ pair. prefixes_of pair.0) pairs)

  -- the strings that begin some key of the one and some key of the other, not always the same key
  abbrev pub shared_of : Shape V → Shape V → Strings
  shared_of left right =
      set.intersection (starts_of (pairs_of left)) (starts_of (pairs_of right))

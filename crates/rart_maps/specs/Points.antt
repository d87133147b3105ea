-- The points of a map: its keys, and the strings at which keys part.
use Rattle.std.specs.Prelude.{ℕ, ◌==◌, List, [], ◌∷◌, ◌++◌, map, Option, Some, None, if◌then◌else◌}
use Rattle.std.specs.List.{filter_map, flat_map}
use Rattle.std.specs.Option.{option_map}
use Rattle.std.specs.FinSet as set
use Rattle.rart_maps.specs.Versions.{Map}
use Rattle.rart_maps.specs.ChangeLists.{joined}
use Rattle.rart_maps.specs.Pairs.{Strings, pairs, shared}

-- where two strings part: behind what both begin with they go on with different bytes
abbrev pub parting : List ℕ → List ℕ → Option (List ℕ)
parting [] w = None
parting (b ∷ u) [] = None
parting (b ∷ u) (c ∷ w) = if b == c then option_map (λ s. b ∷ s) (parting u w) else Some []

module _ {V : Type 0} where
  -- the strings at which any two keys of a list part
  abbrev pub partings : List (List ℕ × V) → List (List ℕ)
  partings list = flat_map (λ x. filter_map (λ y. parting x.0 y.0) list) list

  -- the keys of a map, and the strings at which any two of them part
  abbrev pub points : Map V → Strings
  points m = set.from_list (map (λ pair. pair.0) (pairs m) ++ partings (pairs m))

  -- the places of two maps: the strings that begin keys of both, at which one of the two has a key
  -- or keys of either part
  abbrev pub places : Map V → Map V → Strings
  places left right = set.intersection (shared left right) (points (joined left right))

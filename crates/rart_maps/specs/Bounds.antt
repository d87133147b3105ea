-- How many nodes a call may enter or make, from the keys alone.
use Rattle.std.specs.Prelude.{ℕ, ◌+◌, ◌*◌, List, [], length}
use Rattle.std.specs.declared.ops.Bound.{Bound}
use Rattle.std.specs.declared.ops.Bound.TheVariants.{Included, Excluded, Unbounded}
use Rattle.std.specs.FinMap as finite
use Rattle.std.specs.FinSet as set
use Rattle.rart_below.specs.Bytes.{begins}
use Rattle.rart_maps.specs.MapParts.{common_part, without}
use Rattle.rart_maps.specs.Versions.{Map}
use Rattle.rart_maps.specs.Pairs.{starts, shared, under, within}
use Rattle.rart_maps.specs.Points.{places, points}

-- the most nodes that a lookup of w enters
abbrev pub lookup_bound : List ℕ → ℕ
lookup_bound w = length w + 1

-- the most nodes that a change at w makes
abbrev pub change_bound : List ℕ → ℕ
change_bound w = length w + 2

-- the most nodes that it enters
abbrev pub enter_bound : List ℕ → ℕ
enter_bound w = 3 * length w + 3

-- the string of a bound on keys, or the empty one
abbrev pub bound_string : Bound (List ℕ) → List ℕ
bound_string (Included s) = s
bound_string (Excluded s) = s
bound_string Unbounded = []

abbrev pub bound_length : Bound (List ℕ) → ℕ
bound_length bound = length (bound_string bound)

module _ {V : Type 0} where
  -- the most nodes that a visit of the keys of both enters
  abbrev pub meet_bound : Map V → Map V → ℕ
  meet_bound left right = 2 * set.len (shared left right)

  -- the most nodes that a difference enters, and a symmetric one: two for each place of the two
  -- maps, and one for each key of both
  abbrev pub difference_bound : Map V → Map V → ℕ
  difference_bound left right =
      2 * set.len (places left right) + finite.len (common_part left right)

  -- the most nodes that an intersection enters: three for each place
  abbrev pub intersection_bound : Map V → Map V → ℕ
  intersection_bound left right = 3 * set.len (places left right)

  -- the most nodes that either makes: one for each string that begins a key of both
  abbrev pub cut_makes : Map V → Map V → ℕ
  cut_makes left right = set.len (starts (common_part left right))

  -- the most nodes that a union enters: two for each place
  abbrev pub union_bound : Map V → Map V → ℕ
  union_bound left right = 2 * set.len (places left right)

  -- the most nodes that it makes: three for each place that begins a key which the right map adds
  abbrev pub union_makes : Map V → Map V → ℕ
  union_makes left right =
      3 * set.len (set.intersection (places left right) (starts (without right left)))

  -- the most nodes that a symmetric difference makes: three for each place
  abbrev pub apart_makes : Map V → Map V → ℕ
  apart_makes left right = 3 * set.len (places left right)

  -- the most nodes that a walk under p enters, told by the strings that begin keys
  abbrev pub reach_bound : Map V → List ℕ → ℕ
  reach_bound m p = length p + 1 + set.len (set.retain (starts m) (begins p))

  -- the same told by pairs, where `reach_bound` tells it by strings
  abbrev pub reach_by_pairs : Map V → List ℕ → ℕ
  reach_by_pairs m p = length p + 1 + 2 * length (under m p)

  -- the most nodes that a visit of the pairs within two bounds enters
  abbrev pub range_bound : Map V → Bound (List ℕ) → Bound (List ℕ) → ℕ
  range_bound m low high =
      bound_length low + bound_length high + 2 + 2 * length (within m low high)

  -- the nodes of a tree of the map, which a walk over all of it enters
  abbrev pub node_count : Map V → ℕ
  node_count m = set.len (points m)

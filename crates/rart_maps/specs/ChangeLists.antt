-- What changed from one map to another, and what changes make of a map.
use Rattle.std.specs.Prelude.{ℕ, List, [], ◌∷◌, ◌++◌, Option, Some, None, Bool, true, false, not, ◌||◌, is_some, if◌then◌else◌}
use Rattle.std.specs.List.{count_by, filter_map}
use Rattle.std.specs.FinMap as finite
use Rattle.rart_maps.specs.Lookups.{with_value}
use Rattle.rart_maps.specs.Pairs.{pairs}
use Rattle.rart_maps.specs.Versions.{Map}

-- a key at which two maps differ, with what the old one has there and what the new one has
abbrev pub Change : Type 0 → Type 0
Change V = List ℕ × Option V × Option V

module _ {V : Type 0} where
  -- the change back
  abbrev pub reversed : Change V → Change V
  reversed change = (change.0, change.2, change.1)

  -- the map with each change made, one after the other: the key gets what is new there
  abbrev pub patched : Map V → List (Change V) → Map V
  patched m [] = m
  patched m (change ∷ changes) = patched (with_value m change.0 change.2) changes

  -- whether making it changes the map: it sets its key, or takes out one that is there
  abbrev pub takes_effect : Map V → Change V → Bool
  takes_effect m change = is_some change.2 || finite.contains_key m change.0

  -- how many of them do, where no key comes twice
  abbrev pub effects : Map V → List (Change V) → ℕ
  effects m changes = count_by (takes_effect m) changes

  -- the pairs of both maps, the old one's where a key is in both
  abbrev pub joined : Map V → Map V → Map V
  joined old new = finite.from_entries (pairs old ++ pairs new)

-- `same` tells whether two values are the same.
module _ {V : Type 0} (same : V → V → Bool) where
  abbrev pub differ : Option V → Option V → Bool
  differ None None = false
  differ None (Some new) = true
  differ (Some old) None = true
  differ (Some old) (Some new) = not (same old new)

  -- the change of a key, from what the maps have there, if that differs
  abbrev pub change_of : List ℕ → Option V → Option V → Option (Change V)
  change_of key old new = if differ old new then Some (key, old, new) else None

  -- each key at which the maps differ, strictly ascending, with what either has there
  abbrev pub changes : Map V → Map V → List (Change V)
  changes old new =
      filter_map (λ pair. change_of pair.0 (finite.get old pair.0) (finite.get new pair.0))
      (pairs (joined old new))

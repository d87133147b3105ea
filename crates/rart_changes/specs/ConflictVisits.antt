-- How a closure is shown a conflict, and how many nodes it takes to find the conflicts, at most and
-- at least.
use Rattle.std.specs.Prelude.{◌≡◌, ℕ, ◌+◌, ◌*◌, Bool, List, Option, Some, None, filter_map, if◌then◌else◌}
use Rattle.std.specs.Borrow.{Bor}
use Rattle.std.specs.Option.{option_copied}
use Rattle.std.specs.FinMap as finite
use Rattle.rart_maps.specs.Pairs.{Strings}
use Rattle.rart_maps.specs.Versions.{Map, Version}
use Rattle.rart_maps.specs.Merges.{Conflict, in_conflict}
use Rattle.rart_changes.specs.ChangeVisits.{lookup_least, lookups_bound}
use Rattle.rart_changes.specs.Tracking.{Tracking, listed}

-- a conflict, by a key with these bytes, and references to the values of the base, ours and theirs
-- where there are any
abbrev pub ByConflict : {K V : Type 0} → (K → List ℕ) →
    K × (Option (Bor V) × (Option (Bor V) × (Option (Bor V) × Unit {0}))) → Conflict V → Type 0
ByConflict bytes shown conflict = (bytes shown.0 ≡ conflict.0)
    × (option_copied shown.1.0 ≡ conflict.1) × (option_copied shown.1.1.0 ≡ conflict.2)
    × (option_copied shown.1.1.1.0 ≡ conflict.3)

module _ {V : Type 0} (same : V → V → Bool) where
  -- the conflict at a key, by what the three have there, if there is one
  abbrev pub conflict_at : List ℕ → Option V → Option V → Option V → Option (Conflict V)
  conflict_at w base ours theirs =
      if in_conflict same base ours theirs then Some (w, base, ours, theirs) else None

  -- the conflicts at these keys
  abbrev pub conflicts_at : Map V → Map V → Map V → List (List ℕ) → List (Conflict V)
  conflicts_at base ours theirs keys =
      filter_map (λ w. conflict_at w (finite.get base w) (finite.get ours w) (finite.get theirs w))
      keys

-- the most nodes that finding the conflicts at these keys enters, whatever the maps
abbrev pub conflicts_bound : Strings → ℕ
conflicts_bound keys = 2 * finite.len keys + lookups_bound 3 (listed keys)

-- the fewest: for each touched key itself one, and one in each of the three maps that has a key
abbrev pub conflicts_least : {V : Type 0} → Tracking V → Version V → ℕ
conflicts_least t theirs = finite.len t.touched
    * (1 + lookup_least t.base + lookup_least t.current + lookup_least theirs)

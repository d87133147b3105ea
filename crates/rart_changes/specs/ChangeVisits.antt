-- The changes at some keys, and how many nodes it takes to find them, at most and at least.
use Rattle.std.specs.Prelude.{ℕ, ◌+◌, ◌*◌, Bool, List, sum_by, filter_map, if◌then◌else◌}
use Rattle.std.specs.FinMap as finite
use Rattle.rart_maps.specs.Bounds.{lookup_bound}
use Rattle.rart_maps.specs.Pairs.{Strings}
use Rattle.rart_maps.specs.Versions.{Map, Version, has_no_key}
use Rattle.rart_maps.specs.ChangeLists.{Change, change_of}
use Rattle.rart_changes.specs.Tracking.{Tracking, listed}

-- the changes at these keys
abbrev pub changes_at : {V : Type 0} → (V → V → Bool) → Map V → Map V → List (List ℕ)
    → List (Change V)
changes_at same old new keys =
    filter_map (λ w. change_of same w (finite.get old w) (finite.get new w)) keys

-- the most nodes that looking each of these keys up in some maps enters
abbrev pub lookups_bound : ℕ → List (List ℕ) → ℕ
lookups_bound maps keys = sum_by (λ w. maps * lookup_bound w) keys

-- and finding the changes at these keys, whatever the maps
abbrev pub changes_bound : Strings → ℕ
changes_bound keys = 2 * finite.len keys + lookups_bound 2 (listed keys)

-- the fewest nodes that a lookup in a version enters
abbrev pub lookup_least : {V : Type 0} → Version V → ℕ
lookup_least v = if has_no_key v then 0 else 1

-- the fewest that finding the changes enters: for each touched key itself one, and one in each of
-- the two maps that has a key
abbrev pub changes_least : {V : Type 0} → Tracking V → ℕ
changes_least t = finite.len t.touched * (1 + lookup_least t.base + lookup_least t.current)

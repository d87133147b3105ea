-- What putting one value, or none, at a key makes of a version.
use Rattle.std.specs.Prelude.{◌≡◌, ℕ, ◌+◌, ◌||◌, List, Option, is_some, if◌then◌else◌}
use Rattle.rart_maps.specs.Lookups.{with_value}
use Rattle.rart_maps.specs.Versions.{Version, has_key}

-- The key has the value, or none. The number is one greater where the key is set, or taken out
-- where it is there.
pub record IsSetTo {V : Type 0} (before : Version V) (w : List ℕ) (value : Option V)
    (after : Version V) : Type 0 where
  pub content : after.content ≡ with_value before.content w value
  pub number : after.number ≡ before.number + (if is_some value || has_key before w then 1 else 0)

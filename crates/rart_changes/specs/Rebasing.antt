-- What making changes, or putting one value or none at a key, makes of a tracked version.
use Rattle.std.specs.Prelude.{◌≡◌, ℕ, ◌+◌, ◌⊎◌, List, Option, IsTrue}
use Rattle.rart_maps.specs.ChangeLists.{Change, effects, patched}
use Rattle.rart_maps.specs.Pairs.{Strings}
use Rattle.rart_changes.specs.Setting.{IsSetTo}
use Rattle.rart_changes.specs.Tracking.{Tracking, is_in}

-- Each string of the one set is in the other.
abbrev pub IsWithin : Strings → Strings → Type 0
IsWithin few many = (q : List ℕ) → IsTrue (is_in few q) → IsTrue (is_in many q)

module _ {V : Type 0} where
  -- The key of the current version is set so, and no other key is touched.
  pub record IsTrackedSetTo (before : Tracking V) (w : List ℕ) (value : Option V)
      (after : Tracking V) : Type 0 where
    pub base : after.base ≡ before.base
    pub current : IsSetTo before.current w value after.current
    pub touched : (q : List ℕ) → IsTrue (is_in after.touched q)
        → (q ≡ w) ⊎ IsTrue (is_in before.touched q)

  -- The changes are made, and the number is one greater for each that takes effect. Only keys that
  -- these say are touched that weren't before.
  pub record Replays (before after : Tracking V) (made : List (Change V)) (Among : List ℕ → Type 0)
      : Type 0 where
    pub base : after.base ≡ before.base
    pub current : after.current.content ≡ patched before.current.content made
    pub number : after.current.number ≡ before.current.number + effects before.current.content made
    pub touched : (q : List ℕ) → IsTrue (is_in after.touched q)
        → Among q ⊎ IsTrue (is_in before.touched q)

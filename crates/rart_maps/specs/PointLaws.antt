-- What the points of a map are, and how many there are.
use Rattle.std.specs.Prelude.{◌≢◌, ◌↔◌, ◌⊎◌, ◌≤◌, ◌*◌, ℕ, List, IsTrue, length}
use Rattle.std.specs.FinMap as finite
use Rattle.std.specs.FinSet as set
use Rattle.rart_maps.specs.ChangeLists.{joined}
use Rattle.rart_maps.specs.Pairs.{shared, starts, under}
use Rattle.rart_maps.specs.Points.{places, points}
use Rattle.rart_maps.specs.StartLaws.{how_many_under, with_byte}
use Rattle.rart_maps.specs.Versions.{Map}

module _ {V : Type 0} where
  -- Followed by each of two different bytes, the string begins keys.
  abbrev pub IsParting : Map V → List ℕ → Type 0
  IsParting m s = (b : ℕ) × (c : ℕ) × (b ≢ c)
      × IsTrue (set.contains (starts m) (with_byte s b))
      × IsTrue (set.contains (starts m) (with_byte s c))

module _ (V : Type 0) where
  -- A string is a point exactly where it is a key, or begins keys with each of two different bytes
  -- behind it.
  abbrev pub PointsAreKeysAndPartings : Type 0
  PointsAreKeysAndPartings = (m : Map V) (s : List ℕ) →
      IsTrue (set.contains (points m) s) ↔ (IsTrue (finite.contains_key m s) ⊎ IsParting m s)

  -- So each key is one.
  abbrev pub KeysArePoints : Type 0
  KeysArePoints = (m : Map V) (key : List ℕ) →
      IsTrue (finite.contains_key m key) → IsTrue (set.contains (points m) key)

  -- There are at most twice as many as keys.
  abbrev pub PointsAreFew : Type 0
  PointsAreFew = (m : Map V) → set.len (points m) ≤ 2 * finite.len m

  -- So it is with those that a string begins, and the keys that it begins.
  abbrev pub PointsUnderAreFew : Type 0
  PointsUnderAreFew = (m : Map V) (p : List ℕ) →
      how_many_under (points m) p ≤ 2 * length (under m p)

  -- A string is a place of two maps exactly where it begins keys of both, and is a point of the two
  -- put together.
  abbrev pub PlacesAreSharedPoints : Type 0
  PlacesAreSharedPoints = (left right : Map V) (s : List ℕ) →
      IsTrue (set.contains (places left right) s)
      ↔ (IsTrue (set.contains (shared left right) s)
      × IsTrue (set.contains (points (joined left right)) s))

  -- There are no more places than strings that begin keys of both, nor than points.
  abbrev pub PlacesAreFew : Type 0
  PlacesAreFew = (left right : Map V) →
      (set.len (places left right) ≤ set.len (shared left right))
      × (set.len (places left right) ≤ set.len (points (joined left right)))

-- The part of a map that another one lacks, and the part that it has too.
use Rattle.std.specs.Prelude.{◌≡◌, ◌↔◌, ℕ, Bool, IsTrue, List, Option, Some}
use Rattle.std.specs.FinMap as finite
use Rattle.std.specs.Option.{option_map}
use Rattle.rart_below.specs.Plain.{by_bytes}
use Rattle.rart_maps.specs.ChangeLaws.{Decides}
use Rattle.rart_maps.specs.ChangeLists.{differ}
use Rattle.rart_maps.specs.Pairs.{pairs}
use Rattle.rart_maps.specs.Versions.{Map}
use Rattle.rart_versioned.specs.declared.VectorKey.{VectorKey}

module _ {V : Type 0} where
  -- the map with the pairs alone whose key the other one has too
  abbrev pub intersection : Map V → Map V → Map V
  intersection m other = finite.retain_keys m (finite.contains_key other)

  -- pairs on the heap, each key by its bytes
  abbrev pub by_key : List (VectorKey × V) → List (List ℕ × V)
  by_key pairs = by_bytes (λ key. key.bytes.items) pairs

  -- the pair of a key, where it has a value
  abbrev pub pair_at : List ℕ → Option V → Option (List ℕ × V)
  pair_at key value = option_map (λ x. (key, x)) value

  -- These pairs are all that the map has at keys of some kind, in order.
  abbrev pub ArePairsOf : Map V → List (List ℕ × V) → Type 0
  ArePairsOf m some = (test : List ℕ → Bool) × (some ≡ pairs (finite.retain_keys m test))

-- `same` tells whether two values are the same.
module _ {V : Type 0} (same : V → V → Bool) where
  -- the map with the pairs alone whose key the other one lacks, or has with another value
  abbrev pub difference : Map V → Map V → Map V
  difference m other =
      finite.retain_keys m (λ key. differ same (finite.get m key) (finite.get other key))

-- What the words mean: a pair is in the difference exactly where the one map has it and the other
-- one hasn't, and in the intersection exactly where the one has it and the other one has its key.
module _ {V : Type 0} (same : V → V → Bool) where
  abbrev pub DifferenceIsOfPairs : Type 0
  DifferenceIsOfPairs = Decides same → (m other : Map V) (key : List ℕ) (x : V)
      → (finite.get (difference same m other) key ≡ Some x)
      ↔ ((finite.get m key ≡ Some x) × ¬ (finite.get other key ≡ Some x))

abbrev pub IntersectionIsOfKeys : Type 0 → Type 0
IntersectionIsOfKeys V = (m other : Map V) (key : List ℕ) (x : V)
    → (finite.get (intersection m other) key ≡ Some x)
    ↔ ((finite.get m key ≡ Some x) × IsTrue (finite.contains_key other key))

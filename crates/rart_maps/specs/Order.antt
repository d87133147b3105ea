-- The order of byte strings and what bounds on it mean, in words of their own.
use Rattle.std.specs.Prelude.{◌≡◌, ◌<◌, ◌⊎◌, ◌++◌, ◌↔◌, ℕ, List, [], ◌∷◌, IsTrue, ⊤}
use Rattle.std.specs.declared.cmp.Ordering.TheVariants.{Less, Equal, Greater}
use Rattle.std.specs.declared.ops.Bound.{Bound}
use Rattle.std.specs.declared.ops.Bound.TheVariants.{Included, Excluded, Unbounded}
use Rattle.rart_below.specs.Bytes.{byte_order, begins}

-- u stands before w: w goes on where u ends, or has the greater byte where they first differ.
abbrev pub IsBefore : List ℕ → List ℕ → Type 0
IsBefore u [] = ⊥
IsBefore [] (c ∷ w) = ⊤
IsBefore (b ∷ u) (c ∷ w) = (b < c) ⊎ ((b ≡ c) × IsBefore u w)

-- u is w, or stands before it.
abbrev pub IsAtMost : List ℕ → List ℕ → Type 0
IsAtMost u w = (u ≡ w) ⊎ IsBefore u w

-- The key meets a lower bound.
abbrev pub MeetsLow : Bound (List ℕ) → List ℕ → Type 0
MeetsLow (Included low) key = IsAtMost low key
MeetsLow (Excluded low) key = IsBefore low key
MeetsLow Unbounded key = ⊤

-- The key meets an upper bound.
abbrev pub MeetsHigh : Bound (List ℕ) → List ℕ → Type 0
MeetsHigh (Included high) key = IsAtMost key high
MeetsHigh (Excluded high) key = IsBefore key high
MeetsHigh Unbounded key = ⊤

-- The order of byte strings says of two that the one stands before the other, that they are equal,
-- or that the other stands before the one, exactly where it is so.
abbrev pub OrderIsOfFirstDifference : Type 0
OrderIsOfFirstDifference = (u w : List ℕ) → ((byte_order u w ≡ Less) ↔ IsBefore u w)
    × ((byte_order u w ≡ Equal) ↔ (u ≡ w)) × ((byte_order u w ≡ Greater) ↔ IsBefore w u)

-- A string begins another exactly where the other is it and a rest.
abbrev pub BeginsIsOfRest : Type 0
BeginsIsOfRest = (u w : List ℕ) → IsTrue (begins u w) ↔ ((rest : List ℕ) × (w ≡ u ++ rest))

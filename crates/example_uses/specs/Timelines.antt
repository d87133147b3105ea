-- Records of several ids, each by the time that it holds from: the last one of an id up to a time.
use Rattle.std.specs.Prelude.{◌≡◌, ◌<◌, ◌^◌, ◌↔◌, ℕ, List, [], ◌∷◌, ◌++◌, Option, Some, None, IsTrue, reverse, if◌then◌else◌}
use Rattle.std.specs.Int.{w64, to_be_bytes}
use Rattle.std.specs.declared.ops.Bound.{Bound}
use Rattle.std.specs.declared.ops.Bound.TheVariants.{Unbounded}
use Rattle.rart_below.specs.Bytes.{begins}
use Rattle.rart_maps.specs.Order.{IsAtMost, IsBefore, MeetsHigh}
use Rattle.rart_maps.specs.Pairs.{within}
use Rattle.rart_maps.specs.Versions.{Map, Version, has_key, value_at}
use Rattle.example_uses.specs.declared.timeline.Record.{Record}

-- what begins the keys of an id: its bytes and a slash
abbrev pub beginning : List ℕ → List ℕ
beginning id = id ++ 47 ∷ []

-- the key of a record: behind that its time, as 8 bytes, the greatest byte first
abbrev pub record_key : List ℕ → ℕ → List ℕ
record_key id time = beginning id ++ to_be_bytes w64 time

-- The key is there, p begins it, and it meets the bound.
abbrev pub IsCandidate : Version ℕ → List ℕ → Bound (List ℕ) → List ℕ → Type 0
IsCandidate v p high key =
    IsTrue (begins p key) × MeetsHigh high key × IsTrue (has_key v key)

-- The record is the last of these keys with its value, or there is none.
abbrev pub IsLastUnder : Version ℕ → List ℕ → Bound (List ℕ) → Option Record → Type 0
IsLastUnder v p high None = (key : List ℕ) → IsCandidate v p high key → ⊥
IsLastUnder v p high (Some found) =
    IsCandidate v p high found.key.items
    × (value_at v found.key.items ≡ Some found.value)
    × ((other : List ℕ) → IsCandidate v p high other → IsAtMost other found.key.items)

-- The keys of an id are in the order of their times, so the last of them is the newest.
abbrev pub KeysAreInTimeOrder : Type 0
KeysAreInTimeOrder = (id : List ℕ) (one other : ℕ) → one < 2 ^ 64 → other < 2 ^ 64 →
    IsBefore (record_key id one) (record_key id other) ↔ (one < other)

-- ---- inside
-- The record is the last pair that meets the bound, whatever begins it, or there is none.
abbrev pub IsLastPair : Map ℕ → Bound (List ℕ) → Option Record → Type 0
IsLastPair m high None = reverse (within m Unbounded high) ≡ []
IsLastPair m high (Some found) = (others : List (List ℕ × ℕ))
    × (reverse (within m Unbounded high) ≡ (found.key.items, found.value) ∷ others)

-- the record, if p begins its key
abbrev pub if_begun : List ℕ → Option Record → Option Record
if_begun p None = None
if_begun p (Some found) = if begins p found.key.items then Some found else None

-- Which strings begin the keys of maps, and how many of them a string begins.
use Rattle.std.specs.Prelude.{◌≡◌, ◌≢◌, ◌↔◌, ◌⊎◌, ℕ, ◌+◌, ◌<◌, ◌==◌, List, [], ◌∷◌, ◌++◌, All, Contains, IsTrue, sum_by, count_by, if◌then◌else◌}
use Rattle.std.specs.List.{range_with_len}
use Rattle.std.specs.FinMap as finite
use Rattle.std.specs.FinSet as set
use Rattle.rart_below.specs.Bytes.{begins}
use Rattle.rart_maps.specs.Versions.{Map}
use Rattle.rart_maps.specs.Pairs.{Strings, starts, shared}

-- the strings of a set that s begins
abbrev pub strings_under : Strings → List ℕ → Strings
strings_under strings s = set.retain strings (begins s)

-- how many strings of a set s begins
abbrev pub how_many_under : Strings → List ℕ → ℕ
how_many_under strings s = set.len (strings_under strings s)

-- s with one byte more
abbrev pub with_byte : List ℕ → ℕ → List ℕ
with_byte s b = s ++ b ∷ []

-- the bytes, 0 to 255
unfoldable pub all_bytes : List ℕ
all_bytes = range_with_len 0 256

-- The strings that s begins are s, where it is in the set, and those that s and one byte begin.
abbrev pub StringsUnderSplit : Type 0
StringsUnderSplit = (strings : Strings) (s u : List ℕ) →
    IsTrue (set.contains (strings_under strings s) u)
    ↔ (((u ≡ s) × IsTrue (set.contains strings s))
    ⊎ ((b : ℕ) × IsTrue (set.contains (strings_under strings (with_byte s b)) u)))

-- These parts have no string in common.
abbrev pub StringsUnderAreApart : Type 0
StringsUnderAreApart = (strings : Strings) (s u : List ℕ) (b : ℕ) →
    IsTrue (set.contains (strings_under strings (with_byte s b)) u) →
    (u ≢ s) × ((c : ℕ) → IsTrue (set.contains (strings_under strings (with_byte s c)) u) → c ≡ b)

-- one for s, where it is in the set, and for each of the bytes as many as s and the byte begin
abbrev pub sum_of_parts : Strings → List ℕ → List ℕ → ℕ
sum_of_parts strings s bytes = (if set.contains strings s then 1 else 0)
    + sum_by (λ b. set.len (strings_under strings (with_byte s b))) bytes

-- Each byte with which a string of the set goes on after s stands once among the bytes.
abbrev pub HasNextBytesOnce : Strings → List ℕ → List ℕ → Type 0
HasNextBytesOnce strings s bytes = (b : ℕ) (rest : List ℕ) →
    IsTrue (set.contains strings (s ++ b ∷ rest)) → count_by (λ c. c == b) bytes ≡ 1

-- So the numbers of these parts add up, over any bytes that have each next one once.
abbrev pub StringsUnderAddUp : Type 0
StringsUnderAddUp = (strings : Strings) (s bytes : List ℕ) → HasNextBytesOnce strings s bytes →
    set.len (strings_under strings s) ≡ sum_of_parts strings s bytes

module _ {V : Type 0} where
  -- Behind the bytes above, each string that begins a key of the list is in the set.
  abbrev pub HasStarts : Strings → List ℕ → List (List ℕ × V) → Type 0
  HasStarts strings above list = (pair : List ℕ × V) → Contains list pair → (u : List ℕ)
      → IsTrue (begins u pair.0) → IsTrue (set.contains strings (above ++ u))

  -- Each key is a string of bytes.
  abbrev pub HasByteKeys : Map V → Type 0
  HasByteKeys m = (key : List ℕ) → IsTrue (finite.contains_key m key) → All (λ b. b < 256) key

module _ (V : Type 0) where
  -- A string is one of the starts exactly where it begins a key.
  abbrev pub StartsBeginKeys : Type 0
  StartsBeginKeys = (m : Map V) (s : List ℕ) →
      IsTrue (set.contains (starts m) s)
      ↔ ((key : List ℕ) × IsTrue (begins s key) × IsTrue (finite.contains_key m key))

  -- It is shared exactly where it is one of the starts of both.
  abbrev pub SharedAreInBoth : Type 0
  SharedAreInBoth = (left right : Map V) (s : List ℕ) →
      IsTrue (set.contains (shared left right) s)
      ↔ (IsTrue (set.contains (starts left) s) × IsTrue (set.contains (starts right) s))

  -- The numbers of the starts that a string begins add up over all bytes.
  abbrev pub StartsAddUp : Type 0
  StartsAddUp = (m : Map V) (s : List ℕ) → HasByteKeys m →
      set.len (strings_under (starts m) s) ≡ sum_of_parts (starts m) s all_bytes

  -- So do those of the shared ones.
  abbrev pub SharedAddUp : Type 0
  SharedAddUp = (left right : Map V) (s : List ℕ) → HasByteKeys left ⊎ HasByteKeys right →
      set.len (strings_under (shared left right) s) ≡ sum_of_parts (shared left right) s all_bytes

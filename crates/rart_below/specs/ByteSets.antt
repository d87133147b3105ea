-- Sets of bytes, and the set of the bytes under which children stand.
use Rattle.std.specs.Prelude.{◌≡◌, ◌<◌, ◌≤◌, ℕ, suc, ◌/◌, ◌%◌, ◌==◌, ◌&&◌, not, Bool, true, false, List, [], ◌∷◌, Option, Some, None, is_some, if◌then◌else◌, slice_index_or}
use Rattle.std.specs.Int.{bit_at}
use Rattle.rart_below.specs.Children.{child_at}
use Rattle.rart_below.specs.declared.byte_set.ByteSet.{ByteSet}

-- whether the byte is among the words' bits, of which each word has 64
abbrev pub has_bit : List ℕ → ℕ → Bool
has_bit words byte = bit_at (slice_index_or words (byte / 64) 0) (byte % 64) == 1

-- whether the byte is in the set
abbrev pub has_byte : ByteSet → ℕ → Bool
has_byte set byte = has_bit set.words byte

-- The least byte was taken out, or there was none.
abbrev pub TakesFirst : ByteSet → Option ℕ → ByteSet → Type 0
TakesFirst before None after = (after ≡ before) × ((byte : ℕ) → has_byte before byte ≡ false)
TakesFirst before (Some first) after =
    (has_byte before first ≡ true)
    × ((byte : ℕ) → byte < first → has_byte before byte ≡ false)
    × ((byte : ℕ) → has_byte after byte ≡ (not (byte == first) && has_byte before byte))

-- This is the least number not below the first at which the test holds, or there is none.
abbrev pub IsLeastFrom : ℕ → (ℕ → Bool) → Option ℕ → Type 0
IsLeastFrom first holds None = (byte : ℕ) → first ≤ byte → holds byte ≡ false
IsLeastFrom first holds (Some least) =
    (first ≤ least) × (holds least ≡ true)
    × ((byte : ℕ) → first ≤ byte → byte < least → holds byte ≡ false)

-- This is the greatest number below the end at which the test holds, or there is none.
abbrev pub IsGreatestBelow : ℕ → (ℕ → Bool) → Option ℕ → Type 0
IsGreatestBelow end holds None = (byte : ℕ) → byte < end → holds byte ≡ false
IsGreatestBelow end holds (Some greatest) =
    (greatest < end) × (holds greatest ≡ true)
    × ((byte : ℕ) → greatest < byte → byte < end → holds byte ≡ false)

-- whether the set has the bytes of the slots that have a child and not those of the others, where
-- the first slot stands under this byte
abbrev pub marks_slots : {C : Type 0} → ByteSet → ℕ → List (Option C) → Bool
marks_slots set byte [] = true
marks_slots set byte (slot ∷ slots) =
    (if is_some slot then has_byte set byte else not (has_byte set byte))
    && marks_slots set (suc byte) slots

-- The set has each byte that has a child, and no other.
abbrev pub AreBytesOf : {C : Type 0} → ByteSet → List (ℕ × C) → Type 0
AreBytesOf set children = (byte : ℕ) → has_byte set byte ≡ is_some (child_at byte children)

-- The set has each byte that has a child in both, and no other.
abbrev pub AreBytesOfBoth : {C : Type 0} → ByteSet → List (ℕ × C) → List (ℕ × C) → Type 0
AreBytesOfBoth set left right =
    (byte : ℕ) → has_byte set byte ≡ (is_some (child_at byte left) && is_some (child_at byte right))

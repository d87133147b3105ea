-- How the lists inside a mapping show its children.
use Rattle.std.specs.Prelude.{◌≡◌, ◌≢◌, ◌<◌, length, slice_index, ℕ, suc, ◌+◌, ◌*◌, ◌==◌, ◌&&◌, Bool, true, false, List, [], ◌∷◌, Option, Some, None, map, nat_lt, slice_index_or, EachIndex}
use Rattle.std.specs.List.{count_by, AllZip}
use Rattle.std.specs.Borrow.{Bor}

-- what a byte and a reference show
abbrev pub entry_copied : {C : Type 0} → Option (ℕ × Bor C) → Option (ℕ × C)
entry_copied None = None
entry_copied (Some entry) = Some (entry.0, entry.1.now)

-- the same bytes, with children that the relation ties
abbrev pub SameBytes : {C : Type 0} → (C → C → Type 0) → List (ℕ × C) → List (ℕ × C) → Type 0
SameBytes Tied children copies =
    AllZip (λ child copy. (copy.0 ≡ child.0) × Tied child.1 copy.1) children copies

-- how many of the keys are below the byte. Where the keys ascend this is the byte's place
abbrev pub rank : ℕ → List ℕ → ℕ
rank byte keys = count_by (λ key. nat_lt key byte) keys

-- The byte stands at this place among the keys, and the place is its rank.
pub record IsPlaceOf (byte : ℕ) (keys : List ℕ) (place : ℕ) : Type 0 where
  pub at_rank : place ≡ rank byte keys
  pub within : place < length keys
  pub holds : slice_index keys place ≡ byte

-- The byte does not stand at its rank.
abbrev pub IsAbsent : ℕ → List ℕ → Type 0
IsAbsent byte keys = rank byte keys < length keys → slice_index keys (rank byte keys) ≢ byte

abbrev pub one_if_some : {C : Type 0} → Option C → ℕ
one_if_some None = 0
one_if_some (Some child) = 1

-- the children in slots that stand beside their keys
abbrev pub keyed_children : {C : Type 0} → List ℕ → List (Option C) → List (ℕ × C)
keyed_children [] slots = []
keyed_children (key ∷ keys) [] = []
keyed_children (key ∷ keys) (None ∷ slots) = keyed_children keys slots
keyed_children (key ∷ keys) (Some child ∷ slots) = (key, child) ∷ keyed_children keys slots

-- whether each key has a child beside it
abbrev pub is_filled : {C : Type 0} → List ℕ → List (Option C) → Bool
is_filled [] slots = true
is_filled (key ∷ keys) [] = false
is_filled (key ∷ keys) (None ∷ slots) = false
is_filled (key ∷ keys) (Some child ∷ slots) = is_filled keys slots

-- no slot has a child
abbrev pub AreEmpty : {C : Type 0} → List (Option C) → Type 0
AreEmpty slots = EachIndex slots (λ place. slice_index_or slots place None ≡ None)

-- the children in slots, of which the first stands under this byte
abbrev pub slot_children : {C : Type 0} → ℕ → List (Option C) → List (ℕ × C)
slot_children byte [] = []
slot_children byte (None ∷ slots) = slot_children (suc byte) slots
slot_children byte (Some child ∷ slots) = (byte, child) ∷ slot_children (suc byte) slots

-- the slots that an index names, one for each byte. A number past the slots names none
abbrev pub named_slots : {C : Type 0} → List (Option C) → List ℕ → List (Option C)
named_slots slots index = map (λ place. slice_index_or slots place None) index

-- the number whose bits mark the slots in use
abbrev pub marks_of : {C : Type 0} → List (Option C) → ℕ
marks_of [] = 0
marks_of (slot ∷ slots) = one_if_some slot + 2 * marks_of slots

-- how many entries of the index name this place
abbrev pub names_of : ℕ → List ℕ → ℕ
names_of place index = count_by (λ entry. entry == place) index

-- whether the index names each slot that is in use once and the others never, where the first slot
-- has this number
abbrev pub is_named_once : {C : Type 0} → ℕ → List (Option C) → List ℕ → Bool
is_named_once first [] index = true
is_named_once first (slot ∷ slots) index =
    names_of first index == one_if_some slot && is_named_once (suc first) slots index

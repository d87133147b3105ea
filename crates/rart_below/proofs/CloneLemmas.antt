-- What a clone of the slots shows.
use Rattle.std.proofs.Common.{◌≡◌, ℕ, suc, length, List, [], ◌∷◌, refl, ap, Option, None, Some, zero, ◌+◌, ◌*◌, get_or}
use Rattle.std.specs.Prelude.{◌&&◌, ◌==◌, not, is_some, if◌then◌else◌}
use Rattle.std.specs.List.{AllZip}
use Rattle.std.specs.Ordering.{nat_cmp, is_lt}
use Rattle.std.specs.FinMap.Entries.{is_sorted, below_all}
use Rattle.rart_below.specs.ByteSets.{has_byte, marks_slots}
use Rattle.rart_below.specs.declared.byte_set.ByteSet.{ByteSet}
use Rattle.rart_below.specs.Layouts.{SameBytes, keyed_children, is_filled, slot_children, one_if_some, named_slots, names_of, marks_of, is_named_once}
use Rattle.std.proofs.lemmas.Slice.Zip.{AllZip-long}
use Rattle.rart_below.proofs.SortedMappingLemmas.{in_order}
use Rattle.rart_below.proofs.DirectMappingLemmas as direct
use Rattle.rart_below.proofs.IndexedMappingLemmas as indexed

module _ {C : Type 0} (Tied : C → C → Type 0) where
  abbrev pub SlotTied : Option C → Option C → Type 0
  SlotTied None copy = copy ≡ None
  SlotTied (Some child) copy = (c : C) × (copy ≡ Some c) × Tied child c

  -- any relation of slots that says as much, place by place
  pub slots_tied : (Given : Option C → Option C → Type 0)
      → ((slot copy : Option C) → Given slot copy → SlotTied slot copy)
      → (slots copies : List (Option C)) → AllZip Given slots copies → AllZip SlotTied slots copies
  slots_tied Given says [] [] h = tt
  slots_tied Given says [] (copy ∷ copies) h = absurd h
  slots_tied Given says (slot ∷ slots) [] h = absurd h
  slots_tied Given says (slot ∷ slots) (copy ∷ copies) h =
      (says slot copy h.0, slots_tied Given says slots copies h.1)

  below-SameBytes : (byte : ℕ) (children copies : List (ℕ × C)) → SameBytes Tied children copies
      → below_all nat_cmp byte copies ≡ below_all nat_cmp byte children
  below-SameBytes byte [] [] h = refl
  below-SameBytes byte [] (copy ∷ copies) h = absurd h
  below-SameBytes byte (child ∷ children) [] h = absurd h
  below-SameBytes byte (child ∷ children) (copy ∷ copies) h =
      λ i. is_lt (nat_cmp byte (h.0.0 i)) && below-SameBytes byte children copies h.1 i

  pub sorted-SameBytes : (children copies : List (ℕ × C)) → SameBytes Tied children copies
      → is_sorted nat_cmp copies ≡ is_sorted nat_cmp children
  sorted-SameBytes [] [] h = refl
  sorted-SameBytes [] (copy ∷ copies) h = absurd h
  sorted-SameBytes (child ∷ children) [] h = absurd h
  sorted-SameBytes (child ∷ children) (copy ∷ copies) h =
      let heads = h.0.0 in
      let tails = sorted-SameBytes children copies h.1 in
      let bounds = below-SameBytes child.0 children copies h.1 in
      rw (heads, bounds, tails) refl

  pub keyed-tied : (keys : List ℕ) (slots copies : List (Option C)) → AllZip SlotTied slots copies
      → SameBytes Tied (keyed_children keys slots) (keyed_children keys copies)
      × (is_filled keys copies ≡ is_filled keys slots)
  keyed-tied [] slots copies h = (tt, refl)
  keyed-tied (key ∷ keys) [] [] h = (tt, refl)
  keyed-tied (key ∷ keys) [] (copy ∷ copies) h = absurd h
  keyed-tied (key ∷ keys) (slot ∷ slots) [] h = absurd h
  keyed-tied (key ∷ keys) (None ∷ slots) (copy ∷ copies) h =
      let rest = keyed-tied keys slots copies h.1 in rw h.0 (rest.0, refl)
  keyed-tied (key ∷ keys) (Some child ∷ slots) (copy ∷ copies) h =
      let rest = keyed-tied keys slots copies h.1 in rw h.0.1 (((refl, h.0.2), rest.0), rest.1)

-- the test of a mapping by keys, on both
pub keyed-order : {C : Type 0} (Tied : C → C → Type 0) (width : ℕ) (keys keys' : List ℕ)
    (slots copies : List (Option C)) → keys' ≡ keys → AllZip (SlotTied Tied) slots copies
    → SameBytes Tied (keyed_children keys slots) (keyed_children keys' copies)
    × (in_order width keys' copies ≡ in_order width keys slots)
keyed-order Tied width keys keys' slots copies same h =
    let tied = keyed-tied Tied keys slots copies h in
    let filled = tied.1 in
    let sorted =
    sorted-SameBytes Tied (keyed_children keys slots) (keyed_children keys copies) tied.0 in
    rw same (tied.0, rw (filled, sorted) refl)

module _ {C : Type 0} (Tied : C → C → Type 0) where
  pub slots-tied : (first : ℕ) (slots copies : List (Option C))
      → AllZip (SlotTied Tied) slots copies
      → SameBytes Tied (slot_children first slots) (slot_children first copies)
      × (length copies ≡ length slots)
  slots-tied first [] [] h = (tt, refl)
  slots-tied first [] (copy ∷ copies) h = absurd h
  slots-tied first (slot ∷ slots) [] h = absurd h
  slots-tied first (None ∷ slots) (copy ∷ copies) h =
      let rest = slots-tied (suc first) slots copies h.1 in rw h.0 (rest.0, ap suc rest.1)
  slots-tied first (Some child ∷ slots) (copy ∷ copies) h =
      let rest = slots-tied (suc first) slots copies h.1 in
      rw h.0.1 (((refl, h.0.2), rest.0), ap suc rest.1)

  some-tied : (slot copy : Option C) → SlotTied Tied slot copy → is_some copy ≡ is_some slot
  some-tied None copy h = ap is_some h
  some-tied (Some child) copy h = ap is_some h.1

  bytes-tied : (bytes : ByteSet) (first : ℕ) (slots copies : List (Option C))
      → AllZip (SlotTied Tied) slots copies
      → marks_slots bytes first copies ≡ marks_slots bytes first slots
  bytes-tied bytes first [] [] h = refl
  bytes-tied bytes first [] (copy ∷ copies) h = absurd h
  bytes-tied bytes first (slot ∷ slots) [] h = absurd h
  bytes-tied bytes first (slot ∷ slots) (copy ∷ copies) h =
      let head = some-tied slot copy h.0 in
      let rest = bytes-tied bytes (suc first) slots copies h.1 in
      λ i. (if head i then has_byte bytes first else not (has_byte bytes first)) && rest i

  -- the test of a mapping by slots, on both
  pub direct-order : (slots copies : List (Option C)) (count : ℕ) (bytes bytes' : ByteSet)
      → bytes' ≡ bytes → AllZip (SlotTied Tied) slots copies
      → SameBytes Tied (slot_children 0 slots) (slot_children 0 copies)
      × (direct.in_order copies count bytes' ≡ direct.in_order slots count bytes)
  direct-order slots copies count bytes bytes' same h =
      let marked = bytes-tied bytes 0 slots copies h in
      let tied = slots-tied 0 slots copies h in
      let long = tied.1 in
      let counted = AllZip-long _ (slot_children 0 slots) (slot_children 0 copies) tied.0 in
      (tied.0, rw (same, long, counted, marked) refl)

  held-tied : (slot copy : Option C) → SlotTied Tied slot copy → one_if_some copy ≡ one_if_some slot
  held-tied None copy h = ap one_if_some h
  held-tied (Some child) copy h = ap one_if_some h.1

  marks-tied : (slots copies : List (Option C)) → AllZip (SlotTied Tied) slots copies
      → marks_of copies ≡ marks_of slots
  marks-tied [] [] h = refl
  marks-tied [] (copy ∷ copies) h = absurd h
  marks-tied (slot ∷ slots) [] h = absurd h
  marks-tied (slot ∷ slots) (copy ∷ copies) h =
      let head = held-tied slot copy h.0 in
      let rest = marks-tied slots copies h.1 in
      λ i. head i + 2 * rest i

  named-tied : (first : ℕ) (slots copies : List (Option C)) (index : List ℕ)
      → AllZip (SlotTied Tied) slots copies
      → is_named_once first copies index ≡ is_named_once first slots index
  named-tied first [] [] index h = refl
  named-tied first [] (copy ∷ copies) index h = absurd h
  named-tied first (slot ∷ slots) [] index h = absurd h
  named-tied first (slot ∷ slots) (copy ∷ copies) index h =
      let head = held-tied slot copy h.0 in
      let rest = named-tied (suc first) slots copies index h.1 in
      λ i. (names_of first index == head i) && rest i

  place-tied : (slots copies : List (Option C)) (place : ℕ) → AllZip (SlotTied Tied) slots copies
      → SlotTied Tied (get_or slots place None) (get_or copies place None)
  place-tied [] [] place h = refl
  place-tied [] (copy ∷ copies) place h = absurd h
  place-tied (slot ∷ slots) [] place h = absurd h
  place-tied (slot ∷ slots) (copy ∷ copies) zero h = h.0
  place-tied (slot ∷ slots) (copy ∷ copies) (suc place) h = place-tied slots copies place h.1

  named_slots-tied : (slots copies : List (Option C)) (index : List ℕ)
      → AllZip (SlotTied Tied) slots copies
      → AllZip (SlotTied Tied) (named_slots slots index) (named_slots copies index)
  named_slots-tied slots copies [] h = tt
  named_slots-tied slots copies (place ∷ index) h =
      (place-tied slots copies place h, named_slots-tied slots copies index h)

  -- the test of a mapping by an index, on both
  pub indexed-order : (index : List ℕ) (slots copies : List (Option C)) (used : ℕ)
      (bytes bytes' : ByteSet) → bytes' ≡ bytes → AllZip (SlotTied Tied) slots copies
      → SameBytes Tied (slot_children 0 (named_slots slots index))
      (slot_children 0 (named_slots copies index))
      × (indexed.in_order index copies used bytes' ≡ indexed.in_order index slots used bytes)
  indexed-order index slots copies used bytes bytes' same h =
      let all = named_slots-tied slots copies index h in
      let tied = slots-tied 0 (named_slots slots index) (named_slots copies index) all in
      let marked = bytes-tied bytes 0 (named_slots slots index) (named_slots copies index) all in
      let long = (slots-tied 0 slots copies h).1 in
      let marks = marks-tied slots copies h in
      let named = named-tied 0 slots copies index h in
      (tied.0, rw (same, long, marks, named, marked) refl)

-- A mapping by slots, as its methods know it.
use Rattle.std.proofs.Common.{◌≡◌, ◌<◌, ◌≤◌, ℕ, length, length-set, ◌+◌, ◌-◌, true, List, ap, sym, ◌∙◌, subst, arith, get_or, set, Option, None, Some}
use Rattle.std.specs.Prelude.{◌&&◌, ◌==◌, ◌||◌, Bool, not, is_some}
use Rattle.std.proofs.lemmas.Bool.{and_parts, and_from, eqb-true, eq-eqb}
use Rattle.std.proofs.lemmas.List.{get_or_default, get_or_past}
use Rattle.rart_below.specs.ByteSets.{has_byte, marks_slots}
use Rattle.rart_below.specs.declared.byte_set.ByteSet.{ByteSet}
use Rattle.rart_below.specs.Children.{child_at, with_child, without_child}
use Rattle.rart_below.specs.Layouts.{slot_children}
use Rattle.rart_below.specs.Laws.{length-slot_children}
use Rattle.rart_below.proofs.SlotLemmas.{child_at-slot, with_child-slot, without_child-slot, length-slots_added, length-slots_replaced, length-slots_removed}
use Rattle.rart_below.proofs.AscendingLemmas.{without_child-absent}
use Rattle.rart_below.proofs.LentLemmas.{set_as_was}
use Rattle.rart_below.proofs.SlotByteLemmas.{AreMarked, marked_from, marks_from, marked-added, marked-removed, marked-replaced}

module _ {C : Type 0} where
  -- the test of a mapping by slots
  abbrev pub in_order : List (Option C) → ℕ → ByteSet → Bool
  in_order slots count bytes =
      length slots == 256 && count == length (slot_children 0 slots) && marks_slots bytes 0 slots

  pub record IsKept (slots : List (Option C)) (count : ℕ) (bytes : ByteSet) : Type 0 where
    pub wide : length slots ≡ 256
    pub counted : count ≡ length (slot_children 0 slots)
    pub marked : AreMarked bytes slots

  pub kept_from_order : (slots : List (Option C)) (count : ℕ) (bytes : ByteSet)
      → in_order slots count bytes ≡ true → IsKept slots count bytes
  kept_from_order slots count bytes order =
      let outer =
      and_parts (length slots == 256 && count == length (slot_children 0 slots))
      (marks_slots bytes 0 slots) order in
      let parts =
      and_parts (length slots == 256) (count == length (slot_children 0 slots)) outer.0 in
      record {
        wide = eqb-true (length slots) 256 parts.0;
        counted = eqb-true count (length (slot_children 0 slots)) parts.1;
        marked = marked_from bytes slots outer.1;
      }

  pub order_from : (slots : List (Option C)) (count : ℕ) (bytes : ByteSet) → length slots ≡ 256
      → count ≡ length (slot_children 0 slots) → AreMarked bytes slots
      → in_order slots count bytes ≡ true
  order_from slots count bytes wide counted marked =
      and_from _ _ (and_from _ _ (eq-eqb (length slots) 256 wide)
      (eq-eqb count (length (slot_children 0 slots)) counted)) (marks_from bytes slots marked)

  -- The mapping is in order, and shows these children.
  abbrev pub Shows : List (Option C) → ℕ → ByteSet → List (ℕ × C) → Type 0
  Shows slots count bytes children =
      (in_order slots count bytes ≡ true) × (slot_children 0 slots ≡ children)

  pub child_at-place : (byte : ℕ) (slots : List (Option C))
      → child_at byte (slot_children 0 slots) ≡ get_or slots byte None
  child_at-place byte slots = let same : 0 + byte ≡ byte = omega arith in
      subst (λ (n : ℕ). child_at n (slot_children 0 slots) ≡ get_or slots byte None) same
      (child_at-slot 0 byte slots)

  pub with_child-place : (byte : ℕ) (child : C) (slots : List (Option C)) → byte < length slots
      → slot_children 0 (set slots byte (Some child))
      ≡ with_child byte child (slot_children 0 slots)
  with_child-place byte child slots lt = let same : 0 + byte ≡ byte = omega arith in
      subst (λ (n : ℕ). slot_children 0 (set slots byte (Some child))
      ≡ with_child n child (slot_children 0 slots)) same (with_child-slot 0 byte child slots lt)

  pub without_child-place : (byte : ℕ) (slots : List (Option C))
      → slot_children 0 (set slots byte None) ≡ without_child byte (slot_children 0 slots)
  without_child-place byte slots = let same : 0 + byte ≡ byte = omega arith in
      subst (λ (n : ℕ). slot_children 0 (set slots byte None)
      ≡ without_child n (slot_children 0 slots)) same (without_child-slot 0 byte slots)

  pub found : (byte : ℕ) (slots : List (Option C)) (o : Option C) → byte < length slots
      → o ≡ get_or slots byte o → o ≡ child_at byte (slot_children 0 slots)
  found byte slots o lt is =
      is ∙ (get_or_default slots byte o None lt ∙ sym (child_at-place byte slots))

  pub room_for_one : (byte : ℕ) (child : C) (slots : List (Option C)) (count : ℕ)
      (bytes : ByteSet) → IsKept slots count bytes → byte < 256
      → child_at byte (slot_children 0 slots) ≡ None → count < 256
  room_for_one byte child slots count bytes kept lt absent =
      let within : byte < length slots = omega (arith, kept.wide) in
      let more =
      length-slots_added 0 byte child slots within (sym (child_at-place byte slots) ∙ absent) in
      omega (
        arith,
        more,
        kept.wide,
        kept.counted,
        length-slot_children 0 (set slots byte (Some child)),
        length-set slots byte (Some child),
      )

  -- ---- the slots after each change
  pub added : (byte count' : ℕ) (child : C) (slots slots' : List (Option C)) (count : ℕ)
      (bytes bytes' : ByteSet) → IsKept slots count bytes → byte < 256
      → child_at byte (slot_children 0 slots) ≡ None → slots' ≡ set slots byte (Some child)
      → count' ≡ count + 1
      → ((other : ℕ) → has_byte bytes' other ≡ (other == byte || has_byte bytes other))
      → Shows slots' count' bytes' (with_child byte child (slot_children 0 slots))
  added byte count' child slots slots' count bytes bytes' kept lt absent s n put =
      let within : byte < length slots = omega (arith, kept.wide) in
      let more =
      length-slots_added 0 byte child slots within (sym (child_at-place byte slots) ∙ absent) in
      rw s (
        order_from _ count' bytes' (length-set slots byte (Some child) ∙ kept.wide)
            (omega (arith, n, more, kept.counted))
            (marked-added byte child slots bytes bytes' within
            (length-set slots byte (Some child)) put kept.marked),
        with_child-place byte child slots within,
      )

  pub replaced : (byte : ℕ) (child old : C) (slots slots' : List (Option C)) (count : ℕ)
      (bytes : ByteSet) → IsKept slots count bytes → byte < 256
      → Some old ≡ get_or slots byte None → slots' ≡ set slots byte (Some child)
      → Shows slots' count bytes (with_child byte child (slot_children 0 slots))
  replaced byte child old slots slots' count bytes kept lt held s =
      let within : byte < length slots = omega (arith, kept.wide) in
      rw s (
        order_from _ count bytes (length-set slots byte (Some child) ∙ kept.wide)
            (kept.counted ∙ sym (length-slots_replaced 0 byte child old slots (sym held)))
            (marked-replaced byte child old slots bytes within
            (length-set slots byte (Some child)) held kept.marked),
        with_child-place byte child slots within,
      )

  pub removed : (byte count' : ℕ) (old : C) (slots slots' : List (Option C)) (count : ℕ)
      (bytes bytes' : ByteSet) → IsKept slots count bytes → byte < 256
      → Some old ≡ get_or slots byte None → slots' ≡ set slots byte None → count' ≡ count - 1
      → ((other : ℕ) → has_byte bytes' other ≡ (not (other == byte) && has_byte bytes other))
      → Shows slots' count' bytes' (without_child byte (slot_children 0 slots))
  removed byte count' old slots slots' count bytes bytes' kept lt held s n cut =
      let within : byte < length slots = omega (arith, kept.wide) in
      let fewer = length-slots_removed 0 byte old slots (sym held) in
      rw s (
        order_from _ count' bytes' (length-set slots byte None ∙ kept.wide)
            (omega (arith, n, fewer, kept.counted))
            (marked-removed byte slots bytes bytes' within (length-set slots byte None) cut
            kept.marked),
        without_child-place byte slots,
      )

  -- emptying a slot that is empty changes nothing
  pub unchanged : (byte : ℕ) (slots slots' : List (Option C)) (count : ℕ) (bytes : ByteSet)
      → IsKept slots count bytes → None ≡ get_or slots byte None → slots' ≡ set slots byte None
      → Shows slots' count bytes (without_child byte (slot_children 0 slots))
  unchanged byte slots slots' count bytes kept absent s =
      let same =
      without_child-absent byte (slot_children 0 slots)
      (child_at-place byte slots ∙ sym absent) in
      let as_was : slots' ≡ slots = s ∙ set_as_was slots byte None absent in
      rw as_was (order_from slots count bytes kept.wide kept.counted kept.marked, sym same)

  pub holds_one : (byte : ℕ) (old : C) (slots : List (Option C)) (count : ℕ) (bytes : ByteSet)
      → IsKept slots count bytes → Some old ≡ get_or slots byte None → 0 < count
  holds_one byte old slots count bytes kept held =
      omega (arith, length-slots_removed 0 byte old slots (sym held), kept.counted)

  pub none_past : (byte : ℕ) (slots : List (Option C)) (count : ℕ) (bytes : ByteSet)
      → IsKept slots count bytes → 256 ≤ byte → child_at byte (slot_children 0 slots) ≡ None
  none_past byte slots count bytes kept le =
      child_at-place byte slots ∙ get_or_past slots byte None (omega (arith, kept.wide))

  -- the set has the bytes of the children
  pub bytes_are : (byte : ℕ) (slots : List (Option C)) (count : ℕ) (bytes : ByteSet)
      → IsKept slots count bytes → byte < 256
      → has_byte bytes byte ≡ is_some (child_at byte (slot_children 0 slots))
  bytes_are byte slots count bytes kept lt =
      kept.marked byte (omega (arith, lt, kept.wide))
      ∙ ap is_some (sym (child_at-place byte slots))

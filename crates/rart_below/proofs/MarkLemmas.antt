-- The number whose bits mark the slots in use.
use Rattle.std.proofs.Common.{◌≡◌, ◌<◌, ◌≤◌, ◌≢◌, inl, inr, ℕ, zero, suc, length, ◌+◌, ◌*◌, ◌/◌, ◌%◌, ◌^◌, w64, List, [], ◌∷◌, refl, ap, sym, ◌∙◌, subst, arith, get_or, get_or-set_same, get_or-set_other, set, Option, None, Some}
use Rattle.std.specs.Int.{bit_at, bit_not, trailing_ones}
use Rattle.std.specs.Prelude.{bit_and, bit_or, count_ones}
use Rattle.std.specs.Int.Count.{ones_step}
use Rattle.std.proofs.Math.Nat.{pow-succ'}
use Rattle.std.proofs.lemmas.Bool.{cases_eq, cases_lt}
use Rattle.std.proofs.lemmas.List.{get_or_past}
use Rattle.std.proofs.lemmas.Nat.{ones_le_self}
use Rattle.std.proofs.lemmas.Nat.Bits.{bit_at_lowest, bit_at-suc, bit_at-zero, bit_at_and, bit_at_set_same, bit_at_set_other, bit_at_clear_same, bit_at_clear_other, bit_at-trailing_ones, same_from_bits}
use Rattle.rart_below.specs.Layouts.{one_if_some, slot_children, marks_of}

module _ {C : Type 0} where
  one_if_some-bound : (slot : Option C) → one_if_some slot ≤ 1
  one_if_some-bound None = omega arith
  one_if_some-bound (Some child) = omega arith

  pub bit_at-marks : (slots : List (Option C)) (place : ℕ)
      → bit_at (marks_of slots) place ≡ one_if_some (get_or slots place None)
  bit_at-marks [] place = bit_at-zero place
  bit_at-marks (slot ∷ slots) zero = bit_at_lowest (one_if_some slot + 2 * marks_of slots)
      ∙ omega (arith, one_if_some-bound slot)
  bit_at-marks (slot ∷ slots) (suc place) =
      let half : (one_if_some slot + 2 * marks_of slots) / 2 ≡ marks_of slots =
      omega (arith, one_if_some-bound slot) in
      bit_at-suc (one_if_some slot + 2 * marks_of slots) place ∙ rw half (bit_at-marks slots place)

  pub marks-lt : (slots : List (Option C)) → marks_of slots < 2 ^ length slots
  marks-lt [] = omega arith
  marks-lt (slot ∷ slots) =
      rw (pow-succ' 2 (length slots)) (omega (arith, marks-lt slots, one_if_some-bound slot))

  pub count_ones-marks : (first : ℕ) (slots : List (Option C))
      → count_ones (marks_of slots) ≡ length (slot_children first slots)
  count_ones-marks first [] = omega (arith, ones_le_self 0)
  count_ones-marks first (None ∷ slots) =
      let half : (0 + 2 * marks_of slots) / 2 ≡ marks_of slots = omega arith in
      let low : (0 + 2 * marks_of slots) % 2 ≡ 0 = omega arith in
      ones_step (0 + 2 * marks_of slots)
      ∙ rw (half, low) (omega (arith, count_ones-marks (suc first) slots))
  count_ones-marks first (Some child ∷ slots) =
      let half : (1 + 2 * marks_of slots) / 2 ≡ marks_of slots = omega arith in
      let low : (1 + 2 * marks_of slots) % 2 ≡ 1 = omega arith in
      ones_step (1 + 2 * marks_of slots)
      ∙ rw (half, low) (omega (arith, count_ones-marks (suc first) slots))

  one_if_some-set_same : (slots : List (Option C)) (place : ℕ) (slot : Option C)
      → place < length slots → one_if_some (get_or (set slots place slot) place None)
      ≡ one_if_some slot
  one_if_some-set_same slots place slot lt =
      ap one_if_some (get_or-set_same slots place slot None lt)

  one_if_some-set_other : (slots : List (Option C)) (place other : ℕ) (slot : Option C)
      → other ≢ place → one_if_some (get_or (set slots place slot) other None)
      ≡ one_if_some (get_or slots other None)
  one_if_some-set_other slots place other slot ne =
      ap one_if_some (get_or-set_other slots place other slot None ne)

  -- a mark is set
  pub marks-added : (place : ℕ) (child : C) (slots : List (Option C)) → place < length slots
      → place < 64 → bit_or (marks_of slots) (1 * 2 ^ place % 2 ^ 64)
      ≡ marks_of (set slots place (Some child))
  marks-added place child slots lt within =
      let after : List (Option C) = set slots place (Some child) in
      same_from_bits (bit_or (marks_of slots) (1 * 2 ^ place % 2 ^ 64)) (marks_of after)
      (λ other. elim (cases_eq other place) [
        | inl e ↦
            rw e (bit_at_set_same w64 (marks_of slots) place within
            ∙ sym (bit_at-marks after place ∙ one_if_some-set_same slots place (Some child) lt))
        | inr ne ↦
            bit_at_set_other w64 (marks_of slots) place within other ne
            ∙ (bit_at-marks slots other ∙ sym
            (bit_at-marks after other ∙ one_if_some-set_other slots place other (Some child) ne))
      ])

  -- a mark is cleared
  pub marks-removed : (place : ℕ) (slots : List (Option C)) → place < length slots → place < 64
      → length slots ≤ 64 → bit_and (marks_of slots) (bit_not w64 (1 * 2 ^ place % 2 ^ 64))
      ≡ marks_of (set slots place None)
  marks-removed place slots lt within few =
      let after : List (Option C) = set slots place None in
      same_from_bits (bit_and (marks_of slots) (bit_not w64 (1 * 2 ^ place % 2 ^ 64)))
      (marks_of after) (λ other. elim (cases_eq other place) [
        | inl e ↦
            rw e (bit_at_clear_same w64 (marks_of slots) place within
            ∙ sym (bit_at-marks after place ∙ one_if_some-set_same slots place None lt))
        | inr ne ↦ elim (cases_lt other 64) [
          | inl low ↦
              bit_at_clear_other w64 (marks_of slots) place within other low ne
              ∙ (bit_at-marks slots other ∙ sym
              (bit_at-marks after other ∙ one_if_some-set_other slots place other None ne))
          | inr high ↦
              let past : get_or slots other None ≡ None =
              get_or_past slots other None (omega arith) in
              let gone : bit_at (marks_of slots) other ≡ 0 =
              bit_at-marks slots other ∙ ap one_if_some past in
              bit_at_and (marks_of slots) (bit_not w64 (1 * 2 ^ place % 2 ^ 64)) other
              ∙ omega (
                arith,
                gone,
                bit_at-marks after other
                    ∙ (one_if_some-set_other slots place other None ne ∙ ap one_if_some past),
              )
        ]
      ])

  pub marks-replaced : (place : ℕ) (child held : C) (slots : List (Option C))
      → get_or slots place None ≡ Some held
      → marks_of (set slots place (Some child)) ≡ marks_of slots
  marks-replaced place child held [] e = cc
  marks-replaced zero child held (None ∷ slots) e = cc
  marks-replaced zero child held (Some other ∷ slots) e = refl
  marks-replaced (suc place) child held (slot ∷ slots) e =
      ap (λ (n : ℕ). one_if_some slot + 2 * n) (marks-replaced place child held slots e)

  full_from_marks : (byte : ℕ) (slots : List (Option C))
      → ((place : ℕ) → place < length slots → one_if_some (get_or slots place None) ≡ 1)
      → length (slot_children byte slots) ≡ length slots
  full_from_marks byte [] each = refl
  full_from_marks byte (None ∷ slots) each = absurd (omega (arith, each 0 (omega arith)))
  full_from_marks byte (Some child ∷ slots) each =
      ap suc (full_from_marks (suc byte) slots (λ place lt. each (suc place) (omega arith)))

  -- Where not every slot is in use, the lowest mark that is not set is that of a free slot.
  pub free_slot : (slots : List (Option C)) → length slots ≡ 48
      → length (slot_children 0 slots) < 48
      → (trailing_ones w64 (marks_of slots) < 48)
      × (get_or slots (trailing_ones w64 (marks_of slots)) None ≡ None)
  free_slot slots wide room =
      let small : marks_of slots < 2 ^ 48 =
      subst (λ (n : ℕ). marks_of slots < 2 ^ n) wide (marks-lt slots) in
      let lowest = bit_at-trailing_ones w64 (marks_of slots) (omega (arith, small)) in
      let below : trailing_ones w64 (marks_of slots) < 48 =
      elim (cases_lt (trailing_ones w64 (marks_of slots)) 48) [
        | inl lt ↦ lt
        | inr le ↦ absurd (omega (
          arith,
          full_from_marks 0 slots (λ place lt. sym (bit_at-marks slots place)
              ∙ lowest.2 place (omega (arith, lt, wide, le))),
          wide,
          room,
        ))
      ] in (
        below,
        empty (get_or slots (trailing_ones w64 (marks_of slots)) None)
            (sym (bit_at-marks slots (trailing_ones w64 (marks_of slots))) ∙ lowest.1),
      )
    where
      empty : (slot : Option C) → one_if_some slot ≡ 0 → slot ≡ None
      empty None e = refl
      empty (Some child) e = absurd (omega (arith, e))

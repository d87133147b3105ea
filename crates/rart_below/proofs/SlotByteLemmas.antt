-- The bytes of the slots in use, as a set.
use Rattle.std.proofs.Common.{◌≡◌, ◌<◌, ◌≢◌, ◌⊎◌, inl, inr, ℕ, zero, suc, length, ◌+◌, Bool, true, false, List, [], ◌∷◌, refl, ap, sym, ◌∙◌, arith, get_or, get_or-set_same, get_or-set_other, set, Option, None, Some}
use Rattle.std.specs.Prelude.{◌&&◌, ◌==◌, ◌||◌, not, is_some, if◌then◌else◌}
use Rattle.std.proofs.lemmas.Bool.{and_parts, and_from, cases_eq, eq-eqb, ne_eqb, false≢true}
use Rattle.rart_below.specs.ByteSets.{has_byte, marks_slots}
use Rattle.rart_below.specs.declared.byte_set.ByteSet.{ByteSet}

agree : (some has : Bool) → (if some then has else not has) ≡ true → has ≡ some
agree true true is = refl
agree true false is = absurd (false≢true is)
agree false true is = absurd (false≢true is)
agree false false is = refl

agreed : (some has : Bool) → has ≡ some → (if some then has else not has) ≡ true
agreed true true is = refl
agreed true false is = is
agreed false true is = sym is
agreed false false is = refl

module _ {C : Type 0} where
  used-or-empty : (slot : Option C) (has : Bool) → has ≡ is_some slot
      → (has ≡ true) ⊎ (slot ≡ None)
  used-or-empty None has is = inr refl
  used-or-empty (Some child) has is = inl is

  marks-each : (bytes : ByteSet) (first : ℕ) (slots : List (Option C))
      → marks_slots bytes first slots ≡ true → (place : ℕ) → place < length slots
      → has_byte bytes (first + place) ≡ is_some (get_or slots place None)
  marks-each bytes first [] marks place lt = absurd (omega (arith, lt))
  marks-each bytes first (slot ∷ slots) marks zero lt =
      let here : first + 0 ≡ first = omega arith in
      ap (has_byte bytes) here ∙ agree (is_some slot) (has_byte bytes first)
      (and_parts (if is_some slot then has_byte bytes first else not (has_byte bytes first))
      (marks_slots bytes (suc first) slots) marks).0
  marks-each bytes first (slot ∷ slots) marks (suc place) lt =
      let next : first + suc place ≡ suc first + place = omega arith in
      ap (has_byte bytes) next
      ∙ marks-each bytes (suc first) slots
      (and_parts (if is_some slot then has_byte bytes first else not (has_byte bytes first))
      (marks_slots bytes (suc first) slots) marks).1
      place (omega (arith, lt))

  each-marks : (bytes : ByteSet) (first : ℕ) (slots : List (Option C))
      → ((place : ℕ) → place < length slots
      → has_byte bytes (first + place) ≡ is_some (get_or slots place None))
      → marks_slots bytes first slots ≡ true
  each-marks bytes first [] each = refl
  each-marks bytes first (slot ∷ slots) each =
      let here : first ≡ first + 0 = omega arith in
      and_from _ _
      (agreed (is_some slot) (has_byte bytes first)
      (ap (has_byte bytes) here ∙ each 0 (omega arith)))
      (each-marks bytes (suc first) slots (λ place lt.
      let next : suc first + place ≡ first + suc place = omega arith in
      ap (has_byte bytes) next ∙ each (suc place) (omega (arith, lt))))

  -- The set has exactly the places of the slots in use.
  abbrev pub AreMarked : ByteSet → List (Option C) → Type 0
  AreMarked bytes slots =
      (place : ℕ) → place < length slots → has_byte bytes place ≡ is_some (get_or slots place None)

  pub marked_from : (bytes : ByteSet) (slots : List (Option C))
      → marks_slots bytes 0 slots ≡ true → AreMarked bytes slots
  marked_from bytes slots marks = λ place lt.
      let here : place ≡ 0 + place = omega arith in
      ap (has_byte bytes) here ∙ marks-each bytes 0 slots marks place lt

  pub marks_from : (bytes : ByteSet) (slots : List (Option C)) → AreMarked bytes slots
      → marks_slots bytes 0 slots ≡ true
  marks_from bytes slots marked =
      each-marks bytes 0 slots (λ place lt.
      let here : 0 + place ≡ place = omega arith in
      ap (has_byte bytes) here ∙ marked place lt)

  -- one slot is written
  marked-set : (byte : ℕ) (slot : Option C) (slots : List (Option C)) (bytes bytes' : ByteSet)
      → byte < length slots → length (set slots byte slot) ≡ length slots
      → ((other : ℕ) → other ≢ byte → has_byte bytes' other ≡ has_byte bytes other)
      → has_byte bytes' byte ≡ is_some slot → AreMarked bytes slots
      → AreMarked bytes' (set slots byte slot)
  marked-set byte slot slots bytes bytes' within long others this marked = λ place lt.
      elim (cases_eq place byte) [
        | inl same ↦
            ap (has_byte bytes') same
            ∙ (this ∙ (ap is_some (sym (get_or-set_same slots byte slot None within))
            ∙ ap (λ (n : ℕ). is_some (get_or (set slots byte slot) n None)) (sym same)))
        | inr other ↦
            others place other
            ∙ (marked place (omega (arith, lt, long))
            ∙ ap is_some (sym (get_or-set_other slots byte place slot None other)))
      ]

  pub marked-added : (byte : ℕ) (child : C) (slots : List (Option C)) (bytes bytes' : ByteSet)
      → byte < length slots → length (set slots byte (Some child)) ≡ length slots
      → ((other : ℕ) → has_byte bytes' other ≡ (other == byte || has_byte bytes other))
      → AreMarked bytes slots → AreMarked bytes' (set slots byte (Some child))
  marked-added byte child slots bytes bytes' within long put marked =
      marked-set byte (Some child) slots bytes bytes' within long
      (λ other ne. put other ∙ ap (λ (t : Bool). t || has_byte bytes other) (ne_eqb other byte ne))
      (put byte ∙ ap (λ (t : Bool). t || has_byte bytes byte) (eq-eqb byte byte refl)) marked

  pub marked-removed : (byte : ℕ) (slots : List (Option C)) (bytes bytes' : ByteSet)
      → byte < length slots → length (set slots byte None) ≡ length slots
      → ((other : ℕ) → has_byte bytes' other ≡ (not (other == byte) && has_byte bytes other))
      → AreMarked bytes slots → AreMarked bytes' (set slots byte None)
  marked-removed byte slots bytes bytes' within long cut marked =
      marked-set byte None slots bytes bytes' within long
      (λ other ne.
      cut other ∙ ap (λ (t : Bool). not t && has_byte bytes other) (ne_eqb other byte ne))
      (cut byte ∙ ap (λ (t : Bool). not t && has_byte bytes byte) (eq-eqb byte byte refl)) marked

  pub marked-replaced : (byte : ℕ) (child old : C) (slots : List (Option C)) (bytes : ByteSet)
      → byte < length slots → length (set slots byte (Some child)) ≡ length slots
      → Some old ≡ get_or slots byte None
      → AreMarked bytes slots → AreMarked bytes (set slots byte (Some child))
  marked-replaced byte child old slots bytes within long held marked =
      marked-set byte (Some child) slots bytes bytes within long (λ other ne. refl)
      (marked byte within ∙ ap is_some (sym held)) marked

  -- where the slots are empty and the set too
  pub marked-none : (slots : List (Option C)) (bytes : ByteSet)
      → ((byte : ℕ) → has_byte bytes byte ≡ false)
      → ((place : ℕ) → place < length slots → get_or slots place None ≡ None)
      → AreMarked bytes slots
  marked-none slots bytes none empty =
      λ place lt. none place ∙ ap is_some (sym (empty place lt))

  -- where those slots are empty that were, and those whose byte is in the set
  pub marked-empty : (slots slots' : List (Option C)) (bytes : ByteSet) → AreMarked bytes slots
      → length slots' ≡ length slots
      → ((place : ℕ) → (has_byte bytes place ≡ true) ⊎ (get_or slots place None ≡ None)
      → get_or slots' place None ≡ None)
      → (place : ℕ) → place < length slots' → get_or slots' place None ≡ None
  marked-empty slots slots' bytes marked long empty = λ place lt.
      empty place (used-or-empty (get_or slots place None) (has_byte bytes place)
      (marked place (omega (arith, lt, long))))

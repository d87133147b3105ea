-- Children in slots, one for each byte from a first one on.
use Rattle.std.proofs.Common.{◌≡◌, ◌<◌, ◌≢◌, ℕ, zero, suc, length, ◌+◌, List, [], ◌∷◌, refl, ap, sym, ◌∙◌, arith, get_or, set, Option, None, Some}
use Rattle.rart_below.specs.Children.{child_at, with_child, without_child}
use Rattle.rart_below.specs.Layouts.{slot_children, named_slots}
use Rattle.rart_below.specs.Laws.{slots-below}
use Rattle.rart_below.proofs.AscendingLemmas.{child_at-later, child_at-here, child_at-below, with_child-later, with_child-here, with_child-below, without_child-other, without_child-here, without_child-below}

module _ {C : Type 0} where
  -- the child under the byte first + place stands in the slot at place
  pub child_at-slot : (first place : ℕ) (slots : List (Option C))
      → child_at (first + place) (slot_children first slots) ≡ get_or slots place None
  child_at-slot first place [] = refl
  child_at-slot first zero (None ∷ slots) =
      child_at-below (first + 0) first (slot_children (suc first) slots) (omega arith)
      (slots-below first (suc first) slots (omega arith))
  child_at-slot first zero (Some child ∷ slots) =
      child_at-here (first + 0) first child _ (omega arith)
  child_at-slot first (suc place) (None ∷ slots) =
      let next : first + suc place ≡ suc first + place = omega arith in
      rw next (child_at-slot (suc first) place slots)
  child_at-slot first (suc place) (Some child ∷ slots) =
      let next : first + suc place ≡ suc first + place = omega arith in
      child_at-later (first + suc place) first child _ (omega arith)
      ∙ rw next (child_at-slot (suc first) place slots)

  pub with_child-slot : (first place : ℕ) (child : C) (slots : List (Option C))
      → place < length slots → slot_children first (set slots place (Some child))
      ≡ with_child (first + place) child (slot_children first slots)
  with_child-slot first place child [] lt = absurd (omega arith)
  with_child-slot first zero child (None ∷ slots) lt =
      let here : first + 0 ≡ first = omega arith in
      rw here (sym (with_child-below first child (slot_children (suc first) slots)
      (slots-below first (suc first) slots (omega arith))))
  with_child-slot first zero child (Some held ∷ slots) lt =
      sym (with_child-here (first + 0) first child held _ (omega arith))
  with_child-slot first (suc place) child (None ∷ slots) lt =
      let next : first + suc place ≡ suc first + place = omega arith in
      rw next (with_child-slot (suc first) place child slots (omega arith))
  with_child-slot first (suc place) child (Some held ∷ slots) lt =
      let next : first + suc place ≡ suc first + place = omega arith in
      ap (λ (l : List (ℕ × C)). (first, held) ∷ l)
      (rw next (with_child-slot (suc first) place child slots (omega arith)))
      ∙ sym (with_child-later (first + suc place) first child held _ (omega arith))

  pub without_child-slot : (first place : ℕ) (slots : List (Option C))
      → slot_children first (set slots place None)
      ≡ without_child (first + place) (slot_children first slots)
  without_child-slot first place [] = refl
  without_child-slot first zero (None ∷ slots) =
      let here : first + 0 ≡ first = omega arith in
      rw here (sym (without_child-below first (slot_children (suc first) slots)
      (slots-below first (suc first) slots (omega arith))))
  without_child-slot first zero (Some held ∷ slots) =
      sym (without_child-here (first + 0) first held _ (omega arith)
      ∙ without_child-below (first + 0) (slot_children (suc first) slots)
      (slots-below (first + 0) (suc first) slots (omega arith)))
  without_child-slot first (suc place) (None ∷ slots) =
      let next : first + suc place ≡ suc first + place = omega arith in
      rw next (without_child-slot (suc first) place slots)
  without_child-slot first (suc place) (Some held ∷ slots) =
      let next : first + suc place ≡ suc first + place = omega arith in
      let differs : first ≢ first + suc place = omega arith in
      ap (λ (l : List (ℕ × C)). (first, held) ∷ l)
      (rw next (without_child-slot (suc first) place slots))
      ∙ sym (without_child-other (first + suc place) first held _ differs)

  -- ---- how many slots are held
  pub length-slots_added : (first place : ℕ) (child : C) (slots : List (Option C))
      → place < length slots → get_or slots place None ≡ None
      → length (slot_children first (set slots place (Some child)))
      ≡ suc (length (slot_children first slots))
  length-slots_added first place child [] lt e = absurd (omega arith)
  length-slots_added first zero child (None ∷ slots) lt e = refl
  length-slots_added first zero child (Some held ∷ slots) lt e = cc
  length-slots_added first (suc place) child (None ∷ slots) lt e =
      length-slots_added (suc first) place child slots (omega arith) e
  length-slots_added first (suc place) child (Some held ∷ slots) lt e =
      ap suc (length-slots_added (suc first) place child slots (omega arith) e)

  pub length-slots_replaced : (first place : ℕ) (child held : C) (slots : List (Option C))
      → get_or slots place None ≡ Some held
      → length (slot_children first (set slots place (Some child)))
      ≡ length (slot_children first slots)
  length-slots_replaced first place child held [] e = cc
  length-slots_replaced first zero child held (None ∷ slots) e = cc
  length-slots_replaced first zero child held (Some other ∷ slots) e = refl
  length-slots_replaced first (suc place) child held (None ∷ slots) e =
      length-slots_replaced (suc first) place child held slots e
  length-slots_replaced first (suc place) child held (Some other ∷ slots) e =
      ap suc (length-slots_replaced (suc first) place child held slots e)

  pub length-slots_removed : (first place : ℕ) (held : C) (slots : List (Option C))
      → get_or slots place None ≡ Some held
      → suc (length (slot_children first (set slots place None)))
      ≡ length (slot_children first slots)
  length-slots_removed first place held [] e = cc
  length-slots_removed first zero held (None ∷ slots) e = cc
  length-slots_removed first zero held (Some other ∷ slots) e = refl
  length-slots_removed first (suc place) held (None ∷ slots) e =
      length-slots_removed (suc first) place held slots e
  length-slots_removed first (suc place) held (Some other ∷ slots) e =
      ap suc (length-slots_removed (suc first) place held slots e)

  pub no_slots : (first : ℕ) (slots : List (Option C))
      → ((place : ℕ) → place < length slots → get_or slots place None ≡ None)
      → slot_children first slots ≡ []
  no_slots first [] h = refl
  no_slots first (None ∷ slots) h =
      no_slots (suc first) slots (λ place lt. h (suc place) (omega arith))
  no_slots first (Some child ∷ slots) h = let e = h 0 (omega arith) in cc

  none_at : (place : ℕ) (slots : List (Option C))
      → ((place : ℕ) → place < length slots → get_or slots place None ≡ None)
      → get_or slots place None ≡ None
  none_at place [] h = refl
  none_at zero (slot ∷ slots) h = h 0 (omega arith)
  none_at (suc place) (slot ∷ slots) h =
      none_at place slots (λ later lt. h (suc later) (omega arith))

  -- an index over empty slots names no child
  pub no_named_slots : (first : ℕ) (slots : List (Option C)) (index : List ℕ)
      → ((place : ℕ) → place < length slots → get_or slots place None ≡ None)
      → slot_children first (named_slots slots index) ≡ []
  no_named_slots first slots [] h = refl
  no_named_slots first slots (place ∷ index) h =
      let empty = none_at place slots h in
      rw empty (no_named_slots (suc first) slots index h)

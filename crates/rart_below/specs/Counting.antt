-- As many bytes have a child as slots are in use, where an index names each of these once.
use Rattle.std.proofs.Common.{◌≡◌, ◌<◌, ℕ, zero, suc, ◌+◌, Bool, true, false, cond, List, [], ◌∷◌, length, get_or, refl, ◌∙◌, arith, Option, Some, None}
use Rattle.std.specs.Prelude.{◌==◌}
use Rattle.std.specs.List.{sum_by}
use Rattle.std.proofs.lemmas.List.Sums.{sum_by-cons}
use Rattle.std.proofs.lemmas.Bool.{and_parts, eqb-true, eq-eqb, ne_eqb}
use Rattle.rart_below.specs.Layouts.{one_if_some, slot_children, named_slots, names_of, is_named_once}

nothing : (test : Bool) (n : ℕ) → cond test 0 0 + n ≡ n
nothing true n = omega arith
nothing false n = omega arith

total-nothing : (index : List ℕ) → sum_by (λ place. 0) index ≡ 0
total-nothing [] = refl
total-nothing (place ∷ index) = omega (arith, sum_by-cons (λ n. 0) place index, total-nothing index)

module _ {C : Type 0} where
  -- what the slots hold at this number, where the first has the number first
  abbrev weight : ℕ → List (Option C) → ℕ → ℕ
  weight first [] place = 0
  weight first (slot ∷ slots) place =
      cond (place == first) (one_if_some slot) 0 + weight (suc first) slots place

  weight-below : (first : ℕ) (slots : List (Option C)) (place : ℕ) → place < first
      → weight first slots place ≡ 0
  weight-below first [] place lt = refl
  weight-below first (slot ∷ slots) place lt =
      let differs : (place == first) ≡ false = ne_eqb place first (omega arith) in
      rw (differs, weight-below (suc first) slots place (omega arith)) refl

  weight-at : (first : ℕ) (slots : List (Option C)) (place : ℕ)
      → weight first slots (first + place) ≡ one_if_some (get_or slots place None)
  weight-at first [] place = refl
  weight-at first (slot ∷ slots) zero =
      let same : ((first + 0) == first) ≡ true = eq-eqb (first + 0) first (omega arith) in
      rw (same, weight-below (suc first) slots (first + 0) (omega arith)) (omega arith)
  weight-at first (slot ∷ slots) (suc place) =
      let next : first + suc place ≡ suc first + place = omega arith in
      let differs : ((suc first + place) == first) ≡ false =
      ne_eqb (suc first + place) first (omega arith) in
      rw next (rw differs (omega (arith, weight-at (suc first) slots place)))

  total-none : (first : ℕ) (slots : List (Option C)) (index : List ℕ)
      → sum_by (weight first (None ∷ slots)) index ≡ sum_by (weight (suc first) slots) index
  total-none first slots [] = refl
  total-none first slots (place ∷ index) =
      let here = nothing (place == first) (weight (suc first) slots place) in
      omega (
        arith,
        sum_by-cons (weight first (None ∷ slots)) place index,
        here,
        total-none first slots index,
        sum_by-cons (weight (suc first) slots) place index,
      )

  total-some : (first : ℕ) (child : C) (slots : List (Option C)) (index : List ℕ)
      → sum_by (weight first (Some child ∷ slots)) index
      ≡ names_of first index + sum_by (weight (suc first) slots) index
  total-some first child slots [] = refl
  total-some first child slots (place ∷ index) =
      omega (
        arith,
        sum_by-cons (weight first (Some child ∷ slots)) place index,
        total-some first child slots index,
        sum_by-cons (weight (suc first) slots) place index,
        sum_by-cons (λ entry. cond (entry == first) 1 0) place index,
      )

  total-named : (first byte : ℕ) (slots : List (Option C)) (index : List ℕ)
      → is_named_once first slots index ≡ true
      → sum_by (weight first slots) index ≡ length (slot_children byte slots)
  total-named first byte [] index named = total-nothing index
  total-named first byte (None ∷ slots) index named =
      let parts =
      and_parts (names_of first index == 0) (is_named_once (suc first) slots index) named in
      total-none first slots index ∙ total-named (suc first) (suc byte) slots index parts.1
  total-named first byte (Some child ∷ slots) index named =
      let parts =
      and_parts (names_of first index == 1) (is_named_once (suc first) slots index) named in
      omega (
        arith,
        total-some first child slots index,
        eqb-true (names_of first index) 1 parts.0,
        total-named (suc first) (suc byte) slots index parts.1,
      )

  length-slots-cons : (byte : ℕ) (slot : Option C) (slots : List (Option C))
      → length (slot_children byte (slot ∷ slots))
      ≡ one_if_some slot + length (slot_children (suc byte) slots)
  length-slots-cons byte None slots = omega arith
  length-slots-cons byte (Some child) slots = omega arith

  length-named : (byte : ℕ) (slots : List (Option C)) (index : List ℕ)
      → length (slot_children byte (named_slots slots index)) ≡ sum_by (weight 0 slots) index
  length-named byte slots [] = refl
  length-named byte slots (place ∷ index) =
      let here : 0 + place ≡ place = omega arith in
      let held = rw here at (weight-at 0 slots place) in
      omega (
        arith,
        length-slots-cons byte (get_or slots place None) (named_slots slots index),
        held,
        length-named (suc byte) slots index,
        sum_by-cons (weight 0 slots) place index,
      )

  pub length-named_slots : (slots : List (Option C)) (index : List ℕ)
      → is_named_once 0 slots index ≡ true
      → length (slot_children 0 (named_slots slots index)) ≡ length (slot_children 0 slots)
  length-named_slots slots index named =
      length-named 0 slots index ∙ total-named 0 0 slots index named

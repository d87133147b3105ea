-- What an index names, and what a change to one of its entries or of the slots does to that.
use Rattle.std.proofs.Common.{◌≡◌, ◌<◌, ◌≤◌, ◌≢◌, inl, inr, ℕ, zero, suc, length, ◌+◌, true, false, cond, List, [], ◌∷◌, refl, ap, sym, ◌∙◌, arith, get_or, get_or-set_same, get_or-set_other, set, Option, None}
use Rattle.std.specs.Prelude.{◌==◌}
use Rattle.std.proofs.lemmas.Bool.{and_parts, and_from, eqb-true, eq-eqb, ne_eqb, cases_eq}
use Rattle.std.proofs.lemmas.List.{map-set, get_or-map, set-get_or, length-map}
use Rattle.std.proofs.lemmas.List.Sums.{sum_by-cons, sum_by-set}
use Rattle.rart_below.specs.Layouts.{one_if_some, named_slots, names_of, is_named_once}

names-same : (place entry : ℕ) (index : List ℕ) → entry ≡ place
    → names_of place (entry ∷ index) ≡ suc (names_of place index)
names-same place entry index e =
    let counts : (entry == place) ≡ true = eq-eqb entry place e in
    sum_by-cons (λ n. cond (n == place) 1 0) entry index ∙ rw counts (omega arith)

pub names-other : (place entry : ℕ) (index : List ℕ) → entry ≢ place
    → names_of place (entry ∷ index) ≡ names_of place index
names-other place entry index ne =
    let counts : (entry == place) ≡ false = ne_eqb entry place ne in
    sum_by-cons (λ n. cond (n == place) 1 0) entry index ∙ rw counts (omega arith)

pub names_positive : (place byte : ℕ) (index : List ℕ) → byte < length index
    → get_or index byte 0 ≡ place → 1 ≤ names_of place index
names_positive place byte [] lt e = absurd (omega arith)
names_positive place zero (entry ∷ index) lt e = omega (arith, names-same place entry index e)
names_positive place (suc byte) (entry ∷ index) lt e =
    let rest = names_positive place byte index (omega arith) e in
    elim (cases_eq entry place) [
      | inl same ↦ omega (arith, names-same place entry index same)
      | inr differs ↦ omega (arith, names-other place entry index differs, rest)
    ]

-- ---- one entry is written
names-set : (place byte entry : ℕ) (index : List ℕ) → byte < length index
    → names_of place (set index byte entry) + cond (get_or index byte 0 == place) 1 0
    ≡ names_of place index + cond (entry == place) 1 0
names-set place byte entry index lt = sum_by-set (λ n. cond (n == place) 1 0) index byte entry 0 lt

-- neither the old entry nor the new one names the place
pub names-set_neither : (place byte entry : ℕ) (index : List ℕ) → byte < length index
    → get_or index byte 0 ≢ place → entry ≢ place
    → names_of place (set index byte entry) ≡ names_of place index
names-set_neither place byte entry index lt old new =
    let was : (get_or index byte 0 == place) ≡ false = ne_eqb (get_or index byte 0) place old in
    let is : (entry == place) ≡ false = ne_eqb entry place new in
    let counts = rw (was, is) at (names-set place byte entry index lt) in
    omega arith

pub names-set_new : (place byte : ℕ) (index : List ℕ) → byte < length index
    → get_or index byte 0 ≢ place → names_of place (set index byte place)
    ≡ suc (names_of place index)
names-set_new place byte index lt old =
    let was : (get_or index byte 0 == place) ≡ false = ne_eqb (get_or index byte 0) place old in
    let is : (place == place) ≡ true = eq-eqb place place refl in
    let counts = rw (was, is) at (names-set place byte place index lt) in
    omega arith

pub names-set_old : (place byte entry : ℕ) (index : List ℕ) → byte < length index
    → get_or index byte 0 ≡ place → entry ≢ place
    → suc (names_of place (set index byte entry)) ≡ names_of place index
names-set_old place byte entry index lt old new =
    let was : (get_or index byte 0 == place) ≡ true = eq-eqb (get_or index byte 0) place old in
    let is : (entry == place) ≡ false = ne_eqb entry place new in
    let counts = rw (was, is) at (names-set place byte entry index lt) in
    omega arith

module _ {C : Type 0} where
  -- ---- each slot in use is named once
  named_at-from : (first place : ℕ) (slots : List (Option C)) (index : List ℕ)
      → is_named_once first slots index ≡ true → place < length slots
      → names_of (first + place) index ≡ one_if_some (get_or slots place None)
  named_at-from first place [] index named lt = absurd (omega arith)
  named_at-from first zero (slot ∷ slots) index named lt =
      let parts =
      and_parts (names_of first index == one_if_some slot)
      (is_named_once (suc first) slots index) named in
      let here : first + 0 ≡ first = omega arith in
      rw here (eqb-true (names_of first index) (one_if_some slot) parts.0)
  named_at-from first (suc place) (slot ∷ slots) index named lt =
      let parts =
      and_parts (names_of first index == one_if_some slot)
      (is_named_once (suc first) slots index) named in
      let next : first + suc place ≡ suc first + place = omega arith in
      rw next (named_at-from (suc first) place slots index parts.1 (omega arith))

  named_from-from : (first : ℕ) (slots : List (Option C)) (index : List ℕ)
      → ((place : ℕ) → place < length slots
      → names_of (first + place) index ≡ one_if_some (get_or slots place None))
      → is_named_once first slots index ≡ true
  named_from-from first [] index each = refl
  named_from-from first (slot ∷ slots) index each =
      let here : first + 0 ≡ first = omega arith in
      let head : names_of first index ≡ one_if_some slot = rw here at (each 0 (omega arith)) in
      and_from _ _ (eq-eqb (names_of first index) (one_if_some slot) head)
      (named_from-from (suc first) slots index (λ place lt.
      let next : first + suc place ≡ suc first + place = omega arith in
      rw next at (each (suc place) (omega arith))))

  pub named_at : (place : ℕ) (slots : List (Option C)) (index : List ℕ)
      → is_named_once 0 slots index ≡ true → place < length slots
      → names_of place index ≡ one_if_some (get_or slots place None)
  named_at place slots index named lt = let same : 0 + place ≡ place = omega arith in
      rw same at (named_at-from 0 place slots index named lt)

  pub named_from : (slots : List (Option C)) (index : List ℕ)
      → ((place : ℕ) → place < length slots
      → names_of place index ≡ one_if_some (get_or slots place None))
      → is_named_once 0 slots index ≡ true
  named_from slots index each =
      named_from-from 0 slots index (λ place lt. let same : 0 + place ≡ place = omega arith in
      rw same (each place lt))

  -- ---- the slots that the index names, after a change
  -- a slot that no entry names is written
  pub named-set_unnamed : (place : ℕ) (slot : Option C) (slots : List (Option C)) (index : List ℕ)
      → names_of place index ≡ 0 → named_slots (set slots place slot) index
      ≡ named_slots slots index
  named-set_unnamed place slot slots [] none = refl
  named-set_unnamed place slot slots (entry ∷ index) none =
      elim (cases_eq entry place) [
        | inl same ↦ absurd (omega (arith, names-same place entry index same))
        | inr differs ↦
            let rest =
            named-set_unnamed place slot slots index
            (omega (arith, names-other place entry index differs)) in
            λ i. get_or-set_other slots place entry slot None differs i ∷ rest i
      ]

  -- a slot that one entry names is written
  pub named-set_named : (place byte : ℕ) (slot : Option C) (slots : List (Option C))
      (index : List ℕ) → byte < length index → get_or index byte 0 ≡ place
      → names_of place index ≡ 1 → place < length slots
      → named_slots (set slots place slot) index ≡ set (named_slots slots index) byte slot
  named-set_named place byte slot slots [] lt at once within = absurd (omega arith)
  named-set_named place zero slot slots (entry ∷ index) lt at once within =
      let rest =
      named-set_unnamed place slot slots index
      (omega (arith, names-same place entry index at)) in
      let here : get_or (set slots place slot) entry None ≡ slot =
      rw at (get_or-set_same slots place slot None within) in
      λ i. here i ∷ rest i
  named-set_named place (suc byte) slot slots (entry ∷ index) lt at once within =
      let later = names_positive place byte index (omega arith) at in
      elim (cases_eq entry place) [
        | inl same ↦ absurd (omega (arith, names-same place entry index same))
        | inr differs ↦
            let rest =
            named-set_named place byte slot slots index (omega arith) at
            (omega (arith, names-other place entry index differs)) within in
            λ i. get_or-set_other slots place entry slot None differs i ∷ rest i
      ]

  -- an entry is written
  pub named-entry : (byte entry : ℕ) (slots : List (Option C)) (index : List ℕ)
      → named_slots slots (set index byte entry)
      ≡ set (named_slots slots index) byte (get_or slots entry None)
  named-entry byte entry slots index = map-set (λ place. get_or slots place None) index byte entry

  pub get_or-named : (byte : ℕ) (slots : List (Option C)) (index : List ℕ) → byte < length index
      → get_or (named_slots slots index) byte None ≡ get_or slots (get_or index byte 0) None
  get_or-named byte slots index lt =
      get_or-map (λ place. get_or slots place None) index byte 0 None lt

  pub length-named : (slots : List (Option C)) (index : List ℕ)
      → length (named_slots slots index) ≡ length index
  length-named slots index = length-map index (λ place. get_or slots place None)

  pub set_again : (xs : List (Option C)) (byte : ℕ) (slot : Option C) → byte < length xs
      → set (set xs byte slot) byte slot ≡ set xs byte slot
  set_again xs byte slot lt =
      ap (λ (s : Option C). set (set xs byte slot) byte s)
      (sym (get_or-set_same xs byte slot None lt)) ∙ set-get_or (set xs byte slot) byte None

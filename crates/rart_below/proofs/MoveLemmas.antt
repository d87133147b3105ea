-- A move of children from the front of one list to the end of another.
use Rattle.std.proofs.Common.{◌≡◌, ◌<◌, ℕ, suc, length, ◌+◌, drop, set, get_or, true, Option, List, [], ◌∷◌, ◌++◌, refl, ap, sym, ◌∙◌, subst, arith, append_assoc, length-append, None, Some}
use Rattle.std.specs.Prelude.{nat_le}
use Rattle.std.proofs.lemmas.Bool.Decides.{nat_tests}
use Rattle.std.proofs.lemmas.List.{length-drop, drop-set-lt}
use Rattle.std.proofs.Math.Seq.{drop-cons}
use Rattle.rart_below.specs.Children.{child_at, with_child, without_child, children_from, first_of, IsAscending}
use Rattle.rart_below.specs.Laws.{IsBelow}
use Rattle.rart_below.specs.Layouts.{keyed_children, is_filled}
use Rattle.rart_below.proofs.KeyedChildrenLemmas.{slots_enough, held_beside}
use Rattle.rart_below.proofs.AscendingLemmas.{below_parts, ascending_parts, child_at-later, child_at-here, with_child-later, without_child-here, without_child-below, children_from-below}

module _ {C : Type 0} where
  below-middle : (byte : ℕ) (front : List (ℕ × C)) (child : ℕ × C) (back : List (ℕ × C))
      → IsBelow byte (front ++ child ∷ back) → byte < child.0
  below-middle byte [] child back h = (below_parts byte child back h).0
  below-middle byte (first ∷ front) child back h =
      below-middle byte front child back (below_parts byte first (front ++ child ∷ back) h).1

  ascending-back : (front back : List (ℕ × C)) → IsAscending (front ++ back) → IsAscending back
  ascending-back [] back h = h
  ascending-back (first ∷ front) back h =
      ascending-back front back (ascending_parts first (front ++ back) h).1

  -- what comes behind all others is put at the end
  with_child-last : (front : List (ℕ × C)) (child : ℕ × C) (back : List (ℕ × C))
      → IsAscending (front ++ child ∷ back) → (child_at child.0 front ≡ None)
      × (with_child child.0 child.1 front ≡ front ++ child ∷ [])
  with_child-last [] child back h = (refl, refl)
  with_child-last (first ∷ front) child back h =
      let parts = ascending_parts first (front ++ child ∷ back) h in
      let lt = below-middle first.0 front child back parts.0 in
      let rest = with_child-last front child back parts.1 in (
        child_at-later child.0 first.0 first.1 front lt ∙ rest.0,
        with_child-later child.0 first.0 child.1 first.1 front lt
            ∙ ap (λ (l : List (ℕ × C)). first ∷ l) rest.1,
      )

  pub record Moves (byte : ℕ) (child : C) (moved left all : List (ℕ × C)) : Type 0 where
    pub found : child_at byte left ≡ Some child
    pub absent : child_at byte moved ≡ None
    pub together : with_child byte child moved ++ without_child byte left ≡ all
    pub walked : children_from (byte + 1) (without_child byte left) ≡ without_child byte left
    pub fewer : suc (length (without_child byte left)) ≡ length left
    pub room : length moved < length all

  moves_first : (byte : ℕ) (child : C) (moved left all : List (ℕ × C)) → moved ++ left ≡ all
      → IsAscending all → first_of left ≡ Some (byte, child) → Moves byte child moved left all
  moves_first byte child moved [] all together order is = cc
  moves_first byte child moved (first ∷ left) all together order is =
      let same : first ≡ (byte, child) = same_Some first (byte, child) is in
      let order' : IsAscending (moved ++ first ∷ left) = subst IsAscending (sym together) order in
      let parts = ascending_parts first left (ascending-back moved (first ∷ left) order') in
      let last = with_child-last moved first left order' in
      let key : first.0 ≡ byte = ap (λ (e : ℕ × C). e.0) same in
      let value : first.1 ≡ child = ap (λ (e : ℕ × C). e.1) same in
      let below : IsBelow byte left = subst (λ (n : ℕ). IsBelow n left) key parts.0 in
      let put = subst (λ (e : ℕ × C). with_child e.0 e.1 moved ≡ moved ++ e ∷ []) same last.1 in
      let out : without_child byte (first ∷ left) ≡ left =
      without_child-here byte first.0 first.1 left key ∙ without_child-below byte left below in
      record {
        found = child_at-here byte first.0 first.1 left key ∙ ap (λ (c : C). Some c) value;
        absent = subst (λ (n : ℕ). child_at n moved ≡ None) key last.0;
        together =
            (λ i. put i ++ out i) ∙ (append_assoc moved ((byte, child) ∷ []) left
            ∙ (ap (λ (e : ℕ × C). moved ++ e ∷ left) (sym same) ∙ together));
        walked =
            subst (λ (l : List (ℕ × C)). children_from (byte + 1) l ≡ l) (sym out)
            (children_from-below (byte + 1) byte left (omega arith) below);
        fewer = ap suc (ap length out);
        room = omega (arith, simp length-append at (ap length together));
      }
    where
      same_Some : (a b : ℕ × C) → Some a ≡ Some b → a ≡ b
      same_Some a b e = cc

  -- what is seen first is what is taken out
  pub moves : (byte least : ℕ) (seen child : C) (moved left all : List (ℕ × C))
      → moved ++ left ≡ all → children_from least left ≡ left → IsAscending all
      → Some (byte, seen) ≡ first_of (children_from least left) → Some child ≡ child_at byte left
      → Moves byte child moved left all
  moves byte least seen child moved left all together walked order is taken =
      let first : first_of left ≡ Some (byte, seen) =
      ap (λ (l : List (ℕ × C)). first_of l) (sym walked) ∙ sym is in
      let found : Some child ≡ Some seen =
      taken ∙ (moves_first byte seen moved left all together order first).found in
      let same : seen ≡ child = cc in
      moves_first byte child moved left all together order
      (first ∙ ap (λ (c : C). Some (byte, c)) same)

  pub children_from-zero : (children : List (ℕ × C)) → children_from 0 children ≡ children
  children_from-zero [] = refl
  children_from-zero (child ∷ children) =
      let kept : nat_le 0 child.0 ≡ true = grind (arith, nat_tests) in
      rw kept (ap (λ (l : List (ℕ × C)). child ∷ l) (children_from-zero children))

  -- A walk over slots has come to this place: from here on each key has a child beside it, and
  -- what was moved and these children make the whole.
  pub record IsMoving (place : ℕ) (keys : List ℕ) (slots : List (Option C))
      (moved all : List (ℕ × C)) : Type 0 where
    pub filled : is_filled (drop place keys) (drop place slots) ≡ true
    pub together : moved ++ keyed_children (drop place keys) (drop place slots) ≡ all

  pub record SlotMoves (place : ℕ) (child : C) (keys : List ℕ) (slots : List (Option C))
      (moved all : List (ℕ × C)) : Type 0 where
    pub absent : child_at (get_or keys place 0) moved ≡ None
    pub room : length moved < length all
    pub moving : IsMoving (place + 1) keys (set slots place None)
        (with_child (get_or keys place 0) child moved) all

  module _ (place : ℕ) (keys : List ℕ) (slots : List (Option C)) (moved all : List (ℕ × C))
      (lt : place < length keys) (at : IsMoving place keys slots moved all) where
    pub moving-within : place < length slots
    moving-within =
        let enough = slots_enough (drop place keys) (drop place slots) at.filled in
        let left = length-drop place keys in
        let right = length-drop place slots in
        omega (arith, lt, enough, left, right)

    keys-first : drop place keys ≡ get_or keys place 0 ∷ drop (suc place) keys
    keys-first = drop-cons keys place 0 lt

    pub moving-held : get_or slots place None ≡ None → ⊥
    moving-held is =
        let slots-first : drop place slots ≡ None ∷ drop (suc place) slots =
        drop-cons slots place None moving-within ∙ ap (λ o. o ∷ drop (suc place) slots) is in
        held_beside (get_or keys place 0 ∷ drop (suc place) keys) (None ∷ drop (suc place) slots) 0
        (subst (λ k. is_filled k (None ∷ drop (suc place) slots) ≡ true) keys-first
        (subst (λ s. is_filled (drop place keys) s ≡ true) slots-first at.filled))
        (omega arith) refl

    module _ (child : C) (is : get_or slots place None ≡ Some child) (order : IsAscending all) where
      slots-first : drop place slots ≡ Some child ∷ drop (suc place) slots
      slots-first = drop-cons slots place None moving-within
          ∙ ap (λ o. o ∷ drop (suc place) slots) is

      abbrev rest : List (ℕ × C)
      rest = keyed_children (drop (suc place) keys) (drop (suc place) slots)

      whole : moved ++ (get_or keys place 0, child) ∷ rest ≡ all
      whole =
          sym (ap (λ k. moved ++ keyed_children k (Some child ∷ drop (suc place) slots)) keys-first)
          ∙ sym (ap (λ s. moved ++ keyed_children (drop place keys) s) slots-first)
          ∙ at.together

      still-filled : is_filled (drop (suc place) keys) (drop (suc place) slots) ≡ true
      still-filled =
          subst (λ k. is_filled k (Some child ∷ drop (suc place) slots) ≡ true) keys-first
          (subst (λ s. is_filled (drop place keys) s ≡ true) slots-first at.filled)

      pub slot_moves : SlotMoves place child keys slots moved all
      slot_moves =
          let last =
          with_child-last moved (get_or keys place 0, child) rest
          (subst IsAscending (sym whole) order) in
          let later : drop (suc place) (set slots place None) ≡ drop (suc place) slots =
          drop-set-lt (suc place) slots place None (omega arith) in
          let next : place + 1 ≡ suc place = omega arith in
          let put : with_child (get_or keys place 0) child moved ++ rest ≡ all =
          ap (λ l. l ++ rest) last.1
          ∙ append_assoc moved ((get_or keys place 0, child) ∷ []) rest ∙ whole in
          record {
            absent = last.0;
            room = omega (arith, simp length-append at (ap length whole));
            moving =
                rw next (record {
                  filled = rw later still-filled;
                  together = rw later put;
                });
          }

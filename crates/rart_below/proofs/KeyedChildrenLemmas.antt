-- Children in slots that stand beside their keys.
use Rattle.std.proofs.Common.{◌≡◌, ◌<◌, ◌≤◌, ◌≢◌, inl, inr, ℕ, zero, suc, length, ◌+◌, true, false, cond, List, [], ◌∷◌, ◌++◌, refl, ap, sym, ◌∙◌, arith, get_or, drop, take, set, Option, None, Some}
use Rattle.std.specs.List.{insert, remove}
use Rattle.std.specs.Prelude.{nat_lt}
use Rattle.std.proofs.lemmas.Bool.{cases_lt, lt-ltb, le-ltb}
use Rattle.std.proofs.lemmas.Option.{same_Some}
use Rattle.std.proofs.lemmas.List.Sums.{count_by-le-length, sum_by-cons}
use Rattle.rart_below.specs.Children.{child_at, with_child, without_child, children_below, children_from, first_of, IsAscending}
use Rattle.rart_below.specs.Layouts.{rank, keyed_children, is_filled}
use Rattle.rart_below.specs.Laws.{IsBelow, below_from}
use Rattle.rart_below.proofs.AscendingLemmas.{held_and_not, below_parts, below_lower, ascending_parts, child_at-later, child_at-here, child_at-below, with_child-later, with_child-before, with_child-here, without_child-other, without_child-here, without_child-below, children_from-below, children_from-kept, children_from-passed}
use Rattle.rart_below.proofs.ChildrenBelowLemmas.{below-kept, below-none, below-passed}
use Rattle.rart_below.proofs.ChildrenFromLemmas.{from-here}

rank-later : (byte key : ℕ) (keys : List ℕ) → key < byte
    → rank byte (key ∷ keys) ≡ suc (rank byte keys)
rank-later byte key keys h =
    let counts : nat_lt key byte ≡ true = lt-ltb key byte h in
    sum_by-cons (λ k. cond (nat_lt k byte) 1 0) key keys ∙ rw counts (omega arith)

pub rank-skip : (byte key : ℕ) (keys : List ℕ) → byte ≤ key → rank byte (key ∷ keys)
    ≡ rank byte keys
rank-skip byte key keys h =
    let counts : nat_lt key byte ≡ false = le-ltb key byte h in
    sum_by-cons (λ k. cond (nat_lt k byte) 1 0) key keys ∙ rw counts (omega arith)

-- each key is below such a number
pub rank-past : (from : ℕ) (keys : List ℕ) → ((place : ℕ) → get_or keys place 0 < from)
    → rank from keys ≡ length keys
rank-past from [] below = refl
rank-past from (key ∷ keys) below =
    rank-later from key keys (below zero) ∙ ap suc (rank-past from keys (λ k. below (suc k)))

module _ {C : Type 0} where
  abbrev pub IsFilled : List ℕ → List (Option C) → Type 0
  IsFilled keys slots = is_filled keys slots ≡ true

  -- each key has a slot
  pub slots_enough : (keys : List ℕ) (slots : List (Option C)) → IsFilled keys slots
      → length keys ≤ length slots
  slots_enough [] slots h = omega arith
  slots_enough (key ∷ keys) [] h = cc
  slots_enough (key ∷ keys) (None ∷ slots) h = cc
  slots_enough (key ∷ keys) (Some child ∷ slots) h = omega (arith, slots_enough keys slots h)

  rank-below : (byte least : ℕ) (keys : List ℕ) (slots : List (Option C)) → IsFilled keys slots
      → byte ≤ least → IsBelow least (keyed_children keys slots) → rank byte keys ≡ 0
  rank-below byte least [] slots h le below = refl
  rank-below byte least (key ∷ keys) [] h le below = cc
  rank-below byte least (key ∷ keys) (None ∷ slots) h le below = cc
  rank-below byte least (key ∷ keys) (Some child ∷ slots) h le below =
      let parts = below_parts least (key, child) (keyed_children keys slots) below in
      rank-skip byte key keys (omega (arith, parts.0))
      ∙ rank-below byte least keys slots h le parts.1

  -- the first key is not below the byte, and so none is
  rank-stop : (byte key : ℕ) (child : C) (keys : List ℕ) (slots : List (Option C))
      → IsFilled keys slots → IsAscending ((key, child) ∷ keyed_children keys slots) → byte ≤ key
      → rank byte (key ∷ keys) ≡ 0
  rank-stop byte key child keys slots h order le =
      rank-skip byte key keys le ∙ rank-below byte key keys slots h le
      (ascending_parts (key, child) (keyed_children keys slots) order).0

  -- keys that ascend behind a number leave room for it below each byte
  rank-room : (byte least : ℕ) (keys : List ℕ) (slots : List (Option C)) → IsFilled keys slots
      → IsAscending (keyed_children keys slots) → IsBelow least (keyed_children keys slots)
      → least < byte → rank byte keys + suc least ≤ byte
  rank-room byte least [] slots h order below lt = omega (arith, lt)
  rank-room byte least (key ∷ keys) [] h order below lt = cc
  rank-room byte least (key ∷ keys) (None ∷ slots) h order below lt = cc
  rank-room byte least (key ∷ keys) (Some child ∷ slots) h order below lt =
      let first = (below_parts least (key, child) (keyed_children keys slots) below).0 in
      let parts = ascending_parts (key, child) (keyed_children keys slots) order in
      elim (cases_lt key byte) [
        | inl less ↦
            let later = rank-later byte key keys less in
            let rest = rank-room byte key keys slots h parts.1 parts.0 less in
            omega (arith, first, later, rest)
        | inr more ↦
            let stop = rank-stop byte key child keys slots h order more in
            omega (arith, stop, lt)
      ]

  -- no more keys that ascend are below a byte than there are numbers below it
  pub rank-small : (byte : ℕ) (keys : List ℕ) (slots : List (Option C)) → IsFilled keys slots
      → IsAscending (keyed_children keys slots) → rank byte keys ≤ byte
  rank-small byte [] slots h order = omega arith
  rank-small byte (key ∷ keys) [] h order = cc
  rank-small byte (key ∷ keys) (None ∷ slots) h order = cc
  rank-small byte (key ∷ keys) (Some child ∷ slots) h order =
      let parts = ascending_parts (key, child) (keyed_children keys slots) order in
      elim (cases_lt key byte) [
        | inl less ↦
            let later = rank-later byte key keys less in
            let rest = rank-room byte key keys slots h parts.1 parts.0 less in
            omega (arith, later, rest)
        | inr more ↦
            let stop = rank-stop byte key child keys slots h order more in omega (arith, stop)
      ]

  -- where the byte is among the keys, its child stands at its rank
  pub child_at-rank : (byte : ℕ) (keys : List ℕ) (slots : List (Option C)) → IsFilled keys slots
      → IsAscending (keyed_children keys slots) → rank byte keys < length keys
      → get_or keys (rank byte keys) 0 ≡ byte
      → child_at byte (keyed_children keys slots) ≡ get_or slots (rank byte keys) None
  child_at-rank byte [] slots h order lt e = absurd (omega arith)
  child_at-rank byte (key ∷ keys) [] h order lt e = cc
  child_at-rank byte (key ∷ keys) (None ∷ slots) h order lt e = cc
  child_at-rank byte (key ∷ keys) (Some child ∷ slots) h order lt e =
      elim (cases_lt key byte) [
        | inl less ↦
            let later = rank-later byte key keys less in
            let rest = (ascending_parts (key, child) (keyed_children keys slots) order).1 in
            let e' : get_or keys (rank byte keys) 0 ≡ byte = rw later at e in
            let lt' : rank byte keys < length keys = omega (arith, rw later at lt) in
            child_at-later byte key child _ less ∙ child_at-rank byte keys slots h rest lt' e'
            ∙ sym (ap (λ place. get_or (Some child ∷ slots) place None) later)
        | inr more ↦
            let stop = rank-stop byte key child keys slots h order more in
            let e' : key ≡ byte = rw stop at e in
            child_at-here byte key child _ e'
            ∙ sym (ap (λ place. get_or (Some child ∷ slots) place None) stop)
      ]

  pub child_at-no_rank : (byte : ℕ) (keys : List ℕ) (slots : List (Option C)) → IsFilled keys slots
      → IsAscending (keyed_children keys slots)
      → (rank byte keys < length keys → get_or keys (rank byte keys) 0 ≢ byte)
      → child_at byte (keyed_children keys slots) ≡ None
  child_at-no_rank byte [] slots h order ne = refl
  child_at-no_rank byte (key ∷ keys) [] h order ne = refl
  child_at-no_rank byte (key ∷ keys) (None ∷ slots) h order ne = cc
  child_at-no_rank byte (key ∷ keys) (Some child ∷ slots) h order ne =
      let parts = ascending_parts (key, child) (keyed_children keys slots) order in
      elim (cases_lt key byte) [
        | inl less ↦
            let later = rank-later byte key keys less in
            let ne' : rank byte keys < length keys → get_or keys (rank byte keys) 0 ≢ byte =
            λ lt e. ne (omega (arith, later, lt))
            (ap (λ place. get_or (key ∷ keys) place 0) later ∙ e) in
            child_at-later byte key child _ less ∙ child_at-no_rank byte keys slots h parts.1 ne'
        | inr more ↦
            let stop = rank-stop byte key child keys slots h order more in
            let differs : key ≢ byte =
            λ e. ne (omega (arith, stop)) (ap (λ place. get_or (key ∷ keys) place 0) stop
            ∙ e) in
            let before : IsBelow byte ((key, child) ∷ keyed_children keys slots) =
            below_from byte (key, child) (keyed_children keys slots) (omega (arith, differs))
            (below_lower byte key (keyed_children keys slots) more parts.0) in
            child_at-below byte byte ((key, child) ∷ keyed_children keys slots) (omega arith) before
      ]

  -- slots past the keys do not count
  keyed-taken : (keys : List ℕ) (slots rest : List (Option C)) → IsFilled keys slots
      → IsFilled keys (take (length keys) slots ++ rest)
      × (keyed_children keys (take (length keys) slots ++ rest) ≡ keyed_children keys slots)
  keyed-taken [] slots rest h = (refl, refl)
  keyed-taken (key ∷ keys) [] rest h = cc
  keyed-taken (key ∷ keys) (None ∷ slots) rest h = cc
  keyed-taken (key ∷ keys) (Some child ∷ slots) rest h =
      let tail = keyed-taken keys slots rest h in
      (tail.0, ap (λ (children : List (ℕ × C)). (key, child) ∷ children) tail.1)

  -- a byte put in at its rank, with its child
  pub keyed-insert : (byte : ℕ) (added : C) (keys : List ℕ) (slots rest : List (Option C))
      (place : ℕ) → IsFilled keys slots → IsAscending (keyed_children keys slots)
      → child_at byte (keyed_children keys slots) ≡ None → place ≡ rank byte keys
      → IsFilled (insert keys place byte)
      (insert (take (length keys) slots) place (Some added) ++ rest)
      × (keyed_children (insert keys place byte)
      (insert (take (length keys) slots) place (Some added) ++ rest)
      ≡ with_child byte added (keyed_children keys slots))
  keyed-insert byte added [] slots rest place h order absent e = let first : place ≡ 0 = e in
      rw first (refl, refl)
  keyed-insert byte added (key ∷ keys) [] rest place h order absent e = cc
  keyed-insert byte added (key ∷ keys) (None ∷ slots) rest place h order absent e = cc
  keyed-insert byte added (key ∷ keys) (Some child ∷ slots) rest place h order absent e =
      elim (cases_lt key byte) [
        | inl less ↦
            let later : place ≡ suc (rank byte keys) = e ∙ rank-later byte key keys less in
            let absent' : child_at byte (keyed_children keys slots) ≡ None =
            sym (child_at-later byte key child _ less) ∙ absent in
            let tail =
            keyed-insert byte added keys slots rest (rank byte keys) h
            (ascending_parts (key, child) (keyed_children keys slots) order).1 absent' refl in
            rw later (
              tail.0,
              ap (λ (children : List (ℕ × C)). (key, child) ∷ children) tail.1
                  ∙ sym (with_child-later byte key added child _ less),
            )
        | inr more ↦
            let first : place ≡ 0 = e ∙ rank-stop byte key child keys slots h order more in
            let differs : byte ≢ key =
            λ q. held_and_not child (sym (child_at-here byte key child _ (sym q)) ∙ absent) in
            let tail = keyed-taken (key ∷ keys) (Some child ∷ slots) rest h in
            rw first (
              tail.0,
              ap (λ (children : List (ℕ × C)). (byte, added) ∷ children) tail.1
                  ∙ sym (with_child-before byte key added child _ (omega (arith, differs))),
            )
      ]

  -- a child written over the one of its byte
  pub keyed-set : (byte : ℕ) (added : C) (keys : List ℕ) (slots : List (Option C)) (place : ℕ)
      → IsFilled keys slots → IsAscending (keyed_children keys slots) → place ≡ rank byte keys
      → place < length keys → get_or keys place 0 ≡ byte
      → IsFilled keys (set slots place (Some added))
      × (keyed_children keys (set slots place (Some added))
      ≡ with_child byte added (keyed_children keys slots))
  keyed-set byte added [] slots place h order e lt is = absurd (omega arith)
  keyed-set byte added (key ∷ keys) [] place h order e lt is = cc
  keyed-set byte added (key ∷ keys) (None ∷ slots) place h order e lt is = cc
  keyed-set byte added (key ∷ keys) (Some child ∷ slots) place h order e lt is =
      elim (cases_lt key byte) [
        | inl less ↦
            let later : place ≡ suc (rank byte keys) = e ∙ rank-later byte key keys less in
            let is' : get_or keys (rank byte keys) 0 ≡ byte = rw later at is in
            let tail =
            keyed-set byte added keys slots (rank byte keys) h
            (ascending_parts (key, child) (keyed_children keys slots) order).1 refl
            (omega arith) is' in
            rw later (
              tail.0,
              ap (λ (children : List (ℕ × C)). (key, child) ∷ children) tail.1
                  ∙ sym (with_child-later byte key added child _ less),
            )
        | inr more ↦
            let first : place ≡ 0 = e ∙ rank-stop byte key child keys slots h order more in
            let is' : key ≡ byte = rw first at is in
            rw first (h, sym (with_child-here byte key added child _ (sym is')))
      ]

  -- a byte taken out with its child
  pub keyed-remove : (byte : ℕ) (keys : List ℕ) (slots rest : List (Option C)) (place : ℕ)
      → IsFilled keys slots → IsAscending (keyed_children keys slots) → place ≡ rank byte keys
      → place < length keys → get_or keys place 0 ≡ byte
      → IsFilled (remove keys place) (remove (take (length keys) slots) place ++ rest)
      × (keyed_children (remove keys place) (remove (take (length keys) slots) place ++ rest)
      ≡ without_child byte (keyed_children keys slots))
  keyed-remove byte [] slots rest place h order e lt is = absurd (omega arith)
  keyed-remove byte (key ∷ keys) [] rest place h order e lt is = cc
  keyed-remove byte (key ∷ keys) (None ∷ slots) rest place h order e lt is = cc
  keyed-remove byte (key ∷ keys) (Some child ∷ slots) rest place h order e lt is =
      let parts = ascending_parts (key, child) (keyed_children keys slots) order in
      elim (cases_lt key byte) [
        | inl less ↦
            let later : place ≡ suc (rank byte keys) = e ∙ rank-later byte key keys less in
            let is' : get_or keys (rank byte keys) 0 ≡ byte = rw later at is in
            let tail =
            keyed-remove byte keys slots rest (rank byte keys) h parts.1 refl
            (omega arith) is' in
            let differs : key ≢ byte = omega arith in
            rw later (
              tail.0,
              ap (λ (children : List (ℕ × C)). (key, child) ∷ children) tail.1
                  ∙ sym (without_child-other byte key child _ differs),
            )
        | inr more ↦
            let first : place ≡ 0 = e ∙ rank-stop byte key child keys slots h order more in
            let is' : key ≡ byte = rw first at is in
            let tail = keyed-taken keys slots rest h in
            rw first (
              tail.0,
              tail.1 ∙ (sym
                  (without_child-below byte (keyed_children keys slots)
                  (below_lower byte key (keyed_children keys slots) more parts.0))
                  ∙ sym (without_child-here byte key child _ is')),
            )
      ]

  -- the child of the least byte that is not below a number stands at the rank of that number
  pub children_from-rank : (from : ℕ) (child : C) (keys : List ℕ) (slots : List (Option C))
      → IsFilled keys slots → IsAscending (keyed_children keys slots) → rank from keys < length keys
      → get_or slots (rank from keys) None ≡ Some child
      → first_of (children_from from (keyed_children keys slots))
      ≡ Some (get_or keys (rank from keys) 0, child)
  children_from-rank from child [] slots h order lt is = absurd (omega arith)
  children_from-rank from child (key ∷ keys) [] h order lt is = cc
  children_from-rank from child (key ∷ keys) (None ∷ slots) h order lt is = cc
  children_from-rank from child (key ∷ keys) (Some held ∷ slots) h order lt is =
      elim (cases_lt key from) [
        | inl less ↦
            let later = rank-later from key keys less in
            let is' : get_or slots (rank from keys) None ≡ Some child = rw later at is in
            rw later (ap (λ (children : List (ℕ × C)). first_of children)
            (children_from-passed from (key, held) _ less)
            ∙ children_from-rank from child keys slots h
            (ascending_parts (key, held) (keyed_children keys slots) order).1
            (omega (arith, later)) is')
        | inr more ↦
            let stop = rank-stop from key held keys slots h order more in
            let is' : Some held ≡ Some child = rw stop at is in
            let same : held ≡ child = cc in
            rw stop (children_from-kept from (key, held) _ more
            ∙ ap (λ (c : C). Some (key, c)) same)
      ]

  pub children_from-past : (from : ℕ) (keys : List ℕ) (slots : List (Option C))
      → IsFilled keys slots → length keys ≤ rank from keys
      → first_of (children_from from (keyed_children keys slots)) ≡ None
  children_from-past from [] slots h le = refl
  children_from-past from (key ∷ keys) [] h le = cc
  children_from-past from (key ∷ keys) (None ∷ slots) h le = cc
  children_from-past from (key ∷ keys) (Some held ∷ slots) h le =
      elim (cases_lt key from) [
        | inl less ↦ ap (λ (children : List (ℕ × C)). first_of children)
            (children_from-passed from (key, held) _ less)
            ∙ children_from-past from keys slots h (omega (arith, rank-later from key keys less))
        | inr more ↦ absurd (omega (
          arith,
          rank-skip from key keys more,
          count_by-le-length (λ k. nat_lt k from) keys,
        ))
      ]

  -- each key has its child beside it
  pub held_beside : (keys : List ℕ) (slots : List (Option C)) (place : ℕ) → IsFilled keys slots
      → place < length keys → get_or slots place None ≢ None
  held_beside [] slots place h lt = absurd (omega arith)
  held_beside (key ∷ keys) [] place h lt = cc
  held_beside (key ∷ keys) (None ∷ slots) place h lt = cc
  held_beside (key ∷ keys) (Some child ∷ slots) zero h lt = λ q. cc
  held_beside (key ∷ keys) (Some child ∷ slots) (suc place) h lt =
      held_beside keys slots place h (omega arith)

  -- behind as many children as there are keys below a number come those from there on
  pub drop-rank : (from : ℕ) (keys : List ℕ) (slots : List (Option C)) → IsFilled keys slots
      → IsAscending (keyed_children keys slots)
      → drop (rank from keys) (keyed_children keys slots)
      ≡ children_from from (keyed_children keys slots)
  drop-rank from [] slots h order = refl
  drop-rank from (key ∷ keys) [] h order = cc
  drop-rank from (key ∷ keys) (None ∷ slots) h order = cc
  drop-rank from (key ∷ keys) (Some held ∷ slots) h order =
      let children = keyed_children keys slots in
      let sorted = ascending_parts (key, held) children order in
      elim (cases_lt key from) [
        | inl less ↦
            rw (rank-later from key keys less) (drop-rank from keys slots h sorted.1
            ∙ sym (children_from-passed from (key, held) children less))
        | inr more ↦
            rw (rank-stop from key held keys slots h order more)
            (sym (from-here from (key, held) children more
            ∙ ap (λ (rest : List (ℕ × C)). (key, held) ∷ rest)
            (children_from-below from key children (omega (arith, more)) sorted.0)))
      ]

  -- those below a byte stand before its rank
  pub take-rank : (end : ℕ) (keys : List ℕ) (slots : List (Option C)) → IsFilled keys slots
      → IsAscending (keyed_children keys slots)
      → take (rank end keys) (keyed_children keys slots)
      ≡ children_below end (keyed_children keys slots)
  take-rank end [] slots h order = refl
  take-rank end (key ∷ keys) [] h order = cc
  take-rank end (key ∷ keys) (None ∷ slots) h order = cc
  take-rank end (key ∷ keys) (Some held ∷ slots) h order =
      let children = keyed_children keys slots in
      let sorted = ascending_parts (key, held) children order in
      elim (cases_lt key end) [
        | inl less ↦
            rw (rank-later end key keys less)
            (ap (λ (rest : List (ℕ × C)). (key, held) ∷ rest) (take-rank end keys slots h sorted.1)
            ∙ sym (below-kept end (key, held) children less))
        | inr more ↦
            rw (rank-stop end key held keys slots h order more)
            (sym (below-passed end (key, held) children more
            ∙ below-none end key children (omega (arith, more)) sorted.0))
      ]

  -- the child at a place, and those before it
  pub take-held : (keys : List ℕ) (slots : List (Option C)) (place : ℕ) (child : C)
      → IsFilled keys slots → place < length keys → get_or slots place None ≡ Some child
      → take (suc place) (keyed_children keys slots)
      ≡ take place (keyed_children keys slots) ++ (get_or keys place 0, child) ∷ []
  take-held [] slots place child h lt is = absurd (omega arith)
  take-held (key ∷ keys) [] place child h lt is = cc
  take-held (key ∷ keys) (None ∷ slots) place child h lt is = cc
  take-held (key ∷ keys) (Some held ∷ slots) zero child h lt is =
      ap (λ (c : C). (key, c) ∷ []) (same_Some held child is)
  take-held (key ∷ keys) (Some held ∷ slots) (suc place) child h lt is =
      ap (λ (rest : List (ℕ × C)). (key, held) ∷ rest)
      (take-held keys slots place child h (omega arith) is)

  -- the child at a place, and those behind it
  pub drop-held : (keys : List ℕ) (slots : List (Option C)) (place : ℕ) (child : C)
      → IsFilled keys slots → place < length keys → get_or slots place None ≡ Some child
      → drop place (keyed_children keys slots)
      ≡ (get_or keys place 0, child) ∷ drop (suc place) (keyed_children keys slots)
  drop-held [] slots place child h lt is = absurd (omega arith)
  drop-held (key ∷ keys) [] place child h lt is = cc
  drop-held (key ∷ keys) (None ∷ slots) place child h lt is = cc
  drop-held (key ∷ keys) (Some held ∷ slots) zero child h lt is =
      ap (λ (c : C). (key, c) ∷ keyed_children keys slots) (same_Some held child is)
  drop-held (key ∷ keys) (Some held ∷ slots) (suc place) child h lt is =
      drop-held keys slots place child h (omega arith) is

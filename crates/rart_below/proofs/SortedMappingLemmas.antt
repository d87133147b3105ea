-- A mapping by keys, as its methods know it.
use Rattle.std.proofs.Common.{◌≡◌, ◌<◌, ◌≤◌, ℕ, suc, length, ◌+◌, inl, inr, Bool, true, List, [], ◌∷◌, ◌++◌, add-one, ap, sym, ◌∙◌, subst, arith, get_or, drop, take, set, Option, None, Some}
use Rattle.std.specs.Prelude.{◌&&◌, min, nat_le, not, ◌==◌}
use Rattle.std.specs.List.{insert, remove}
use Rattle.std.specs.Ordering.{nat_cmp}
use Rattle.std.specs.FinMap.Entries.{is_sorted}
use Rattle.std.proofs.lemmas.Bool.{and_parts, and_from, cases_lt, leb-true, le-leb}
use Rattle.std.proofs.lemmas.List.{drop_all, get_or_default, take_all}
use Rattle.rart_below.specs.Children.{child_at, with_child, without_child, children_below, children_from, first_of, IsAscending, TakesFirst, TakesLast}
use Rattle.rart_below.specs.Layouts.{rank, keyed_children, is_filled, IsPlaceOf, IsAbsent}
use Rattle.rart_below.specs.Laws.{length-keyed_children}
use Rattle.rart_below.proofs.AscendingLemmas.{ascending-with_child, ascending-where_key, without_child-absent}
use Rattle.rart_below.proofs.KeyedChildrenLemmas.{slots_enough, rank-small, child_at-rank, child_at-no_rank, keyed-insert, keyed-set, keyed-remove, children_from-rank, children_from-past, drop-held, drop-rank, take-held, take-rank, held_beside}

module _ {C : Type 0} where
  -- the test of a mapping by keys
  abbrev pub in_order : ℕ → List ℕ → List (Option C) → Bool
  in_order width keys slots =
      nat_le (length keys) width && is_filled keys slots
      && is_sorted nat_cmp (keyed_children keys slots)

  pub record IsKept (width : ℕ) (keys : List ℕ) (slots : List (Option C)) : Type 0 where
    pub fits : length keys ≤ width
    pub filled : is_filled keys slots ≡ true
    pub ascending : IsAscending (keyed_children keys slots)

  pub kept_from_order : (width : ℕ) (keys : List ℕ) (slots : List (Option C))
      → in_order width keys slots ≡ true → IsKept width keys slots
  kept_from_order width keys slots order =
      let outer =
      and_parts (nat_le (length keys) width && is_filled keys slots)
      (is_sorted nat_cmp (keyed_children keys slots)) order in
      let inner = and_parts (nat_le (length keys) width) (is_filled keys slots) outer.0 in
      record { fits = leb-true (length keys) width inner.0; filled = inner.1; ascending = outer.1 }

  order_from_kept : (width : ℕ) (keys : List ℕ) (slots : List (Option C)) → IsKept width keys slots
      → in_order width keys slots ≡ true
  order_from_kept width keys slots kept =
      and_from _ _ (and_from _ _ (le-leb (length keys) width kept.fits) kept.filled) kept.ascending

  -- The lists are in order, and show these children.
  abbrev pub Shows : ℕ → List ℕ → List (Option C) → List (ℕ × C) → Type 0
  Shows width keys slots children =
      (in_order width keys slots ≡ true) × (keyed_children keys slots ≡ children)

  shows_from : (width : ℕ) (keys : List ℕ) (slots : List (Option C)) (children : List (ℕ × C))
      → length keys ≤ width → is_filled keys slots ≡ true → keyed_children keys slots ≡ children
      → IsAscending children → Shows width keys slots children
  shows_from width keys slots children fits filled shown order = (
    order_from_kept width keys slots
        (record {
          fits = fits;
          filled = filled;
          ascending = subst IsAscending (sym shown) order;
        }),
    shown,
  )

  pub length-kept : (width : ℕ) (keys : List ℕ) (slots : List (Option C)) → IsKept width keys slots
      → length (keyed_children keys slots) ≡ length keys
  length-kept width keys slots kept = length-keyed_children keys slots kept.filled

  pub rank-kept : (width byte : ℕ) (keys : List ℕ) (slots : List (Option C))
      → IsKept width keys slots → rank byte keys ≤ byte
  rank-kept width byte keys slots kept = rank-small byte keys slots kept.filled kept.ascending

  -- the same where the test of the mapping has been made
  pub rank-in_order : (width byte : ℕ) (keys : List ℕ) (slots : List (Option C))
      → in_order width keys slots ≡ true → rank byte keys ≤ byte
  rank-in_order width byte keys slots order =
      rank-kept width byte keys slots (kept_from_order width keys slots order)

  pub found : (width byte : ℕ) (keys : List ℕ) (slots : List (Option C)) (place : ℕ) (o : Option C)
      → IsKept width keys slots → IsPlaceOf byte keys place → o ≡ get_or slots place o
      → o ≡ child_at byte (keyed_children keys slots)
  found width byte keys slots place o kept at is =
      let within = at.within in
      let rank_within : rank byte keys < length keys =
      subst (λ (i : ℕ). i < length keys) at.at_rank within in
      let holds : get_or keys (rank byte keys) 0 ≡ byte =
      subst (λ (i : ℕ). get_or keys i 0 ≡ byte) at.at_rank at.holds in
      let enough : place < length slots = omega (arith, slots_enough keys slots kept.filled) in
      is ∙ (get_or_default slots place o None enough
      ∙ (ap (λ i. get_or slots i None) at.at_rank
      ∙ sym (child_at-rank byte keys slots kept.filled kept.ascending rank_within holds)))

  pub absent : (width byte : ℕ) (keys : List ℕ) (slots : List (Option C)) → IsKept width keys slots
      → IsAbsent byte keys → child_at byte (keyed_children keys slots) ≡ None
  absent width byte keys slots kept not_there =
      child_at-no_rank byte keys slots kept.filled kept.ascending not_there

  -- what is taken from a place that the byte has
  pub taken : (width byte : ℕ) (keys : List ℕ) (slots : List (Option C)) (place : ℕ)
      → IsKept width keys slots → IsPlaceOf byte keys place
      → get_or slots place None ≡ child_at byte (keyed_children keys slots)
  taken width byte keys slots place kept at =
      let within = at.within in
      let enough : place < length slots = omega (arith, slots_enough keys slots kept.filled) in
      found width byte keys slots place (get_or slots place None) kept at
      (get_or_default slots place None (get_or slots place None) enough)

  pub never_empty : (width : ℕ) (keys : List ℕ) (slots : List (Option C)) (place : ℕ) (o : Option C)
      → IsKept width keys slots → place < length keys → get_or slots place o ≡ None → ⊥
  never_empty width keys slots place o kept lt is =
      held_beside keys slots place kept.filled lt
      (get_or_default slots place None o (omega (arith, slots_enough keys slots kept.filled))
      ∙ is)

  pub next_found : (width from : ℕ) (keys : List ℕ) (slots : List (Option C)) (place : ℕ)
      (o : Option C) (child : C) → IsKept width keys slots → place ≡ rank from keys
      → place < length keys → get_or slots place o ≡ Some child
      → Some (get_or keys place 0, child)
      ≡ first_of (children_from from (keyed_children keys slots))
  next_found width from keys slots place o child kept e lt is =
      let held : get_or slots place None ≡ Some child =
      get_or_default slots place None o (omega (arith, slots_enough keys slots kept.filled))
      ∙ is in
      let rank_within : rank from keys < length keys = subst (λ (i : ℕ). i < length keys) e lt in
      let at : get_or slots (rank from keys) None ≡ Some child =
      subst (λ (i : ℕ). get_or slots i None ≡ Some child) e held in
      ap (λ (i : ℕ). Some (get_or keys i 0, child)) e
      ∙ sym (children_from-rank from child keys slots kept.filled kept.ascending rank_within at)

  pub next_none : (width from : ℕ) (keys : List ℕ) (slots : List (Option C)) (place : ℕ)
      → IsKept width keys slots → place ≡ rank from keys → length keys ≤ place
      → None ≡ first_of (children_from from (keyed_children keys slots))
  next_none width from keys slots place kept e le =
      sym (children_from-past from keys slots kept.filled (subst (λ (i : ℕ). length keys ≤ i) e le))

  -- ---- the children from a place on
  pub left_at-rank : (width from : ℕ) (keys : List ℕ) (slots : List (Option C))
      → IsKept width keys slots → drop (rank from keys) (keyed_children keys slots)
      ≡ children_from from (keyed_children keys slots)
  left_at-rank width from keys slots kept = drop-rank from keys slots kept.filled kept.ascending

  -- the first of them
  pub place_left : (width : ℕ) (keys : List ℕ) (slots : List (Option C)) (place : ℕ) (o : Option C)
      (child : C) → IsKept width keys slots → place < length keys → get_or slots place o ≡ Some child
      → drop place (keyed_children keys slots)
      ≡ (get_or keys place 0, child) ∷ drop (place + 1) (keyed_children keys slots)
  place_left width keys slots place o child kept lt is =
      let held : get_or slots place None ≡ Some child =
      get_or_default slots place None o (omega (arith, slots_enough keys slots kept.filled))
      ∙ is in
      drop-held keys slots place child kept.filled lt held
      ∙ ap (λ (n : ℕ). (get_or keys place 0, child) ∷ drop n (keyed_children keys slots))
      (sym (add-one place))

  pub place_taken : (width : ℕ) (keys : List ℕ) (slots : List (Option C)) (place : ℕ)
      (o other : Option C) → IsKept width keys slots → place < length keys
      → o ≡ get_or slots place other
      → TakesFirst (drop place (keyed_children keys slots)) o
      (drop (place + 1) (keyed_children keys slots))
  place_taken width keys slots place None other kept lt is =
      absurd (never_empty width keys slots place other kept lt (sym is))
  place_taken width keys slots place (Some child) other kept lt is =
      (get_or keys place 0, place_left width keys slots place other child kept lt (sym is))

  pub none_left : (width : ℕ) (keys : List ℕ) (slots : List (Option C)) (place : ℕ)
      → IsKept width keys slots → length keys ≤ place → drop place (keyed_children keys slots) ≡ []
  none_left width keys slots place kept le =
      drop_all place (keyed_children keys slots)
      (omega (arith, length-kept width keys slots kept))

  -- ---- the children before a place
  pub before-rank : (width end : ℕ) (keys : List ℕ) (slots : List (Option C))
      → IsKept width keys slots → take (rank end keys) (keyed_children keys slots)
      ≡ children_below end (keyed_children keys slots)
  before-rank width end keys slots kept = take-rank end keys slots kept.filled kept.ascending

  take-least : (width end : ℕ) (keys : List ℕ) (slots : List (Option C)) → IsKept width keys slots
      → take end (keyed_children keys slots)
      ≡ take (min (length keys) end) (keyed_children keys slots)
  take-least width end keys slots kept = elim (cases_lt end (length keys)) [
    | inl lt ↦ ap (λ (n : ℕ). take n (keyed_children keys slots)) (grind (arith, lt))
    | inr le ↦
        let count = length-kept width keys slots kept in
        take_all end (keyed_children keys slots) (omega (arith, count, le))
        ∙ sym (take_all (min (length keys) end) (keyed_children keys slots)
        (grind (arith, count, le)))
  ]

  -- the last of those before a number, of which there are this many and one
  pub last_taken : (width end : ℕ) (keys : List ℕ) (slots : List (Option C)) (place : ℕ)
      (o other : Option C) → IsKept width keys slots → min (length keys) end ≡ suc place
      → o ≡ get_or slots place other
      → TakesLast (take end (keyed_children keys slots)) o
      (take place (keyed_children keys slots))
  last_taken width end keys slots place None other kept last is =
      absurd (never_empty width keys slots place other kept (grind (arith, last)) (sym is))
  last_taken width end keys slots place (Some child) other kept last is =
      let within : place < length keys = grind (arith, last) in
      let held : get_or slots place None ≡ Some child =
      get_or_default slots place None other
      (omega (arith, within, slots_enough keys slots kept.filled)) ∙ sym is in (
        get_or keys place 0,
        take-least width end keys slots kept ∙ ap (λ (n : ℕ). take n (keyed_children keys slots)) last
            ∙ take-held keys slots place child kept.filled within held,
      )

  -- ---- the lists after each change
  pub added : (width byte : ℕ) (child : C) (keys keys' : List ℕ) (slots slots' : List (Option C))
      (place len : ℕ) → IsKept width keys slots → child_at byte (keyed_children keys slots) ≡ None
      → length keys' ≡ length keys + 1 → length keys < width
      → place ≡ rank byte keys → len ≡ length keys → keys' ≡ insert keys place byte
      → slots' ≡ insert (take len slots) place (Some child) ++ drop (len + 1) slots
      → Shows width keys' slots' (with_child byte child (keyed_children keys slots))
  added width byte child keys keys' slots slots' place len kept gone more room at n k s =
      let put =
      keyed-insert byte child keys slots
      (drop (len + 1) slots) place kept.filled kept.ascending gone at in
      let fits : length (insert keys place byte) ≤ width = omega (arith, ap length k) in
      rw (k, s, n) (shows_from width _ _ _ fits (rw n at put.0) (rw n at put.1)
      (ascending-with_child byte child (keyed_children keys slots) kept.ascending))

  pub replaced : (width byte : ℕ) (child : C) (keys : List ℕ) (slots slots' : List (Option C))
      (place : ℕ) → IsKept width keys slots → IsPlaceOf byte keys place
      → slots' ≡ set slots place (Some child)
      → Shows width keys slots' (with_child byte child (keyed_children keys slots))
  replaced width byte child keys slots slots' place kept at s =
      let put =
      keyed-set byte child keys slots place kept.filled kept.ascending at.at_rank at.within
      at.holds in
      rw s (shows_from width keys _ _ kept.fits put.0 put.1
      (ascending-with_child byte child (keyed_children keys slots) kept.ascending))

  pub removed : (width byte : ℕ) (keys keys' : List ℕ) (slots slots' rest : List (Option C))
      (place len : ℕ) → IsKept width keys slots → IsPlaceOf byte keys place
      → length keys' + 1 ≡ length keys
      → len ≡ length keys → keys' ≡ remove keys place
      → slots' ≡ remove (take len slots) place ++ rest
      → Shows width keys' slots' (without_child byte (keyed_children keys slots))
  removed width byte keys keys' slots slots' rest place len kept at less n k s =
      let cut =
      keyed-remove byte keys slots rest place kept.filled kept.ascending at.at_rank at.within
      at.holds in
      let fits : length (remove keys place) ≤ width = omega (arith, ap length k, kept.fits) in
      rw (k, s, n) (shows_from width _ _ _ fits cut.0 cut.1
      (ascending-where_key (λ key. not (key == byte))
      (keyed_children keys slots) kept.ascending))

  pub unchanged : (width byte : ℕ) (keys : List ℕ) (slots : List (Option C))
      → IsKept width keys slots → IsAbsent byte keys
      → keyed_children keys slots ≡ without_child byte (keyed_children keys slots)
  unchanged width byte keys slots kept not_there =
      sym (without_child-absent byte (keyed_children keys slots)
      (absent width byte keys slots kept not_there))

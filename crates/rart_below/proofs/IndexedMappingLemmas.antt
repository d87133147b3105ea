-- A mapping by an index, as its methods know it.
use Rattle.std.proofs.Common.{◌≡◌, ◌<◌, ◌≤◌, ◌≢◌, inl, inr, ℕ, zero, suc, length, length-set, ◌*◌, ◌^◌, ◌%◌, w64, true, List, [], ◌∷◌, refl, ap, sym, ◌∙◌, subst, arith, get_or, get_or-set_same, get_or-set_other, set, replicate, Option, None, Some}
use Rattle.std.specs.Prelude.{◌&&◌, ◌==◌, ◌||◌, Bool, IsSome, bit_and, bit_or, count_ones, false, is_some, not}
use Rattle.std.specs.Int.{bit_not, trailing_ones}
use Rattle.std.proofs.lemmas.Bool.{and_parts, and_from, eqb-true, eq-eqb, cases_eq, cases_lt}
use Rattle.std.proofs.lemmas.List.{get_or_past, length-replicate}
use Rattle.rart_below.specs.ByteSets.{has_byte, marks_slots}
use Rattle.rart_below.specs.declared.byte_set.ByteSet.{ByteSet}
use Rattle.rart_below.specs.Children.{child_at, with_child, without_child}
use Rattle.rart_below.specs.Layouts.{one_if_some, slot_children, named_slots, marks_of, names_of, is_named_once}
use Rattle.rart_below.specs.Counting.{length-named_slots}
use Rattle.rart_below.proofs.AscendingLemmas.{without_child-absent}
use Rattle.rart_below.proofs.DirectMappingLemmas.{child_at-place, with_child-place, without_child-place}
use Rattle.rart_below.proofs.MarkLemmas.{count_ones-marks, marks-added, marks-removed, marks-replaced, free_slot}
use Rattle.rart_below.proofs.SlotByteLemmas.{AreMarked, marked_from, marks_from, marked-added, marked-none, marked-removed, marked-replaced}
use Rattle.rart_below.proofs.SlotLemmas.{no_named_slots}
use Rattle.rart_below.proofs.NameLemmas.{names-other, names_positive, names-set_neither, names-set_new, names-set_old, named_at, named_from, named-set_unnamed, named-set_named, named-entry, get_or-named, length-named, set_again}

no_names : (place count : ℕ) → 48 ≢ place → names_of place (replicate count 48) ≡ 0
no_names place zero ne = refl
no_names place (suc count) ne = names-other place 48 (replicate count 48) ne
    ∙ no_names place count ne

module _ {C : Type 0} where
  -- the test of a mapping by an index
  abbrev pub in_order : List ℕ → List (Option C) → ℕ → ByteSet → Bool
  in_order index slots used bytes =
      length index == 256 && length slots == 48 && used == marks_of slots
      && is_named_once 0 slots index && marks_slots bytes 0 (named_slots slots index)

  pub record IsKept (index : List ℕ) (slots : List (Option C)) (used : ℕ) : Type 0 where
    pub wide : length index ≡ 256
    pub enough : length slots ≡ 48
    pub marked : used ≡ marks_of slots
    pub named : is_named_once 0 slots index ≡ true

  pub kept_from_order : (index : List ℕ) (slots : List (Option C)) (used : ℕ) (bytes : ByteSet)
      → in_order index slots used bytes ≡ true → IsKept index slots used
  kept_from_order index slots used bytes order =
      let all =
      and_parts (length index == 256 && length slots == 48 && used == marks_of slots
      && is_named_once 0 slots index) (marks_slots bytes 0 (named_slots slots index)) order in
      let outer =
      and_parts (length index == 256 && length slots == 48 && used == marks_of slots)
      (is_named_once 0 slots index) all.0 in
      let lists =
      and_parts (length index == 256 && length slots == 48) (used == marks_of slots) outer.0 in
      let lengths = and_parts (length index == 256) (length slots == 48) lists.0 in
      record {
        wide = eqb-true (length index) 256 lengths.0;
        enough = eqb-true (length slots) 48 lengths.1;
        marked = eqb-true used (marks_of slots) lists.1;
        named = outer.1;
      }

  pub bytes_from_order : (index : List ℕ) (slots : List (Option C)) (used : ℕ) (bytes : ByteSet)
      → in_order index slots used bytes ≡ true → AreMarked bytes (named_slots slots index)
  bytes_from_order index slots used bytes order =
      marked_from bytes (named_slots slots index)
      (and_parts (length index == 256 && length slots == 48 && used == marks_of slots
      && is_named_once 0 slots index) (marks_slots bytes 0 (named_slots slots index)) order).1

  pub order_from_kept : (index : List ℕ) (slots : List (Option C)) (used : ℕ) (bytes : ByteSet)
      → IsKept index slots used → AreMarked bytes (named_slots slots index)
      → in_order index slots used bytes ≡ true
  order_from_kept index slots used bytes kept has =
      and_from _ _ (and_from _ _ (and_from _ _ (and_from _ _ (eq-eqb (length index) 256 kept.wide)
      (eq-eqb (length slots) 48 kept.enough)) (eq-eqb used (marks_of slots) kept.marked))
      kept.named) (marks_from bytes (named_slots slots index) has)

  -- The mapping is in order, and shows these children.
  abbrev pub Shows : List ℕ → List (Option C) → ℕ → ByteSet → List (ℕ × C) → Type 0
  Shows index slots used bytes children =
      (in_order index slots used bytes ≡ true)
      × (slot_children 0 (named_slots slots index) ≡ children)

  pub child_at-named : (byte : ℕ) (index : List ℕ) (slots : List (Option C)) (used : ℕ)
      → IsKept index slots used → byte < 256
      → child_at byte (slot_children 0 (named_slots slots index))
      ≡ get_or slots (get_or index byte 0) None
  child_at-named byte index slots used kept lt = child_at-place byte (named_slots slots index)
      ∙ get_or-named byte slots index (omega (arith, kept.wide))

  pub none_past : (byte : ℕ) (index : List ℕ) (slots : List (Option C)) (used : ℕ)
      → IsKept index slots used → 256 ≤ byte
      → child_at byte (slot_children 0 (named_slots slots index)) ≡ None
  none_past byte index slots used kept le = child_at-place byte (named_slots slots index)
      ∙ get_or_past (named_slots slots index) byte None
      (omega (arith, kept.wide, length-named slots index))

  -- the set has the bytes of the children
  pub bytes_are : (byte : ℕ) (index : List ℕ) (slots : List (Option C)) (used : ℕ) (bytes : ByteSet)
      → in_order index slots used bytes ≡ true → byte < 256
      → has_byte bytes byte ≡ is_some (child_at byte (slot_children 0 (named_slots slots index)))
  bytes_are byte index slots used bytes order lt =
      let kept = kept_from_order index slots used bytes order in
      bytes_from_order index slots used bytes order byte
      (omega (arith, lt, kept.wide, length-named slots index))
      ∙ ap is_some (sym (child_at-place byte (named_slots slots index)))

  pub count_ones-kept : (index : List ℕ) (slots : List (Option C)) (used : ℕ)
      → IsKept index slots used → count_ones used
      ≡ length (slot_children 0 (named_slots slots index))
  count_ones-kept index slots used kept =
      ap count_ones kept.marked ∙ (count_ones-marks 0 slots
      ∙ sym (length-named_slots slots index kept.named))

  -- the place that a new child takes is free
  pub free_place : (index : List ℕ) (slots : List (Option C)) (used : ℕ) → IsKept index slots used
      → length (slot_children 0 (named_slots slots index)) < 48
      → (trailing_ones w64 used < 48) × (get_or slots (trailing_ones w64 used) None ≡ None)
  free_place index slots used kept room =
      rw kept.marked (free_slot slots kept.enough
      (omega (arith, room, length-named_slots slots index kept.named)))

  -- a byte whose entry names a slot has the child of that slot, and no other byte does
  pub held_once : (byte place : ℕ) (index : List ℕ) (slots : List (Option C)) (used : ℕ)
      → IsKept index slots used → byte < 256 → place ≡ get_or index byte 0 → place < 48
      → (names_of place index ≡ 1) × (get_or slots place None ≢ None)
  held_once byte place index slots used kept lt e within =
      let some = names_positive place byte index (omega (arith, kept.wide)) (sym e) in
      let named = named_at place slots index kept.named (omega (arith, kept.enough)) in
      let known = once (get_or slots place None) (names_of place index) some named in
      known
    where
      once : (slot : Option C) (count : ℕ) → 1 ≤ count → count ≡ one_if_some slot
          → (count ≡ 1) × (slot ≢ None)
      once None count le same = absurd (omega arith)
      once (Some child) count le same = (same, λ q. cc)

  pub named_within : (byte : ℕ) (index : List ℕ) (slots : List (Option C)) (used : ℕ)
      → IsKept index slots used → byte < 256
      → IsSome (child_at byte (slot_children 0 (named_slots slots index)))
      → get_or index byte 0 < 48
  named_within byte index slots used kept lt present = elim (cases_lt (get_or index byte 0) 48) [
    | inl less ↦ less
    | inr le ↦
        let absent : child_at byte (slot_children 0 (named_slots slots index)) ≡ None =
        child_at-named byte index slots used kept lt
        ∙ get_or_past slots (get_or index byte 0) None (omega (arith, kept.enough)) in
        let none = subst IsSome absent present in
        cc
  ]

  -- ---- the lists after each change
  pub added : (byte place : ℕ) (child : C) (index index' : List ℕ) (slots slots' : List (Option C))
      (used used' : ℕ) (bytes bytes' : ByteSet) → in_order index slots used bytes ≡ true
      → byte < 256 → place < 48
      → get_or slots place None ≡ None → child_at byte (slot_children 0 (named_slots slots index))
      ≡ None
      → index' ≡ set index byte place → slots' ≡ set slots place (Some child)
      → used' ≡ bit_or used (1 * 2 ^ place % 2 ^ 64)
      → ((other : ℕ) → has_byte bytes' other ≡ (other == byte || has_byte bytes other))
      → Shows index' slots' used' bytes' (with_child byte child
      (slot_children 0 (named_slots slots index)))
  added byte place child index index' slots slots' used used' bytes bytes' order lt within free
      absent i s u put =
      let kept = kept_from_order index slots used bytes order in
      let byte_within : byte < length index = omega (arith, kept.wide) in
      let place_within : place < length slots = omega (arith, kept.enough) in
      let gone : get_or slots (get_or index byte 0) None ≡ None =
      sym (child_at-named byte index slots used kept lt) ∙ absent in
      let unnamed : names_of place index ≡ 0 = named_at place slots index kept.named place_within
      ∙ ap one_if_some free in
      let other : get_or index byte 0 ≢ place =
      λ e. absurd (omega (arith, names_positive place byte index byte_within e)) in
      let shown : named_slots (set slots place (Some child)) (set index byte place)
      ≡ set (named_slots slots index) byte (Some child) =
      named-entry byte place (set slots place (Some child)) index
      ∙ λ j. set (named-set_unnamed place (Some child) slots index unnamed j) byte
      (get_or-set_same slots place (Some child) None place_within j)
      in
      let named : is_named_once 0 (set slots place (Some child)) (set index byte place) ≡ true =
      named_from (set slots place (Some child)) (set index byte place)
      (λ n n_within. elim (cases_eq n place) [
        | inl e ↦
            rw e (names-set_new place byte index byte_within other
            ∙ (ap suc unnamed ∙ sym (ap one_if_some
            (get_or-set_same slots place (Some child) None place_within))))
        | inr ne ↦
            let n_in : n < length slots =
            omega (arith, n_within, length-set slots place (Some child)) in
            let differs : get_or index byte 0 ≢ n =
            λ e. absurd (omega (
              arith,
              names_positive n byte index byte_within e,
              named_at n slots index kept.named n_in,
              ap one_if_some (ap (λ (k : ℕ). get_or slots k None) (sym e) ∙ gone),
            )) in
            names-set_neither n byte place index byte_within differs (λ e. ne (sym e))
            ∙ (named_at n slots index kept.named n_in
            ∙ sym (ap one_if_some (get_or-set_other slots place n (Some child) None ne)))
      ])
      in
      let marks : used' ≡ marks_of (set slots place (Some child)) =
      u ∙ (ap (λ (n : ℕ). bit_or n (1 * 2 ^ place % 2 ^ 64)) kept.marked
      ∙ marks-added place child slots place_within (omega arith)) in
      rw (i, s) (
        order_from_kept _ _ used' bytes' (record {
          wide = length-set index byte place ∙ kept.wide;
          enough = length-set slots place (Some child) ∙ kept.enough;
          marked = marks;
          named = named;
        }) (subst (AreMarked bytes') (sym shown)
            (marked-added byte child (named_slots slots index) bytes bytes'
            (omega (arith, byte_within, length-named slots index))
            (length-set (named_slots slots index) byte (Some child)) put
            (bytes_from_order index slots used bytes order))),
        ap (slot_children 0) shown ∙ with_child-place byte child (named_slots slots index)
            (omega (arith, length-named slots index)),
      )

  pub replaced : (byte place : ℕ) (child held : C) (index : List ℕ) (slots slots' : List (Option C))
      (used : ℕ) (bytes : ByteSet) → in_order index slots used bytes ≡ true → byte < 256
      → place ≡ get_or index byte 0 → place < 48
      → Some held ≡ get_or slots place None → slots' ≡ set slots place (Some child)
      → Shows index slots' used bytes
      (with_child byte child (slot_children 0 (named_slots slots index)))
  replaced byte place child held index slots slots' used bytes order lt at within is s =
      let kept = kept_from_order index slots used bytes order in
      let byte_within : byte < length index = omega (arith, kept.wide) in
      let place_within : place < length slots = omega (arith, kept.enough) in
      let once = (held_once byte place index slots used kept lt at within).0 in
      let shown =
      named-set_named place byte (Some child) slots index byte_within
      (sym at) once place_within in
      let named : is_named_once 0 (set slots place (Some child)) index ≡ true =
      named_from (set slots place (Some child)) index (λ n n_within. elim (cases_eq n place) [
        | inl e ↦ rw e (once ∙ sym (ap one_if_some
            (get_or-set_same slots place (Some child) None place_within)))
        | inr ne ↦ named_at n slots index kept.named
            (omega (arith, n_within, length-set slots place (Some child)))
            ∙ sym (ap one_if_some (get_or-set_other slots place n (Some child) None ne))
      ])
      in
      rw s (
        order_from_kept index _ used bytes (record {
          wide = kept.wide;
          enough = length-set slots place (Some child) ∙ kept.enough;
          marked = kept.marked
              ∙ sym (marks-replaced place child held slots (sym is));
          named = named;
        }) (subst (AreMarked bytes) (sym shown)
            (marked-replaced byte child held (named_slots slots index) bytes
            (omega (arith, byte_within, length-named slots index))
            (length-set (named_slots slots index) byte (Some child))
            (is ∙ (ap (λ (n : ℕ). get_or slots n None) at
            ∙ sym (get_or-named byte slots index byte_within)))
            (bytes_from_order index slots used bytes order))),
        ap (slot_children 0) shown ∙ with_child-place byte child (named_slots slots index)
            (omega (arith, length-named slots index)),
      )

  pub removed : (byte place : ℕ) (index index' : List ℕ) (slots slots' : List (Option C))
      (used used' : ℕ) (bytes bytes' : ByteSet) → in_order index slots used bytes ≡ true
      → byte < 256 → place ≡ get_or index byte 0 → place < 48
      → index' ≡ set index byte 48 → slots' ≡ set slots place None
      → used' ≡ bit_and used (bit_not w64 (1 * 2 ^ place % 2 ^ 64))
      → ((other : ℕ) → has_byte bytes' other ≡ (not (other == byte) && has_byte bytes other))
      → Shows index' slots' used' bytes'
      (without_child byte (slot_children 0 (named_slots slots index)))
  removed byte place index index' slots slots' used used' bytes bytes' order lt at within i s u cut =
      let kept = kept_from_order index slots used bytes order in
      let byte_within : byte < length index = omega (arith, kept.wide) in
      let place_within : place < length slots = omega (arith, kept.enough) in
      let once = (held_once byte place index slots used kept lt at within).0 in
      let none_there : get_or (set slots place None) 48 None ≡ None =
      get_or_past (set slots place None) 48 None
      (omega (arith, kept.enough, length-set slots place None)) in
      let shown : named_slots (set slots place None) (set index byte 48)
      ≡ set (named_slots slots index) byte None =
      named-entry byte 48 (set slots place None) index
      ∙ ((λ j. set (named-set_named place byte None slots index byte_within
      (sym at) once place_within j) byte (none_there j))
      ∙ set_again (named_slots slots index) byte None (omega (arith, length-named slots index)))
      in
      let named : is_named_once 0 (set slots place None) (set index byte 48) ≡ true =
      named_from (set slots place None) (set index byte 48) (λ n n_within.
      let n_in : n < length slots = omega (arith, n_within, length-set slots place None) in
      let not_new : 48 ≢ n = omega (arith, n_in, kept.enough) in
      elim (cases_eq n place) [
        | inl e ↦
            rw e (omega (
              arith,
              names-set_old place byte 48 index byte_within (sym at)
                  (omega arith),
              once,
              ap one_if_some
                  (get_or-set_same slots place None None place_within),
            ))
        | inr ne ↦
            names-set_neither n byte 48 index byte_within (λ e. ne (sym e ∙ sym at)) not_new
            ∙ (named_at n slots index kept.named n_in
            ∙ sym (ap one_if_some (get_or-set_other slots place n None None ne)))
      ])
      in
      let marks : used' ≡ marks_of (set slots place None) =
      u ∙ (ap (λ (n : ℕ). bit_and n (bit_not w64 (1 * 2 ^ place % 2 ^ 64))) kept.marked
      ∙ marks-removed place slots place_within (omega arith) (omega (arith, kept.enough))) in
      rw (i, s) (
        order_from_kept _ _ used' bytes' (record {
          wide = length-set index byte 48 ∙ kept.wide;
          enough = length-set slots place None ∙ kept.enough;
          marked = marks;
          named = named;
        }) (subst (AreMarked bytes') (sym shown)
            (marked-removed byte (named_slots slots index) bytes bytes'
            (omega (arith, byte_within, length-named slots index))
            (length-set (named_slots slots index) byte None) cut
            (bytes_from_order index slots used bytes order))),
        ap (slot_children 0) shown ∙ without_child-place byte (named_slots slots index),
      )

  -- a byte whose entry names no slot
  pub absent_past : (byte : ℕ) (index : List ℕ) (slots : List (Option C)) (used : ℕ)
      → IsKept index slots used → byte < 256 → 48 ≤ get_or index byte 0
      → child_at byte (slot_children 0 (named_slots slots index)) ≡ None
  absent_past byte index slots used kept lt le = child_at-named byte index slots used kept lt
      ∙ get_or_past slots (get_or index byte 0) None (omega (arith, kept.enough))

  pub unchanged : (byte : ℕ) (index : List ℕ) (slots : List (Option C)) (used : ℕ)
      → IsKept index slots used → byte < 256 → 48 ≤ get_or index byte 0
      → slot_children 0 (named_slots slots index)
      ≡ without_child byte (slot_children 0 (named_slots slots index))
  unchanged byte index slots used kept lt le =
      sym (without_child-absent byte (slot_children 0 (named_slots slots index))
      (absent_past byte index slots used kept lt le))

  -- ---- the lists of a new mapping
  no_marks : (slots : List (Option C))
      → ((place : ℕ) → place < length slots → get_or slots place None ≡ None) → marks_of slots ≡ 0
  no_marks [] empty = refl
  no_marks (slot ∷ slots) empty =
      omega (
        arith,
        ap one_if_some (empty 0 (omega arith)),
        no_marks slots (λ place lt. empty (suc place) (omega arith)),
      )

  named_none : (entries : List ℕ) (slots : List (Option C))
      → ((place : ℕ) → place < length slots → get_or slots place None ≡ None) → (byte : ℕ)
      → byte < length (named_slots slots entries)
      → get_or (named_slots slots entries) byte None ≡ None
  named_none entries slots empty byte lt =
      get_or-named byte slots entries (omega (arith, lt, length-named slots entries))
      ∙ elim (cases_lt (get_or entries byte 0) (length slots)) [
        | inl within ↦ empty (get_or entries byte 0) within
        | inr past ↦ get_or_past slots (get_or entries byte 0) None past
      ]

  pub starts : (count : ℕ) (slots : List (Option C)) (bytes : ByteSet) → count ≡ 256
      → length slots ≡ 48
      → ((place : ℕ) → place < length slots → get_or slots place None ≡ None)
      → ((byte : ℕ) → has_byte bytes byte ≡ false)
      → Shows (replicate count 48) slots 0 bytes []
  starts count slots bytes wide enough empty none =
      let named : is_named_once 0 slots (replicate count 48) ≡ true =
      named_from slots (replicate count 48)
      (λ place lt. no_names place count (omega (arith, lt, enough))
      ∙ sym (ap one_if_some (empty place lt)))
      in (
        order_from_kept (replicate count 48) slots 0 bytes
            (record {
              wide = length-replicate count 48 ∙ wide;
              enough = enough;
              marked = sym (no_marks slots empty);
              named = named;
            })
            (marked-none (named_slots slots (replicate count 48)) bytes none
            (named_none (replicate count 48) slots empty)),
        no_named_slots 0 slots (replicate count 48) empty,
      )

-- The laws of the mappings: a mapping in order shows ascending children, and no more than its
-- width.
use Rattle.std.proofs.Common.{◌≡◌, ◌<◌, ◌≤◌, suc-le-suc, ℕ, suc, true, List, [], ◌∷◌, length, refl, ap, sym, subst, Option, Some, None}
use Rattle.std.proofs.Math.Nat.{le_refl, le_trans, le-suc}
use Rattle.std.specs.Prelude.{IsTrue, nat_le, ◌==◌, ◌&&◌}
use Rattle.std.specs.Ordering.{nat_cmp, is_lt}
use Rattle.std.specs.Cmp.{nat_cmp_is}
use Rattle.std.specs.declared.cmp.Ordering.TheVariants.{Less}
use Rattle.std.specs.FinMap.Entries.{is_sorted, below_all}
use Rattle.std.proofs.lemmas.Bool.{and_parts, and_from, leb-true, eqb-true, false≢true}
use Rattle.rart_below.specs.ByteSets.{marks_slots}
use Rattle.rart_below.specs.Children.{IsAscending}
use Rattle.rart_below.specs.Layouts.{keyed_children, is_filled, slot_children, named_slots, marks_of, is_named_once}
use Rattle.rart_below.specs.Counting.{length-named_slots}
use Rattle.rart_below.specs.SortedKeyedMapping.{sorted_children, sorted_in_order}
use Rattle.rart_below.specs.DirectMapping.{direct_children, direct_in_order}
use Rattle.rart_below.specs.IndexedMapping.{indexed_children, indexed_in_order}
use Rattle.rart_below.specs.declared.mapping.indexed.IndexedMapping.{IndexedMapping}
use Rattle.rart_below.specs.declared.mapping.sorted.SortedKeyedMapping.{SortedKeyedMapping}
use Rattle.rart_below.specs.declared.mapping.direct.DirectMapping.{DirectMapping}

module _ {C : Type 0} where
  -- The byte is below each byte of the list.
  abbrev pub IsBelow : ℕ → List (ℕ × C) → Type 0
  IsBelow byte children = below_all nat_cmp byte children ≡ true

  pub below_from : (byte : ℕ) (child : ℕ × C) (children : List (ℕ × C)) → byte < child.0
      → IsBelow byte children → IsBelow byte (child ∷ children)
  below_from byte child children lt below =
      and_from (is_lt (nat_cmp byte child.0)) (below_all nat_cmp byte children)
      (ap is_lt (sym (nat_cmp_is byte child.0 Less lt))) below

  pub ascending_from : (child : ℕ × C) (children : List (ℕ × C)) → IsBelow child.0 children
      → IsAscending children → IsAscending (child ∷ children)
  ascending_from child children below rest =
      and_from (below_all nat_cmp child.0 children) (is_sorted nat_cmp children) below rest

  pub length-keyed_children : (keys : List ℕ) (slots : List (Option C))
      → is_filled keys slots ≡ true → length (keyed_children keys slots) ≡ length keys
  length-keyed_children [] slots filled = refl
  length-keyed_children (key ∷ keys) [] filled = absurd (false≢true filled)
  length-keyed_children (key ∷ keys) (None ∷ slots) filled = absurd (false≢true filled)
  length-keyed_children (key ∷ keys) (Some child ∷ slots) filled =
      ap suc (length-keyed_children keys slots filled)

  pub slots-below : (byte first : ℕ) (slots : List (Option C)) → byte < first
      → IsBelow byte (slot_children first slots)
  slots-below byte first [] lt = refl
  slots-below byte first (None ∷ slots) lt =
      slots-below byte (suc first) slots (le_trans lt (le-suc first))
  slots-below byte first (Some child ∷ slots) lt =
      below_from byte (first, child) (slot_children (suc first) slots) lt
      (slots-below byte (suc first) slots (le_trans lt (le-suc first)))

  pub slots-ascending : (first : ℕ) (slots : List (Option C))
      → IsAscending (slot_children first slots)
  slots-ascending first [] = refl
  slots-ascending first (None ∷ slots) = slots-ascending (suc first) slots
  slots-ascending first (Some child ∷ slots) =
      ascending_from (first, child) (slot_children (suc first) slots)
      (slots-below first (suc first) slots (le_refl (suc first)))
      (slots-ascending (suc first) slots)

  pub length-slot_children : (first : ℕ) (slots : List (Option C))
      → length (slot_children first slots) ≤ length slots
  length-slot_children first [] = le_refl 0
  length-slot_children first (None ∷ slots) =
      le_trans (length-slot_children (suc first) slots) (le-suc (length slots))
  length-slot_children first (Some child ∷ slots) =
      suc-le-suc (length-slot_children (suc first) slots)

  pub direct-ascending : (mapping : DirectMapping C) → IsTrue (direct_in_order mapping)
      → IsAscending (direct_children mapping)
  direct-ascending mapping order = slots-ascending 0 mapping.children.slots

  pub direct-fits : (mapping : DirectMapping C) → IsTrue (direct_in_order mapping)
      → length (direct_children mapping) ≤ 256
  direct-fits mapping order =
      let parts =
      and_parts (length mapping.children.slots == 256)
      (mapping.count == length (direct_children mapping))
      (and_parts (length mapping.children.slots == 256
      && mapping.count == length (direct_children mapping))
      (marks_slots mapping.bytes 0 mapping.children.slots) order).0 in
      subst (λ (width : ℕ). length (direct_children mapping) ≤ width)
      (eqb-true (length mapping.children.slots) 256 parts.0)
      (length-slot_children 0 mapping.children.slots)

  pub indexed-ascending : (mapping : IndexedMapping C) → IsTrue (indexed_in_order mapping)
      → IsAscending (indexed_children mapping)
  indexed-ascending mapping order =
      slots-ascending 0 (named_slots mapping.children.slots mapping.index)

  pub indexed-fits : (mapping : IndexedMapping C) → IsTrue (indexed_in_order mapping)
      → length (indexed_children mapping) ≤ 48
  indexed-fits mapping order =
      let all =
      and_parts (length mapping.index == 256 && length mapping.children.slots == 48
      && mapping.used == marks_of mapping.children.slots
      && is_named_once 0 mapping.children.slots mapping.index)
      (marks_slots mapping.bytes 0 (named_slots mapping.children.slots mapping.index)) order in
      let parts =
      and_parts (length mapping.index == 256 && length mapping.children.slots == 48
      && mapping.used == marks_of mapping.children.slots)
      (is_named_once 0 mapping.children.slots mapping.index) all.0 in
      let lists =
      and_parts (length mapping.index == 256 && length mapping.children.slots == 48)
      (mapping.used == marks_of mapping.children.slots) parts.0 in
      let slots =
      and_parts (length mapping.index == 256) (length mapping.children.slots == 48) lists.0 in
      subst (λ (count : ℕ). count ≤ 48)
      (sym (length-named_slots mapping.children.slots mapping.index parts.1))
      (subst (λ (width : ℕ). length (slot_children 0 mapping.children.slots) ≤ width)
      (eqb-true (length mapping.children.slots) 48 slots.1)
      (length-slot_children 0 mapping.children.slots))

module _ {C : Type 0} {WIDTH : ℕ} where
  pub sorted-ascending : (mapping : SortedKeyedMapping C WIDTH) → IsTrue (sorted_in_order mapping)
      → IsAscending (sorted_children mapping)
  sorted-ascending mapping order = (and_parts _ _ order).1

  pub sorted-fits : (mapping : SortedKeyedMapping C WIDTH) → IsTrue (sorted_in_order mapping)
      → length (sorted_children mapping) ≤ WIDTH
  sorted-fits mapping order =
      let parts =
      and_parts (nat_le (length mapping.keys.items) WIDTH)
      (is_filled mapping.keys.items mapping.children.slots) (and_parts _ _ order).0 in
      subst (λ (count : ℕ). count ≤ WIDTH)
      (sym (length-keyed_children mapping.keys.items mapping.children.slots parts.1))
      (leb-true (length mapping.keys.items) WIDTH parts.0)

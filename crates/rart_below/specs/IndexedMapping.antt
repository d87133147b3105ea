-- What children an `IndexedMapping` shows, and when its index, its bits and its bytes are in step
-- with its slots.
use Rattle.std.specs.Prelude.{ℕ, ◌&&◌, ◌==◌, Bool, List, length}
use Rattle.rart_below.specs.ByteSets.{marks_slots}
use Rattle.rart_below.specs.Layouts.{slot_children, named_slots, marks_of, is_named_once}
use Rattle.rart_below.specs.declared.mapping.indexed.IndexedMapping.{IndexedMapping}

module _ {C : Type 0} where
  abbrev pub indexed_children : IndexedMapping C → List (ℕ × C)
  indexed_children mapping = slot_children 0 (named_slots mapping.children.slots mapping.index)

  -- whether the index has an entry for each byte, the marks are those of the slots, each slot in
  -- use belongs to one byte, and the bytes are those of the children
  abbrev pub indexed_in_order : IndexedMapping C → Bool
  indexed_in_order mapping =
      length mapping.index == 256 && length mapping.children.slots == 48
      && mapping.used == marks_of mapping.children.slots
      && is_named_once 0 mapping.children.slots mapping.index
      && marks_slots mapping.bytes 0 (named_slots mapping.children.slots mapping.index)

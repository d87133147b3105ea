-- What children a `DirectMapping` shows, and when its count and its bytes are in step with its
-- slots.
use Rattle.std.specs.Prelude.{ℕ, ◌&&◌, ◌==◌, Bool, List, length}
use Rattle.rart_below.specs.ByteSets.{marks_slots}
use Rattle.rart_below.specs.Layouts.{slot_children}
use Rattle.rart_below.specs.declared.mapping.direct.DirectMapping.{DirectMapping}

module _ {C : Type 0} where
  abbrev pub direct_children : DirectMapping C → List (ℕ × C)
  direct_children mapping = slot_children 0 mapping.children.slots

  -- whether there is a slot for each byte, the count is that of the children, and the bytes are
  -- those of the children
  abbrev pub direct_in_order : DirectMapping C → Bool
  direct_in_order mapping =
      length mapping.children.slots == 256 && mapping.count == length (direct_children mapping)
      && marks_slots mapping.bytes 0 mapping.children.slots

-- What children a `SortedKeyedMapping` shows, and when its bytes and its slots are in step.
use Rattle.std.specs.Prelude.{ℕ, ◌&&◌, Bool, List, length, nat_le}
use Rattle.std.specs.Ordering.{nat_cmp}
use Rattle.std.specs.FinMap.Entries.{is_sorted}
use Rattle.rart_below.specs.Layouts.{keyed_children, is_filled}
use Rattle.rart_below.specs.declared.mapping.sorted.SortedKeyedMapping.{SortedKeyedMapping}

module _ {C : Type 0} {WIDTH : ℕ} where
  abbrev pub sorted_children : SortedKeyedMapping C WIDTH → List (ℕ × C)
  sorted_children mapping = keyed_children mapping.keys.items mapping.children.slots

  -- whether the keys fit, each has its child beside it, and they strictly rise
  abbrev pub sorted_in_order : SortedKeyedMapping C WIDTH → Bool
  sorted_in_order mapping =
      nat_le (length mapping.keys.items) WIDTH
      && is_filled mapping.keys.items mapping.children.slots
      && is_sorted nat_cmp (sorted_children mapping)

-- The children of a node that stand under bytes of a set.
use Rattle.std.specs.Prelude.{◌≡◌, ℕ, true, List, IsSome}
use Rattle.std.specs.Ordering.{nat_cmp}
use Rattle.std.specs.FinMap.Entries.{where_key}
use Rattle.rart_below.specs.ByteSets.{has_byte}
use Rattle.rart_below.specs.Children.{child_at}
use Rattle.rart_below.specs.declared.byte_set.ByteSet.{ByteSet}
use Rattle.rart_node.specs.Shape.{Shape, prefix_of, value_of, children_of}

module _ {C : Type 0} where
  -- those that stand under bytes of the set
  abbrev pub children_among : ByteSet → List (ℕ × C) → List (ℕ × C)
  children_among bytes children = where_key nat_cmp (has_byte bytes) children

  -- Each byte of the set has a child.
  abbrev pub HaveChild : ByteSet → List (ℕ × C) → Type 0
  HaveChild bytes children =
      (byte : ℕ) → has_byte bytes byte ≡ true → IsSome (child_at byte children)

-- Of a node those children are left that stand under bytes of the set, with its prefix and value.
pub record KeepsAmong {V : Type 0} (bytes : ByteSet) (s now : Shape V) : Type 0 where
  pub prefix : prefix_of now ≡ prefix_of s
  pub value : value_of now ≡ value_of s
  pub children : children_of now ≡ children_among bytes (children_of s)

-- What the fields of an iterator over common children mean.
use Rattle.std.specs.Prelude.{ℕ, List}
use Rattle.std.specs.Ordering.{nat_cmp}
use Rattle.std.specs.FinMap.Entries.{where_key}
use Rattle.rart_below.specs.ByteSets.{has_byte}
use Rattle.rart_node.specs.Shape.{Shape, children_of}
use Rattle.rart_lockstep.specs.declared.children.CommonChildren.{CommonChildren}
use Rattle.rart_lockstep.specs.Children.{common_children}

-- `partial` is what is known of prefixes, which the type takes for its ghost field
module _ {P V : Type 0} {partial : _} where
  -- the pairs that are left, under the bytes that are
  abbrev pub pairs_left : CommonChildren P V partial → List (ℕ × (Shape V × Shape V))
  pairs_left it =
      where_key nat_cmp (has_byte it.bytes.left) (common_children
      (children_of it.left.now.shape) (children_of it.right.now.shape))

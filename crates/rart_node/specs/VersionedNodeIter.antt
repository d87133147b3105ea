-- What an iterator over the children of a node has left.
use Rattle.std.specs.Prelude.{ℕ, List}
use Rattle.rart_node.specs.Contents.{left_at}
use Rattle.rart_node.specs.declared.node_iter.VersionedNodeIter.{VersionedNodeIter}
use Rattle.rart_node.specs.Shape.{Shape, children_of, width_of}

-- `partial` is what is known of prefixes, which the type takes for its ghost field
module _ {P V : Type 0} {partial : _} where
  abbrev pub children_left : VersionedNodeIter P V partial → List (ℕ × Shape V)
  children_left it =
      left_at (width_of it.node.now.shape) it.from (children_of it.node.now.shape)

-- What an iterator back over the children of a node has left: those before its place.
use Rattle.std.specs.Prelude.{ℕ, List}
use Rattle.rart_node.specs.Contents.{before_at}
use Rattle.rart_node.specs.declared.node_rev_iter.VersionedNodeRevIter.{VersionedNodeRevIter}
use Rattle.rart_node.specs.Shape.{Shape, children_of, width_of}

-- `partial` is what is known of prefixes, which the type takes for its ghost field
module _ {P V : Type 0} {partial : _} where
  abbrev pub children_before : VersionedNodeRevIter P V partial → List (ℕ × Shape V)
  children_before it =
      before_at (width_of it.node.now.shape) it.end (children_of it.node.now.shape)

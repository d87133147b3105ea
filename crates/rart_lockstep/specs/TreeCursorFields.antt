-- What the fields of a cursor in a tree mean.
use Rattle.rart_node.specs.Shape.{Shape}
use Rattle.rart_lockstep.specs.declared.tree_cursor.TreeCursor.{TreeCursor}
use Rattle.rart_lockstep.specs.TreeCursors.{behind_bytes}

-- `partial` is what is known of prefixes, which the type takes for its ghost field
module _ {P V : Type 0} {partial : _} where
  abbrev pub cursor_shape : TreeCursor P V partial → Shape V
  cursor_shape cursor = behind_bytes cursor.from cursor.node.now.shape

-- What a key finds at a node.
use Rattle.std.specs.Prelude.{ℕ, List, [], ◌∷◌, Option, None}
use Rattle.rart_below.specs.Children.{child_at}
use Rattle.rart_node.specs.Shape.{Shape, children_of}

module _ {V : Type 0} where
  -- the child under the first byte of what is left of a key, where there are both
  abbrev pub child_under : List ℕ → Shape V → Option (Shape V)
  child_under [] s = None
  child_under (byte ∷ rest) s = child_at byte (children_of s)

-- How many nodes a tree has.
use Rattle.std.specs.Prelude.{ℕ, ◌+◌}
use Rattle.rart_node.specs.Shape.{Shape, Forest, node, bare, grown}

module _ {V : Type 0} where
  abbrev mutual
    -- the node and those below it
    pub nodes_of : Shape V → ℕ
    nodes_of (node prefix value width forest) = 1 + nodes_below forest

    pub nodes_below : Forest V → ℕ
    nodes_below bare = 0
    nodes_below (grown byte child forest) = nodes_of child + nodes_below forest

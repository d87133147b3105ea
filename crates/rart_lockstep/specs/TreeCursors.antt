-- A node of whose prefix the first bytes are passed, and where the way goes on from there.
use Rattle.std.specs.Prelude.{ℕ, List, [], ◌∷◌, Option, None, drop}
use Rattle.rart_node.specs.Shape.{Shape, node, entries_of, prefix_of, with_prefix}

module _ {V : Type 0} where
  -- a node without the first bytes of its prefix
  abbrev pub behind_bytes : ℕ → Shape V → Shape V
  behind_bytes count s = with_prefix (drop count (prefix_of s)) s

  -- the value of the empty string: a node's own where nothing is left of its prefix
  abbrev pub value_here : Shape V → Option V
  value_here (node [] value width forest) = value
  value_here (node (b ∷ prefix) value width forest) = None

  -- where each next byte leads: to the children where nothing is left of the prefix, and else to
  -- the node itself, by the first byte of the prefix
  abbrev pub next_children : Shape V → List (ℕ × Shape V)
  next_children (node [] value width forest) = entries_of forest
  next_children (node (b ∷ prefix) value width forest) =
      (b, node (b ∷ prefix) value width forest) ∷ []

-- how many children are next behind two prefixes: one where either goes on, and two where both have
-- ended
abbrev pub children_next : List ℕ → List ℕ → ℕ
children_next [] [] = 2
children_next [] (b ∷ other) = 1
children_next (b ∷ prefix) other = 1

-- The way that a key takes down a tree, a node at a time.
use Rattle.std.specs.Prelude.{◌≡◌, ℕ, zero, suc, List, [], ◌∷◌, Option, Some, None, IsSome}
use Rattle.std.specs.Option.{option_and_then, option_map}
use Rattle.rart_below.specs.Children.{child_at}
use Rattle.rart_node.specs.Shape.{Shape, Forest, node, prefix_of, value_of, entries_of}
use Rattle.rart_node.specs.Trees.{strip_prefix}

-- the first byte, and 0 where there is none
abbrev pub first_byte : List ℕ → ℕ
first_byte [] = 0
first_byte (b ∷ w) = b

module _ {V : Type 0} where
  -- the child under the first byte of what is left, and what is left
  abbrev pub child_along : Forest V → List ℕ → Option (Shape V × List ℕ)
  child_along forest [] = None
  child_along forest (byte ∷ rest) =
      option_map (λ child. (child, byte ∷ rest)) (child_at byte (entries_of forest))

  -- one node down: the child that the key goes on to, and what is left of the key from there
  abbrev pub step : List ℕ → Shape V → Option (Shape V × List ℕ)
  step key (node prefix value width forest) =
      option_and_then (child_along forest) (strip_prefix prefix key)

  -- `steps` nodes down
  abbrev pub path_end : ℕ → List ℕ → Shape V → Option (Shape V × List ℕ)
  path_end zero key s = Some (s, key)
  path_end (suc steps) key s =
      option_and_then (λ below. path_end steps below.1 below.0) (step key s)

  -- `steps` nodes down a key ends, at a node with a value.
  abbrev pub Arrives : ℕ → List ℕ → Shape V → Type 0
  Arrives steps key s = (end : Shape V × List ℕ) × (path_end steps key s ≡ Some end)
      × (strip_prefix (prefix_of end.0) end.1 ≡ Some []) × IsSome (value_of end.0)

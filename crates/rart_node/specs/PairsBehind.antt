-- Pairs of key and value behind the path to a node: its own, those of its children, and how long
-- their keys may be.
use Rattle.std.specs.Prelude.{◌≤◌, ℕ, List, [], ◌∷◌, ◌++◌, Option, Some, None, map, All, length, ⊤}
use Rattle.rart_node.specs.Shape.{Shape, prefix_of, children_of}
use Rattle.rart_node.specs.Trees.{IsTree, pairs_of}

module _ {V : Type 0} where
  -- the pairs with this string before each key
  abbrev pub behind_path : List ℕ → List (List ℕ × V) → List (List ℕ × V)
  behind_path path pairs = map (λ pair. (path ++ pair.0, pair.1)) pairs

  -- the pair of a value that is still to be given
  abbrev pub pending_pair : List ℕ → Option V → List (List ℕ × V)
  pending_pair path None = []
  pending_pair path (Some value) = (path, value) ∷ []

  -- the pairs of children, one child after the other
  abbrev pub pairs_of_all : List (ℕ × Shape V) → List (List ℕ × V)
  pairs_of_all [] = []
  pairs_of_all (child ∷ children) = pairs_of child.1 ++ pairs_of_all children

  -- the pairs of a node but its own
  abbrev pub pairs_inside : Shape V → List (List ℕ × V)
  pairs_inside s = behind_path (prefix_of s) (pairs_of_all (children_of s))

  -- Each child is a tree.
  abbrev pub AreTrees : List (ℕ × Shape V) → Type 0
  AreTrees [] = ⊤
  AreTrees (child ∷ children) = IsTree child.1 × AreTrees children

  -- No key is longer than this, where there is a greatest length.
  abbrev pub AreShort : Option ℕ → List (List ℕ × V) → Type 0
  AreShort None pairs = ⊤
  AreShort (Some most) pairs = All (λ pair. length pair.0 ≤ most) pairs

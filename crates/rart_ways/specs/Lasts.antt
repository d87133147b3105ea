-- Where the last of some pairs stands.
use Rattle.std.specs.Prelude.{◌≡◌, ◌<◌, ◌++◌, ℕ, List, [], ◌∷◌, Option, Some, None, filter, length, ⊤}
use Rattle.std.specs.Borrow.{Bor}
use Rattle.std.specs.Ordering.{as_partial_cmp}
use Rattle.std.specs.Range.Bound.{is_up_to_end}
use Rattle.std.specs.declared.ops.Bound.{Bound}
use Rattle.rart_below.specs.Bytes.{byte_order}
use Rattle.rart_node.specs.Shape.{Shape, prefix_of, value_of}
use Rattle.rart_node.specs.Seen.{Seen}
use Rattle.rart_node.specs.Trees.{IsTree, pairs_of}
use Rattle.rart_node.specs.PairsBehind.{behind_path, pending_pair}
use Rattle.rart_ways.specs.Besides.{is_to}
use Rattle.rart_ways.specs.declared.seeking.Edge.{Edge}
use Rattle.rart_ways.specs.declared.seeking.end.Last.{Last}
use Rattle.rart_ways.specs.declared.seeking.end.Last.TheVariants.{Value, Below}
use Rattle.rart_ways.specs.declared.seeking.end.Reached.{Reached}
use Rattle.rart_ways.specs.declared.seeking.end.Reached.TheVariants.{All, Own, Nothing}

module _ {V : Type 0} where
  -- the pairs of a tree whose keys meet an upper bound
  abbrev pub pairs_reaching : Bound (List ℕ) → Shape V → List (List ℕ × V)
  pairs_reaching high s =
      filter (λ pair. is_up_to_end (as_partial_cmp byte_order) high pair.0) (pairs_of s)

  -- those up to a string, or, where that is excluded, before it
  abbrev pub pairs_to : Edge → List ℕ → Shape V → List (List ℕ × V)
  pairs_to edge high s = filter (λ pair. is_to edge high pair.0) (pairs_of s)

  -- the pairs of a node that are reached
  abbrev pub reached_part : Reached → Shape V → List (List ℕ × V)
  reached_part All s = pairs_of s
  reached_part Own s = pending_pair (prefix_of s) (value_of s)
  reached_part Nothing s = []

  -- The last of these pairs are those of a tree, behind the path to it.
  pub record IsEnd (pairs : List (List ℕ × V)) (path : List ℕ) (s : Shape V) : Type 0 where
    pub tree : IsTree s
    pub others : List (List ℕ × V)
    pub is : pairs ≡ others ++ behind_path path (pairs_of s)

  -- They are one pair, or those of a tree, behind the path to it; or there is no pair.
  abbrev pub EndAt : List (List ℕ × V) → Option (List ℕ × Last V (Shape V)) → Type 0
  EndAt pairs None = pairs ≡ []
  EndAt pairs (Some (path, Value value)) =
      (others : List (List ℕ × V)) × (pairs ≡ others ++ (path, value) ∷ [])
  EndAt pairs (Some (path, Below s)) = IsEnd pairs path s

  -- The prefix of the node has a byte, if there is a node.
  abbrev pub IsDeepEnd : Option (List ℕ × Last V (Shape V)) → Type 0
  IsDeepEnd None = ⊤
  IsDeepEnd (Some (path, Value value)) = ⊤
  IsDeepEnd (Some (path, Below s)) = 0 < length (prefix_of s)

  -- how long its prefix is
  abbrev pub end_length : Option (List ℕ × Last V (Shape V)) → ℕ
  end_length None = 0
  end_length (Some (path, Value value)) = 0
  end_length (Some (path, Below s)) = length (prefix_of s)

  -- a value, or a node or a pointer to one, and the path to it, as they are seen
  abbrev pub end_shape : Option (Bor (List ℕ) × Last (Bor V) (Bor (Seen V)))
      → Option (List ℕ × Last V (Shape V))
  end_shape None = None
  end_shape (Some (path, Value value)) = Some (path.now, Value value.now)
  end_shape (Some (path, Below node)) = Some (path.now, Below node.now.shape)

-- Where the first of some pairs stands: below a node, behind the path to it.
use Rattle.std.specs.Prelude.{◌≡◌, ◌<◌, ◌-◌, ◌^◌, ◌++◌, ℕ, Bool, List, [], ◌∷◌, Option, Some, None, filter, length, ⊤}
use Rattle.std.specs.Borrow.{Bor}
use Rattle.std.specs.Ordering.{as_partial_cmp, is_le, is_lt}
use Rattle.std.specs.Range.Bound.{is_from_start}
use Rattle.std.specs.declared.ops.Bound.{Bound}
use Rattle.rart_below.specs.Bytes.{byte_order}
use Rattle.rart_node.specs.Shape.{Shape, prefix_of}
use Rattle.rart_node.specs.Seen.{Seen}
use Rattle.rart_ways.specs.declared.seeking.Edge.{Edge}
use Rattle.rart_ways.specs.declared.seeking.Edge.TheVariants.{Included, Excluded}
use Rattle.rart_ways.specs.declared.seeking.start.Kept.{Kept}
use Rattle.rart_ways.specs.declared.seeking.start.Kept.TheVariants.{All, Inside, Nothing}
use Rattle.rart_node.specs.Trees.{IsTree, pairs_of}
use Rattle.rart_node.specs.PairsBehind.{behind_path, pairs_inside, AreShort}

-- whether a key is from a string on, or, where that is excluded, behind it
abbrev pub is_from : Edge → List ℕ → List ℕ → Bool
is_from Included low key = is_le (byte_order low key)
is_from Excluded low key = is_lt (byte_order low key)

module _ {V : Type 0} where
  -- the pairs of a tree whose keys meet a lower bound
  abbrev pub pairs_meeting : Bound (List ℕ) → Shape V → List (List ℕ × V)
  pairs_meeting low s =
      filter (λ pair. is_from_start (as_partial_cmp byte_order) low pair.0) (pairs_of s)

  -- those from a string on, or, where that is excluded, behind it
  abbrev pub pairs_from : Edge → List ℕ → Shape V → List (List ℕ × V)
  pairs_from edge low s = filter (λ pair. is_from edge low pair.0) (pairs_of s)

  -- the pairs of a node that are kept
  abbrev pub kept_part : Kept → Shape V → List (List ℕ × V)
  kept_part All s = pairs_of s
  kept_part Inside s = pairs_inside s
  kept_part Nothing s = []

  -- The first of these pairs are those of a tree, behind the path to it.
  pub record IsStart (pairs : List (List ℕ × V)) (path : List ℕ) (s : Shape V) : Type 0 where
    pub tree : IsTree s
    pub short : AreShort (Some (2 ^ 64 - 1)) (behind_path path (pairs_of s))
    pub others : List (List ℕ × V)
    pub is : pairs ≡ behind_path path (pairs_of s) ++ others

  -- They are those of this tree, or there is no pair.
  abbrev pub StartAt : List (List ℕ × V) → Option (List ℕ × Shape V) → Type 0
  StartAt pairs None = pairs ≡ []
  StartAt pairs (Some start) = IsStart pairs start.0 start.1

  -- Each child is a tree, and its prefix has a byte.
  abbrev pub AreTurns : List (ℕ × Shape V) → Type 0
  AreTurns [] = ⊤
  AreTurns (child ∷ children) =
      IsTree child.1 × (0 < length (prefix_of child.1)) × AreTurns children

  -- The prefix of the node has a byte, if there is a node.
  abbrev pub IsDeep : Option (List ℕ × Shape V) → Type 0
  IsDeep None = ⊤
  IsDeep (Some turn) = 0 < length (prefix_of turn.1)

  -- how long its prefix is
  abbrev pub start_length : Option (List ℕ × Shape V) → ℕ
  start_length None = 0
  start_length (Some start) = length (prefix_of start.1)

  -- a node, or a pointer to one, and the path to it, as they are seen
  abbrev pub start_shape :
      Option (Bor (List ℕ) × Bor (Seen V)) → Option (List ℕ × Shape V)
  start_shape None = None
  start_shape (Some start) = Some (start.0.now, start.1.now.shape)

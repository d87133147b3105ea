-- The nodes that a walk has open, from the root down: each with the segments that lead to it from
-- the one above, and the children that are left.
use Rattle.std.specs.Prelude.{◌≡◌, ℕ, List, [], ◌∷◌, ◌++◌, Option, Some, None, map, ⊤}
use Rattle.std.specs.List.{concat}
use Rattle.rart_node.specs.Shape.{Shape}
use Rattle.rart_walks.specs.Walks.{Cursor, paths_of}
pub use Rattle.rart_node.specs.PairsBehind.{behind_path, pending_pair, pairs_of_all, pairs_inside, AreTrees}

abbrev pub OpenNode : Type 0 → Type 0
OpenNode V = List (List ℕ) × List (ℕ × Shape V)

-- the paths with this string before each
abbrev pub under_path : List ℕ → List (List ℕ) → List (List ℕ)
under_path path paths = map (λ more. path ++ more) paths

module _ {V : Type 0} where
  -- the paths of the nodes of children, one child after the other
  abbrev pub paths_of_all : List (ℕ × Shape V) → List (List ℕ)
  paths_of_all [] = []
  paths_of_all (child ∷ children) = paths_of child.1 ++ paths_of_all children

  -- the nodes, and below them one with nothing left, to which these segments lead, if any
  abbrev pub with_rest : List (OpenNode V) → List (List ℕ) → List (OpenNode V)
  with_rest frames [] = frames
  with_rest frames (segment ∷ rest) = frames ++ (segment ∷ rest, []) ∷ []

  abbrev pub segments_of : List (OpenNode V) → List (List ℕ)
  segments_of [] = []
  segments_of (frame ∷ frames) = frame.0 ++ segments_of frames

  -- the pairs of the children that are left, and the paths of their nodes: those of the innermost
  -- node first
  abbrev pub pairs_ahead : List (OpenNode V) → List (List ℕ × V)
  pairs_ahead [] = []
  pairs_ahead (frame ∷ frames) =
      behind_path (concat frame.0) (pairs_ahead frames ++ pairs_of_all frame.1)

  abbrev pub paths_ahead : List (OpenNode V) → List (List ℕ)
  paths_ahead [] = []
  paths_ahead (frame ∷ frames) =
      under_path (concat frame.0) (paths_ahead frames ++ paths_of_all frame.1)

  abbrev pub TreesAhead : List (OpenNode V) → Type 0
  TreesAhead [] = ⊤
  TreesAhead (frame ∷ frames) = AreTrees frame.1 × TreesAhead frames

  -- where a walk stands that has these nodes open and this value still to give
  abbrev pub cursor_of : List (OpenNode V) → Option V → Cursor V
  cursor_of frames pending = record {
    segments = segments_of frames;
    pairs = pending_pair (concat (segments_of frames)) pending ++ pairs_ahead frames;
    paths = paths_ahead frames;
  }

  -- A node is open below the others, with this segment more to it and these children left: one
  -- with nothing left that stood there is one with it.
  pub record Pushes (before : List (OpenNode V)) (segment : List ℕ) (later : List (ℕ × Shape V))
      (after : List (OpenNode V)) : Type 0 where
    pub frames : List (OpenNode V)
    pub rest : List (List ℕ)
    pub was : before ≡ with_rest frames rest
    pub is : after ≡ frames ++ (rest ++ segment ∷ [], later) ∷ []

  -- None of these nodes has a child left.
  abbrev pub AreSpent : List (OpenNode V) → Type 0
  AreSpent [] = ⊤
  AreSpent (frame ∷ frames) = (frame.1 ≡ []) × AreSpent frames

  -- The innermost nodes were left that had no child left; then the next child was taken, or no node
  -- was open any more.
  abbrev pub TakesAhead : List (OpenNode V) → Option (Shape V) → List (OpenNode V) → Type 0
  TakesAhead before None after = AreSpent before × (after ≡ [])
  TakesAhead before (Some child) after =
      (front : List (OpenNode V)) × (spent : List (OpenNode V)) × (way : List (List ℕ)) × (byte : ℕ)
      × (rest : List (ℕ × Shape V)) × AreSpent spent
      × (before ≡ front ++ (way, (byte, child) ∷ rest) ∷ spent)
      × (after ≡ front ++ (way, rest) ∷ [])

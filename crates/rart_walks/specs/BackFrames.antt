-- The nodes that a walk back has open, from the root down: each with its prefix, its own value, where
-- that is still to give, and the children that are left.
use Rattle.std.specs.Prelude.{◌≡◌, ◌+◌, ◌⊎◌, ℕ, List, [], ◌∷◌, ◌++◌, Option, Some, None, count_by, is_some, map, reverse, ⊤}
use Rattle.std.specs.List.{concat}
use Rattle.rart_node.specs.Shape.{Shape, Forest, node, bare, grown, value_of, children_of}
use Rattle.rart_node.specs.Trees.{IsTree, own_pair, pairs_of}
use Rattle.rart_walks.specs.Frames.{AreTrees, behind_path, pairs_of_all, under_path}
use Rattle.rart_walks.specs.Walks.{Cursor}
use Rattle.rart_walks.specs.declared.walk_back.Taken.{Taken}
use Rattle.rart_walks.specs.declared.walk_back.Taken.TheVariants.{Child, Own}

abbrev pub OpenBack : Type 0 → Type 0
OpenBack V = List ℕ × Option V × List (ℕ × Shape V)

module _ {V : Type 0} where
  abbrev mutual
    -- the path of each node, in the order in which a walk back enters them: a node before those
    -- below it, and of its children the last first
    pub back_paths_of : Shape V → List (List ℕ)
    back_paths_of (node prefix value width forest) =
        under_path prefix ([] ∷ back_paths_below forest)

    pub back_paths_below : Forest V → List (List ℕ)
    back_paths_below bare = []
    back_paths_below (grown byte child forest) = back_paths_below forest ++ back_paths_of child

  abbrev pub back_paths_of_all : List (ℕ × Shape V) → List (List ℕ)
  back_paths_of_all [] = []
  back_paths_of_all (child ∷ children) = back_paths_of_all children ++ back_paths_of child.1

  abbrev pub back_segments : List (OpenBack V) → List (List ℕ)
  back_segments frames = map (λ frame. frame.0) frames

  -- the pairs that are left, ascending: of a node its own, those of the children that are left, and
  -- those of the nodes that are open below it
  abbrev pub pairs_behind : List (OpenBack V) → List (List ℕ × V)
  pairs_behind [] = []
  pairs_behind (frame ∷ frames) =
      behind_path frame.0 ((own_pair frame.1 ++ pairs_of_all frame.2) ++ pairs_behind frames)

  -- the paths of the nodes that are left to enter, in that order: those of the innermost node first
  abbrev pub paths_behind : List (OpenBack V) → List (List ℕ)
  paths_behind [] = []
  paths_behind (frame ∷ frames) =
      under_path frame.0 (paths_behind frames ++ back_paths_of_all frame.2)

  abbrev pub TreesBehind : List (OpenBack V) → Type 0
  TreesBehind [] = ⊤
  TreesBehind (frame ∷ frames) = AreTrees frame.2 × TreesBehind frames

  -- how many nodes have their own value still to give
  abbrev pub owns_behind : List (OpenBack V) → ℕ
  owns_behind frames = count_by (λ frame. is_some frame.1) frames

  -- the nodes, and below them a leaf with this prefix, if there is one, whose value was given
  abbrev pub with_back_leaf : List (OpenBack V) → Option (List ℕ) → List (OpenBack V)
  with_back_leaf frames None = frames
  with_back_leaf frames (Some segment) = frames ++ (segment, None, []) ∷ []

  -- Where a walk back stands that has these nodes open: it gives the pairs that are left from the
  -- last one on.
  abbrev pub back_cursor_of : List (OpenBack V) → Cursor V
  back_cursor_of frames = record {
    segments = back_segments frames;
    pairs = reverse (pairs_behind frames);
    paths = paths_behind frames;
  }

  -- A node's value is given as it is entered, where it has no children, or kept to be given
  -- behind them.
  abbrev pub SplitsOwn : Shape V → Option V → Option V → Type 0
  SplitsOwn s given kept =
      ((given ≡ None) × (kept ≡ value_of s))
      ⊎ ((given ≡ value_of s) × (kept ≡ None) × (children_of s ≡ []))

  -- The same is left of both.
  pub record KeepsBack (before after : List (OpenBack V)) : Type 0 where
    pub pairs : pairs_behind before ≡ pairs_behind after
    pub paths : paths_behind before ≡ paths_behind after
    pub trees : TreesBehind before → TreesBehind after
    pub owns : owns_behind before ≡ owns_behind after

  -- The last child that was left was taken: its pairs were the last, and its nodes the next.
  pub record TakesChildBack (before : List (OpenBack V)) (child : Shape V)
      (after : List (OpenBack V)) : Type 0 where
    pub pairs : pairs_behind before
        ≡ pairs_behind after ++ behind_path (concat (back_segments after)) (pairs_of child)
    pub paths : paths_behind before
        ≡ under_path (concat (back_segments after)) (back_paths_of child) ++ paths_behind after
    pub tree : TreesBehind before → IsTree child
    pub trees : TreesBehind before → TreesBehind after
    pub owns : owns_behind before ≡ owns_behind after

  -- The innermost node's own value was taken: its pair was the last.
  pub record TakesOwn (before : List (OpenBack V)) (value : V)
      (after : List (OpenBack V)) : Type 0 where
    pub pairs : pairs_behind before
        ≡ pairs_behind after ++ (concat (back_segments after), value) ∷ []
    pub paths : paths_behind before ≡ paths_behind after
    pub trees : TreesBehind before → TreesBehind after
    pub owns : owns_behind before ≡ owns_behind after + 1

  -- The innermost node has nothing left.
  abbrev pub IsSpent : List (OpenBack V) → Type 0
  IsSpent frames =
      (front : List (OpenBack V)) × (segment : List ℕ)
      × (frames ≡ front ++ (segment, None, []) ∷ [])

  -- Of the innermost node its last child was taken, or where none was left its own value, or
  -- neither was left; or no node was open.
  abbrev pub TakesBack :
      List (OpenBack V) → Option (Option (Taken (Shape V) V)) → List (OpenBack V) → Type 0
  TakesBack before None after = (before ≡ []) × (after ≡ [])
  TakesBack before (Some None) after = (after ≡ before) × IsSpent before
  TakesBack before (Some (Some (Child child))) after = TakesChildBack before child after
  TakesBack before (Some (Some (Own value))) after = TakesOwn before value after

  -- The innermost nodes were left that had nothing left; then one was taken, or no node was open
  -- any more.
  abbrev pub TakesNextBack :
      List (OpenBack V) → Option (Taken (Shape V) V) → List (OpenBack V) → Type 0
  TakesNextBack before None after = KeepsBack before [] × (after ≡ [])
  TakesNextBack before (Some (Child child)) after = TakesChildBack before child after
  TakesNextBack before (Some (Own value)) after = TakesOwn before value after

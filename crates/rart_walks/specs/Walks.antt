-- What a walk over a tree has left, and how long the keys of what it goes over may be.
use Rattle.std.specs.Prelude.{◌≡◌, ◌⊎◌, ℕ, true, List, [], ◌∷◌, ◌++◌, map, Option, Some, None, IsSome, All}
use Rattle.std.specs.Option.{option_copied}
use Rattle.std.specs.List.{concat}
use Rattle.std.specs.Borrow.{Bor}
use Rattle.rart_below.specs.Bytes.{begins}
use Rattle.rart_node.specs.Shape.{Shape, Forest, node, bare, grown}
pub use Rattle.rart_node.specs.Nodes.{nodes_of, nodes_below}
pub use Rattle.rart_node.specs.PairsBehind.{AreShort, pending_pair}

module _ {V : Type 0} where
  abbrev mutual
    -- the path of each node: the prefixes from the root down to it, joined
    pub paths_of : Shape V → List (List ℕ)
    paths_of (node prefix value width forest) =
        map (λ path. prefix ++ path) ([] ∷ paths_below forest)

    pub paths_below : Forest V → List (List ℕ)
    paths_below bare = []
    paths_below (grown byte child forest) = paths_of child ++ paths_below forest

-- Where a walk stands, and what it has left.
pub record Cursor (V : Type 0) : Type 0 where
  -- the prefixes of the nodes from the root to the one that the walk stands at
  pub segments : List (List ℕ)
  -- the pairs that are to be given
  pub pairs : List (List ℕ × V)
  -- the paths of the nodes that are to be entered
  pub paths : List (List ℕ)

module _ {V : Type 0} where
  -- a walk behind its end
  abbrev pub walk_end : Cursor V
  walk_end = record { segments = []; pairs = []; paths = [] }

  -- The walk gave the first pair of what was left, and stands at its node, or there was none, and
  -- it has ended.
  abbrev pub Gives : Cursor V → Option (Bor V) → Cursor V → Type 0
  Gives before None after = (before.pairs ≡ []) × (after ≡ walk_end)
  Gives before (Some value) after = before.pairs ≡ (concat after.segments, value.now) ∷ after.pairs

  -- The first of these pairs has a key that the string begins.
  abbrev pub GoesOnFirst : List ℕ → List (List ℕ × V) → Type 0
  GoesOnFirst path pairs =
      (more : List ℕ) × (value : V) × (others : List (List ℕ × V))
      × (pairs ≡ (path ++ more, value) ∷ others)

  -- The walk has come to a node, with this value, if it has one: it has entered it, or stood there
  -- with the value still to give. The keys below it are the first that were left.
  pub record ComesTo (before : Cursor V) (value : Option (Bor V))
      (after : Cursor V) : Type 0 where
    pub pairs : before.pairs ≡ pending_pair (concat after.segments) (option_copied value)
        ++ after.pairs
    pub first : GoesOnFirst (concat after.segments) before.pairs
    pub place : (before.paths ≡ concat after.segments ∷ after.paths)
        ⊎ ((before.paths ≡ after.paths) × IsSome value)

  -- The walk has come to the next node, or there was none, and it has ended.
  abbrev pub Steps : Cursor V → Option (Option (Bor V)) → Cursor V → Type 0
  Steps before None after = (before.pairs ≡ []) × (before.paths ≡ []) × (after ≡ walk_end)
  Steps before (Some value) after = ComesTo before value after

-- The list is the other one, or what that has behind its first.
abbrev pub IsEndOf : {A : Type 0} → List A → List A → Type 0
IsEndOf {A} end whole = (whole ≡ end) ⊎ ((first : A) × (whole ≡ first ∷ end))

-- Of the paths before, those after are left: the others begin the key.
pub record PassesTo (key : List ℕ) (before after : List (List ℕ)) : Type 0 where
  pub passed : List (List ℕ)
  pub is : before ≡ passed ++ after
  pub begin : All (λ path. begins path key ≡ true) passed

-- How a walk opens nodes and leaves them: inside only.
use Rattle.std.specs.Prelude.{◌≡◌, ◌<◌, ◌⊎◌, ℕ, List, [], ◌∷◌, ◌++◌, Option, None, Some, Result, OnOk, filter, is_ok, length, if◌then◌else◌}
use Rattle.std.specs.List.{concat}
use Rattle.std.specs.Option.{option_copied}
use Rattle.rart_below.specs.Bytes.{IsAdmitted, common_length}
use Rattle.rart_node.specs.Shape.{Shape, prefix_of, value_of, children_of}
use Rattle.rart_node.specs.Trees.{IsTree, pairs_of}
use Rattle.rart_walks.specs.Frames.{Pushes, TakesAhead, behind_path, under_path, pairs_ahead, pairs_inside, segments_of}
use Rattle.rart_walks.specs.Parts.{keeps, reaches}
use Rattle.rart_walks.specs.WalkFields.{IsFramed, IsWalk, cursor, nodes_open, path_to}
use Rattle.rart_walks.specs.Walks.{AreShort, IsEndOf, paths_of}
use Rattle.rart_walks.specs.declared.walk.Walk.{Walk}
use Rattle.rart_walks.specs.declared.walk.path.Part.{Part}

-- The string and the prefix of the node have `count` bytes in common, and the string ends there, or
-- the prefix goes on.
pub record EndsIn {V : Type 0} (count : ℕ) (rest : List ℕ) (s : Shape V) : Type 0 where
  pub common : count ≡ common_length (prefix_of s) rest
  pub ends : (count ≡ length rest) ⊎ (count < length (prefix_of s))

-- `partial` is what is known of prefixes, which the type takes for a ghost field
module _ {P V T : Type 0} {partial : _} (Holds : T → List (List ℕ) → Type 0)
  where
    -- The key path keeps the way to where the walk stands, and may take this segment.
    pub record CanPass (greatest : Option ℕ) (segment : List ℕ) (it : Walk P V T partial)
        : Type 0 where
      pub holds : Holds it.key_path (segments_of (nodes_open it))
      pub short : IsAdmitted greatest (length (concat (segments_of (nodes_open it) ++ segment ∷ [])))

    -- The node with this prefix is passed: the walk stands at it, and nothing of it is left.
    -- Refused, the walk stands where it stood.
    pub record Passes {E : Type 0} (before : Walk P V T partial) (result : Result (Unit {0}) E)
        (segment : List ℕ) (after : Walk P V T partial) : Type 0 where
      pub holds : Holds after.key_path (segments_of (nodes_open after))
      pub outer : after.outer ≡ before.outer
      pub inner : after.inner ≡ before.inner
      pub below : after.below.segments ≡ (if is_ok result
          then before.below.segments ++ segment ∷ [] else before.below.segments)
      pub pending : after.pending ≡ before.pending

    module _ (extent : List (List ℕ) → ℕ) where
      -- A node with this prefix is open below those that were, for these of its children.
      pub record OpensPart {E : Type 0} (before : Walk P V T partial)
          (result : Result (Unit {0}) E) (segment : List ℕ) (later : List (ℕ × Shape V))
          (after : Walk P V T partial) : Type 0 where
        pub holds : OnOk result (Holds after.key_path (segments_of (nodes_open after)))
        pub opened : OnOk result (Pushes (nodes_open before) segment later (nodes_open after))
        pub framed : OnOk result (IsFramed extent after)
        pub pending : after.pending ≡ before.pending

      -- The walk stands at this node, below those with a frame.
      pub record EntersNext {E : Type 0} (before : Walk P V T partial)
          (result : Result (Unit {0}) E) (s : Shape V) (after : Walk P V T partial) : Type 0 where
        pub holds : OnOk result (Holds after.key_path (segments_of (nodes_open after)))
        pub opened : OnOk result (Pushes (nodes_open before) (prefix_of s) (children_of s)
            (nodes_open after))
        pub framed : OnOk result (IsFramed extent after)
        pub pending : after.pending ≡ before.pending

      -- The next child that is left was taken, and the walk stands at its parent.
      pub record TakesNext (before : Walk P V T partial) (child : Shape V)
          (after : Walk P V T partial) : Type 0 where
        pub holds : Holds after.key_path (segments_of (nodes_open after))
        pub takes : TakesAhead (nodes_open before) (Some child) (nodes_open after)
        pub below : after.below.segments ≡ []
        pub framed : IsFramed extent after
        pub pending : after.pending ≡ before.pending

      module _ (greatest : Option ℕ) where
        -- The walk stands above this tree, with no value to give, and no key of the tree is too
        -- long for the key path.
        pub record StandsAbove (s : Shape V) (it : Walk P V T partial) : Type 0 where
          pub walk : IsWalk Holds extent greatest it
          pub pending : it.pending ≡ None
          pub tree : IsTree s
          pub short : AreShort greatest (behind_path (path_to it) (pairs_of s))

        -- The walk stands at the root of this tree, all of which is left, and then what was left.
        pub record EntersWhole {E : Type 0} (before : Walk P V T partial)
            (result : Result (Unit {0}) E)
            (s : Shape V) (after : Walk P V T partial) : Type 0 where
          pub walk : OnOk result (IsWalk Holds extent greatest after)
          pub pairs : OnOk result ((cursor after).pairs
              ≡ behind_path (path_to before) (pairs_of s) ++ (cursor before).pairs)
          pub paths : OnOk result (path_to after ∷ (cursor after).paths
              ≡ under_path (path_to before) (paths_of s) ++ (cursor before).paths)
          pub inside : OnOk result (pairs_ahead (nodes_open after)
              ≡ behind_path (path_to before) (pairs_inside s) ++ (cursor before).pairs)
          pub pending : OnOk result (option_copied after.pending ≡ value_of s)

        -- The walk stands at the root of this tree, of which these pairs are left, and then what
        -- was.
        pub record EntersEnd {E : Type 0} (before : Walk P V T partial)
            (result : Result (Unit {0}) E) (s : Shape V) (own : List (List ℕ × V))
            (after : Walk P V T partial) : Type 0 where
          pub walk : OnOk result (IsWalk Holds extent greatest after)
          pub pairs : OnOk result ((cursor after).pairs
              ≡ behind_path (path_to before) own ++ (cursor before).pairs)
          pub paths : OnOk result (path_to after ∷ (cursor after).paths
              ≡ under_path (path_to before) (paths_of s) ++ (cursor before).paths)

        -- What a part keeps of this tree is left, and then what was. The first node of it may have
        -- been entered.
        pub record Finishes {E : Type 0} (before : Walk P V T partial)
            (result : Result (Unit {0}) E)
            (part : Part) (rest : List ℕ) (s : Shape V) (after : Walk P V T partial)
            : Type 0 where
          pub walk : OnOk result (IsWalk Holds extent greatest after)
          pub pairs : OnOk result ((cursor after).pairs
              ≡ behind_path (path_to before)
              (filter (λ pair. keeps part rest pair.0) (pairs_of s)) ++ (cursor before).pairs)
          pub paths : OnOk result (IsEndOf (cursor after).paths
              (under_path (path_to before) (filter (reaches part rest) (paths_of s))
              ++ (cursor before).paths))

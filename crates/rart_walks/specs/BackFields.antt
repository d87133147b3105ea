-- What the fields of a walk back mean.
use Rattle.std.specs.Prelude.{◌≡◌, ◌+◌, ◌≤◌, ℕ, List, [], ◌∷◌, ◌++◌, Option, None, Result, IfOk, OnOk, OnErr, length, map}
use Rattle.std.specs.List.{concat}
use Rattle.std.specs.Option.{option_copied}
use Rattle.std.specs.Borrow.{Bor}
use Rattle.rart_node.specs.Counts.{Counts}
use Rattle.rart_node.specs.Seen.{Seen}
use Rattle.rart_node.specs.Shape.{Shape, prefix_of, children_of}
use Rattle.rart_node.specs.VersionedNodeRevIter.{children_before}
use Rattle.rart_walks.specs.declared.walk_back.BackFrame.{BackFrame}
use Rattle.rart_walks.specs.declared.walk_back.Taken.{Taken}
use Rattle.rart_walks.specs.declared.walk_back.Taken.TheVariants.{Child, Own}
use Rattle.rart_walks.specs.declared.walk_back.WalkBack.{WalkBack}
use Rattle.rart_walks.specs.BackFrames.{OpenBack, SplitsOwn, TreesBehind, back_cursor_of, back_segments, owns_behind, pairs_behind, with_back_leaf}
use Rattle.rart_walks.specs.Walks.{Cursor, AreShort}

-- what was taken, as it is seen
abbrev pub taken_shape : {V : Type 0} → Taken (Bor (Seen V)) (Bor V) → Taken (Shape V) V
taken_shape (Child child) = Child child.now.shape
taken_shape (Own value) = Own value.now

-- `partial` is what is known of prefixes, which the types take for a ghost field
module _ {P V : Type 0} {partial : _} where
  -- frames, as the nodes that they stand for
  abbrev pub open_back : List (BackFrame P V partial) → List (OpenBack V)
  open_back frames =
      map (λ frame. (frame.segment.now, option_copied frame.own, children_before frame.children))
      frames

  module _ {T : Type 0} where
    -- the nodes that a walk back has open: those with a frame, and the leaf that it stands at
    abbrev pub nodes_back : WalkBack P V T partial → List (OpenBack V)
    nodes_back walk = with_back_leaf (open_back walk.frames.items) (option_copied walk.leaf)

    -- where a walk back stands, and what it has left
    abbrev pub back_cursor : WalkBack P V T partial → Cursor V
    back_cursor walk = back_cursor_of (nodes_back walk)

    -- how many pairs it can give without entering a node: the values of nodes that are open
    abbrev pub at_hand : WalkBack P V T partial → ℕ
    at_hand walk = owns_behind (nodes_back walk)

    -- the prefixes down to where a walk back stands, joined
    abbrev pub path_to : WalkBack P V T partial → List ℕ
    path_to walk = concat (back_cursor walk).segments

    -- What is left of a walk back are trees, no key of which is too long for the key path, and the
    -- key path keeps the way to where the walk stands.
    pub record IsWalkBack (holds : T → List (List ℕ) → Type 0) (greatest : Option ℕ)
        (walk : WalkBack P V T partial) : Type 0 where
      pub holds_way : holds walk.key_path (back_segments (nodes_back walk))
      pub trees : TreesBehind (nodes_back walk)
      pub short : AreShort greatest (pairs_behind (nodes_back walk))

    -- From the one walk to the other, which it has become, it has entered a node for each pair that
    -- it gave, but for those that were at hand.
    abbrev pub EntersForEach :
        WalkBack P V T partial → Counts → WalkBack P V T partial → Counts → Type 0
    EntersForEach walk start later now =
        start.entered + length (back_cursor walk).pairs + at_hand later
        ≤ now.entered + length (back_cursor later).pairs + at_hand walk

    -- The leaf that the walk stood at is left, if it stood at one.
    pub record LeavesLeaf (Holds : T → List (List ℕ) → Type 0)
        (before after : WalkBack P V T partial) : Type 0 where
      pub holds : Holds after.key_path (back_segments (open_back after.frames.items))
      pub frames : after.frames ≡ before.frames
      pub leaf : after.leaf ≡ None

    -- A node with this prefix, this value to give and these children is open below the others.
    pub record EntersPart {E : Type 0} (Holds : T → List (List ℕ) → Type 0)
        (before : WalkBack P V T partial) (result : Result (Unit {0}) E) (node : OpenBack V)
        (after : WalkBack P V T partial) : Type 0 where
      pub holds : Holds after.key_path (back_segments (open_back after.frames.items))
      pub frames : OnOk result (open_back after.frames.items
          ≡ open_back before.frames.items ++ node ∷ [])
      pub leaf : after.leaf ≡ before.leaf

    -- The walk stands at this node, below those with a frame; refused, it stands above it.
    pub record EntersNext {E : Type 0} (Holds : T → List (List ℕ) → Type 0)
        (before : WalkBack P V T partial) (result : Result (Option (Bor V)) E) (s : Shape V)
        (after : WalkBack P V T partial) : Type 0 where
      pub opened : IfOk result (λ given. (kept : Option V)
          × SplitsOwn s (option_copied given) kept
          × (nodes_back after
          ≡ open_back before.frames.items ++ (prefix_of s, kept, children_of s) ∷ []))
      pub holds : IfOk result (λ given. Holds after.key_path (back_segments (nodes_back after)))
      pub refused : OnErr result (Holds after.key_path
          (back_segments (open_back after.frames.items)) × (after.leaf ≡ None))

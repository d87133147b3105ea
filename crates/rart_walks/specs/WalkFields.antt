-- What the fields of a walk mean.
use Rattle.std.specs.Prelude.{◌≡◌, ℕ, ◌+◌, ◌≤◌, List, [], ◌∷◌, ◌++◌, Option, None, is_some, length, map, if◌then◌else◌, ⊤}
use Rattle.std.specs.List.{concat}
use Rattle.std.specs.Option.{option_copied, option_to_list}
use Rattle.rart_node.specs.Counts.{Counts}
use Rattle.rart_node.specs.VersionedNodeIter.{children_left}
use Rattle.rart_walks.specs.declared.walk.Frame.{Frame}
use Rattle.rart_walks.specs.declared.walk.Walk.{Walk}
use Rattle.rart_walks.specs.Walks.{Cursor, AreShort}
use Rattle.rart_walks.specs.Frames.{OpenNode, segments_of, pairs_ahead, TreesAhead, cursor_of, with_rest}

-- `partial` is what is known of prefixes, which the types take for a ghost field
module _ {P V T : Type 0} {partial : _} where
  -- how many pairs a walk gives before it enters a node: one where it stands at a node whose value
  -- is still to give, and else none
  abbrev pub at_hand : Walk P V T partial → ℕ
  at_hand walk = if is_some walk.pending then 1 else 0

module _ {P V : Type 0} {partial : _} where
  -- frames, as the nodes that they stand for
  abbrev pub open_nodes : List (Frame P V partial) → List (OpenNode V)
  open_nodes frames = map (λ frame. (frame.way.segments, children_left frame.children)) frames

  -- the outer frames, and behind them the innermost one, if there is one
  abbrev pub and_inner : List (Frame P V partial) → Option (Frame P V partial)
      → List (Frame P V partial)
  and_inner outer inner = outer ++ option_to_list inner

  -- The mark of each frame is how far the segments down to it reach, behind those above.
  abbrev pub AreMarked : (List (List ℕ) → ℕ) → List (List ℕ) → List (Frame P V partial) → Type 0
  AreMarked extent above [] = ⊤
  AreMarked extent above (frame ∷ frames) =
      (frame.mark ≡ extent (above ++ frame.way.segments))
      × AreMarked extent (above ++ frame.way.segments) frames

  module _ {T : Type 0} where
    abbrev pub frames_of : Walk P V T partial → List (Frame P V partial)
    frames_of walk = and_inner walk.outer.items walk.inner

    -- the nodes that a walk has open: those with a frame, and the one that it stands at below them
    abbrev pub nodes_open : Walk P V T partial → List (OpenNode V)
    nodes_open walk = with_rest (open_nodes (frames_of walk)) walk.below.segments

    -- where a walk stands, and what it has left
    abbrev pub cursor : Walk P V T partial → Cursor V
    cursor walk = cursor_of (nodes_open walk) (option_copied walk.pending)

    -- the prefixes down to where a walk stands, joined
    abbrev pub path_to : Walk P V T partial → List ℕ
    path_to walk = concat (cursor walk).segments

    -- The key path can be cut back to each frame, and where no frame stands beside the outer ones,
    -- there are none.
    pub record IsFramed (extent : List (List ℕ) → ℕ) (walk : Walk P V T partial) : Type 0 where
      pub marked : AreMarked extent [] (frames_of walk)
      pub innermost : walk.inner ≡ None → walk.outer.items ≡ []

    -- What is left of a walk are trees, no key of which is too long for the key path; the key path
    -- keeps the way to where the walk stands.
    pub record IsWalk (holds : T → List (List ℕ) → Type 0) (extent : List (List ℕ) → ℕ)
        (greatest : Option ℕ) (walk : Walk P V T partial) : Type 0 where
      pub holds_way : holds walk.key_path (segments_of (nodes_open walk))
      pub framed : IsFramed extent walk
      pub trees : TreesAhead (nodes_open walk)
      pub short : AreShort greatest (pairs_ahead (nodes_open walk))

    -- From the one walk to the other, which it has become, it has entered a node for each pair that
    -- it gave, but for one that was at hand.
    abbrev pub EntersForEach :
        Walk P V T partial → Counts → Walk P V T partial → Counts → Type 0
    EntersForEach walk start later now =
        start.entered + length (cursor walk).pairs + at_hand later
        ≤ now.entered + length (cursor later).pairs + at_hand walk

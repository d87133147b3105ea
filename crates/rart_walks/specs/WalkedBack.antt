-- What the calls of a walk back do: where it starts, how it goes on, and where it ends. The words
-- are those of a walk, over the pairs from the last to the first.
use Rattle.std.specs.Prelude.{◌≡◌, ◌+◌, ◌≤◌, ℕ, List, [], Option, None, Result, IfOk, OnOk, OnErr, length, reverse}
use Rattle.std.specs.Borrow.{Bor}
use Rattle.rart_node.specs.Counts.{Counts, CountsUpTo}
use Rattle.rart_node.specs.Shape.{Shape}
use Rattle.rart_node.specs.Trees.{pairs_of}
use Rattle.rart_walks.specs.BackFields.{EntersForEach, IsWalkBack, at_hand, back_cursor, open_back}
use Rattle.rart_walks.specs.BackFrames.{back_paths_of}
use Rattle.rart_walks.specs.Walks.{Gives, IsEndOf, Steps, nodes_of, walk_end}
use Rattle.rart_walks.specs.declared.walk_back.WalkBack.{WalkBack}

-- `partial` is what is known of prefixes, which the type takes for a ghost field
module _ {P V T : Type 0} {partial : _} (holds : T → List (List ℕ) → Type 0)
    (greatest : Option ℕ) where
  -- The walk has nothing left, and no node open.
  pub record HasNothing (it : WalkBack P V T partial) : Type 0 where
    pub walk : IsWalkBack holds greatest it
    pub ended : back_cursor it ≡ walk_end
    pub frames : open_back it.frames.items ≡ []
    pub leaf : it.leaf ≡ None

  -- A walk back over a whole tree, whose root was entered: all its pairs are left, and all other
  -- nodes.
  pub record StartsWhole {E : Type 0} (result : Result (WalkBack P V T partial) E) (s : Shape V)
      (start now : Counts) : Type 0 where
    pub walk : IfOk result (IsWalkBack holds greatest)
    pub pairs : IfOk result (λ it. (back_cursor it).pairs ≡ reverse (pairs_of s))
    pub nodes : IfOk result (λ it. length (back_cursor it).paths + 1 ≡ nodes_of s)
    pub paths : IfOk result (λ it. IsEndOf (back_cursor it).paths (back_paths_of s))
    pub work : now ≡ record start { entered = start.entered + 1 }
    pub at_hand : IfOk result (λ it. at_hand it ≤ 1)

  -- The walk goes on to the next node. What it enters is what the nodes that are left fall by, one
  -- at most. Refused, it has ended.
  pub record StepsOn {E : Type 0} (before : WalkBack P V T partial)
      (result : Result (Option (Option (Bor V))) E) (after : WalkBack P V T partial)
      (start now : Counts) : Type 0 where
    pub walk : IsWalkBack holds greatest after
    pub steps : IfOk result (λ value. Steps (back_cursor before) value (back_cursor after))
    pub refused : OnErr result (back_cursor after ≡ walk_end)
    pub entered : OnOk result (now.entered + length (back_cursor after).paths
        ≡ start.entered + length (back_cursor before).paths)
    pub counted : CountsUpTo (length (back_cursor before).paths) 0 start now
    pub one : CountsUpTo 1 0 start now
    pub each : OnOk result (EntersForEach before start after now)

  -- The walk gives the next value. What it enters is what the nodes that are left fall by. Refused,
  -- it has ended.
  pub record GivesNext {E : Type 0} (before : WalkBack P V T partial)
      (result : Result (Option (Bor V)) E) (after : WalkBack P V T partial) (start now : Counts)
      : Type 0 where
    pub walk : IsWalkBack holds greatest after
    pub gives : IfOk result (λ value. Gives (back_cursor before) value (back_cursor after))
    pub refused : OnErr result (back_cursor after ≡ walk_end)
    pub entered : OnOk result (now.entered + length (back_cursor after).paths
        ≡ start.entered + length (back_cursor before).paths)
    pub counted : CountsUpTo (length (back_cursor before).paths) 0 start now
    pub each : OnOk result (EntersForEach before start after now)

-- What the calls of a walk do: where it starts, how it goes on, and where it ends.
use Rattle.std.specs.Prelude.{◌≡◌, ◌+◌, ◌<◌, ◌≤◌, ℕ, Bool, List, [], Option, None, IsSome, Result, IfOk, OnOk, OnErr, count_by, filter, length}
use Rattle.std.specs.Borrow.{Bor}
use Rattle.rart_node.specs.Counts.{Counts, CountsUpTo}
use Rattle.rart_node.specs.Shape.{Shape}
use Rattle.rart_node.specs.Trees.{pairs_of}
use Rattle.rart_walks.specs.WalkFields.{frames_of, cursor, at_hand, IsWalk, EntersForEach, path_to}
use Rattle.rart_walks.specs.Walks.{Gives, IsEndOf, PassesTo, Steps, nodes_of, paths_of, walk_end}
use Rattle.rart_walks.specs.declared.walk.Walk.{Walk}

-- `partial` is what is known of prefixes, which the type takes for a ghost field
module _ {P V T : Type 0} {partial : _} (holds : T → List (List ℕ) → Type 0)
    (extent : List (List ℕ) → ℕ) (greatest : Option ℕ) where
  -- The walk has nothing left, and no node open.
  pub record HasNothing (it : Walk P V T partial) : Type 0 where
    pub walk : IsWalk holds extent greatest it
    pub ended : cursor it ≡ walk_end
    pub frames : frames_of it ≡ []
    pub below : it.below.segments ≡ []
    pub pending : it.pending ≡ None

  -- A walk over a whole tree, whose root was entered: all its pairs are left, and all other nodes.
  pub record StartsWhole {E : Type 0} (result : Result (Walk P V T partial) E) (s : Shape V)
      (start now : Counts) : Type 0 where
    pub walk : IfOk result (IsWalk holds extent greatest)
    pub pairs : IfOk result (λ it. (cursor it).pairs ≡ pairs_of s)
    pub nodes : IfOk result (λ it. length (cursor it).paths + 1 ≡ nodes_of s)
    pub paths : IfOk result (λ it. IsEndOf (cursor it).paths (paths_of s))
    pub work : now ≡ record start { entered = start.entered + 1 }

  -- A walk over the pairs of a tree whose keys pass a test: the nodes that are left have paths that
  -- pass another. On the way to the first, at most `most` nodes were entered, and one at least.
  pub record StartsWithin {E : Type 0} (result : Result (Walk P V T partial) E)
      (keeps reaches : List ℕ → Bool) (most : ℕ) (s : Shape V) (start now : Counts) : Type 0 where
    pub walk : IfOk result (IsWalk holds extent greatest)
    pub pairs : IfOk result (λ it. (cursor it).pairs
        ≡ filter (λ pair. keeps pair.0) (pairs_of s))
    pub nodes : IfOk result (λ it. length (cursor it).paths ≤ count_by reaches (paths_of s))
    pub paths : IfOk result (λ it. IsEndOf (cursor it).paths (filter reaches (paths_of s)))
    pub counted : CountsUpTo most 0 start now
    pub entered : start.entered < now.entered
    pub at_hand : IfOk result (λ it. start.entered + at_hand it ≤ now.entered)

  -- The walk goes on to the next node. What it enters is what the nodes that are left fall by, one
  -- at most. Refused, it has ended.
  pub record StepsOn {E : Type 0} (before : Walk P V T partial)
      (result : Result (Option (Option (Bor V))) E) (after : Walk P V T partial)
      (start now : Counts) : Type 0 where
    pub walk : IsWalk holds extent greatest after
    pub steps : IfOk result (λ value. Steps (cursor before) value (cursor after))
    pub refused : OnErr result (cursor after ≡ walk_end)
    pub entered : OnOk result (now.entered + length (cursor after).paths
        ≡ start.entered + length (cursor before).paths)
    pub counted : CountsUpTo (length (cursor before).paths) 0 start now
    pub one : CountsUpTo 1 0 start now
    pub each : OnOk result (EntersForEach before start after now)

  -- The walk gives the next value. What it enters is what the nodes that are left fall by: each is
  -- on the way to the key. Refused, it has ended.
  pub record GivesNext {E : Type 0} (before : Walk P V T partial)
      (result : Result (Option (Bor V)) E) (after : Walk P V T partial) (start now : Counts)
      : Type 0 where
    pub walk : IsWalk holds extent greatest after
    pub gives : IfOk result (λ value. Gives (cursor before) value (cursor after))
    pub refused : OnErr result (cursor after ≡ walk_end)
    pub entered : OnOk result (now.entered + length (cursor after).paths
        ≡ start.entered + length (cursor before).paths)
    pub counted : CountsUpTo (length (cursor before).paths) 0 start now
    pub each : OnOk result (EntersForEach before start after now)
    pub on_way : IfOk result (λ value. IsSome value → PassesTo (path_to after)
        (cursor before).paths (cursor after).paths)

-- What the fields of a walk from change to change mean, and what it gives.
use Rattle.std.specs.Prelude.{◌≡◌, ◌⊎◌, ℕ, ◌+◌, Bool, List, [], ◌∷◌, Option, Some, None, IsSome, if◌then◌else◌, ⊤}
use Rattle.std.specs.Borrow.{Bor}
use Rattle.std.specs.Option.{option_copied}
use Rattle.rart_maps.specs.ChangeLists.{Change}
use Rattle.rart_walks.specs.declared.diff.changes.ChangeWalk.{ChangeWalk}
use Rattle.rart_walks.specs.Diffs.{Leads, changes_between}
use Rattle.rart_walks.specs.DiffEnds.{pairs_from}
use Rattle.rart_walks.specs.Passes.{GoesTo, GoesOnTo, IsLeft}
use Rattle.rart_walks.specs.SideFields.{IsSide, key_at, pairs_to_give, paths_left, nodes_left, pairs_at_hand}

-- `partial` is what is known of prefixes, which the types take for a ghost field
module _ {P V : Type 0} {partial : _} where
  -- the changes that are left
  abbrev pub changes_left : (V → V → Bool) → ChangeWalk P V partial → List (Change V)
  changes_left same walk =
      changes_between same (pairs_to_give walk.before) (pairs_to_give walk.after)

  -- the key that was given last
  abbrev pub key_given : ChangeWalk P V partial → List ℕ
  key_given walk = if walk.is_before then key_at walk.before else key_at walk.after

  -- how many nodes are left to enter
  abbrev pub nodes_to_enter : ChangeWalk P V partial → ℕ
  nodes_to_enter walk = nodes_left walk.before + nodes_left walk.after

  -- how many pairs of both are given before a node is entered
  abbrev pub hands : ChangeWalk P V partial → ℕ
  hands walk = pairs_at_hand walk.before + pairs_at_hand walk.after

  pub record IsChangeWalk (walk : ChangeWalk P V partial) : Type 0 where
    pub before : IsSide walk.before
    pub after : IsSide walk.after

  -- The next key of either side was taken, with what both have there, or there was none, and all
  -- nodes are entered.
  abbrev pub TakesKey : ChangeWalk P V partial → ChangeWalk P V partial →
      Option (Option (Bor V) × Option (Bor V)) → Type 0
  TakesKey start next None =
      (pairs_to_give start.before ≡ []) × (pairs_to_give start.after ≡ [])
      × (nodes_to_enter next ≡ 0)
  TakesKey start next (Some values) =
      Leads (key_given next) (option_copied values.0)
      (pairs_to_give start.before) (pairs_to_give next.before)
      × Leads (key_given next) (option_copied values.1)
      (pairs_to_give start.after) (pairs_to_give next.after)
      × (IsSome values.0 ⊎ IsSome values.1)

  -- The first change was given, or there was none, and all nodes are entered.
  abbrev pub GivesChange : (V → V → Bool) → ChangeWalk P V partial → ChangeWalk P V partial →
      Option (Option (Bor V) × Option (Bor V)) → Type 0
  GivesChange same start next None =
      (changes_left same start ≡ []) × (nodes_to_enter next ≡ 0)
  GivesChange same start next (Some values) = changes_left same start
      ≡ (key_given next, option_copied values.0, option_copied values.1)
      ∷ changes_left same next

  -- It has gone on: whichever key is left then, from it on nothing is gone.
  pub record GoesFurther (old new : ChangeWalk P V partial) : Type 0 where
    pub before : GoesOnTo (pairs_to_give old.before) (paths_left old.before)
        (pairs_to_give new.before) (paths_left new.before)
    pub after : GoesOnTo (pairs_to_give old.after) (paths_left old.after)
        (pairs_to_give new.after) (paths_left new.after)
    pub still : (key : List ℕ) → IsLeft key (pairs_to_give new.before) (pairs_to_give new.after)
        → IsLeft key (pairs_to_give old.before) (pairs_to_give old.after)
        × (pairs_from key (pairs_to_give old.before) ≡ pairs_from key (pairs_to_give new.before))
        × (pairs_from key (pairs_to_give old.after) ≡ pairs_from key (pairs_to_give new.after))

  -- A key was left, and both sides have come to it.
  pub record ComesTo (key : List ℕ) (old new : ChangeWalk P V partial) : Type 0 where
    pub left : IsLeft key (pairs_to_give old.before) (pairs_to_give old.after)
    pub before : GoesTo (pairs_from key (pairs_to_give old.before)) (paths_left old.before)
        (paths_left new.before)
    pub after : GoesTo (pairs_from key (pairs_to_give old.after)) (paths_left old.after)
        (paths_left new.after)

  -- It has gone on, to the key of the change that it gave, if it gave one.
  abbrev pub ComesToChange : ChangeWalk P V partial → ChangeWalk P V partial →
      Option (Option (Bor V) × Option (Bor V)) → Type 0
  ComesToChange old new None = ⊤
  ComesToChange old new (Some values) = GoesFurther old new × ComesTo (key_given new) old new

-- Two sides that began with one map: where they are in conflict, and their merge.
use Rattle.std.specs.Prelude.{ℕ, List, Option, Some, None, Bool, ◌&&◌, map, if◌then◌else◌}
use Rattle.std.specs.List.{filter_map}
use Rattle.std.specs.FinMap as finite
use Rattle.rart_maps.specs.Versions.{Map}
use Rattle.rart_maps.specs.ChangeLists.{Change, patched, differ, changes}

-- a key that both sides changed, and not to the same: with what the base has there, what ours has
-- and what theirs has
abbrev pub Conflict : Type 0 → Type 0
Conflict V = List ℕ × Option V × Option V × Option V

-- what a key in conflict is to have, by the key and what the three have there
abbrev pub Answers : Type 0 → Type 0
Answers V = List ℕ → Option V → Option V → Option V → Option V

module _ {V : Type 0} where
  -- the conflict as the other side sees it
  abbrev pub exchanged : Conflict V → Conflict V
  exchanged conflict = (conflict.0, conflict.1, conflict.3, conflict.2)

  -- the change of our side that gives a key in conflict its answer
  abbrev pub answered : Answers V → Conflict V → Change V
  answered answers conflict =
      (conflict.0, conflict.2, answers conflict.0 conflict.1 conflict.2 conflict.3)

-- `same` tells whether two values are the same.
module _ {V : Type 0} (same : V → V → Bool) where
  abbrev pub in_conflict : Option V → Option V → Option V → Bool
  in_conflict base ours theirs =
      differ same base ours && (differ same base theirs && differ same ours theirs)

  -- the conflict at a change of our side, by what theirs has at the key, if there is one
  abbrev pub conflict_of : Change V → Option V → Option (Conflict V)
  conflict_of change theirs =
      if in_conflict change.1 change.2 theirs then Some (change.0, change.1, change.2, theirs)
      else None

  -- each key in conflict, strictly ascending
  abbrev pub conflicts : Map V → Map V → Map V → List (Conflict V)
  conflicts base ours theirs =
      filter_map (λ change. conflict_of change (finite.get theirs change.0))
      (changes same base ours)

  -- ours with the changes of theirs made, and each conflict answered
  abbrev pub merged : Answers V → Map V → Map V → Map V → Map V
  merged answers base ours theirs =
      patched (patched ours (changes same base theirs))
      (map (answered answers) (conflicts base ours theirs))

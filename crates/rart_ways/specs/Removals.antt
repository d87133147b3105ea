-- What a removal asks of a tree, what it makes of the tree and the counts, and how far counts may
-- rise before and after a plan is made.
use Rattle.std.specs.Prelude.{◌≡◌, ℕ, ◌+◌, ◌≤◌, Bool, true, false, List, [], Option, None, IsSome, length, if◌then◌else◌}
use Rattle.std.specs.Str.{bytes_eq}
use Rattle.rart_below.specs.Bytes.{IsAdmitted}
use Rattle.rart_node.specs.Counts.{Counts}
use Rattle.rart_node.specs.Shape.{Shape, value_of, children_of}
use Rattle.rart_node.specs.Trees.{IsTaken, found}

module _ {V : Type 0} where
  -- Each key is as long as a prefix may be.
  abbrev pub AreAdmitted : Option ℕ → Shape V → Type 0
  AreAdmitted most s = (key : List ℕ) → IsSome (found s key) → IsAdmitted most (length key)

  -- Where there was no other key, the root is left with no value and no child, and else without
  -- this key alone.
  abbrev pub IsTakenOr : Bool → List ℕ → Shape V → Shape V → Type 0
  IsTakenOr true key before after =
      (value_of after ≡ None) × (children_of after ≡ [])
      × ((q : List ℕ) → (if bytes_eq q key then None else found before q) ≡ None)
  IsTakenOr false key before after = IsTaken key before after

-- From the counts before to those after, at most `entered` nodes were entered and `made` made,
-- where `later` of both are still to come.
pub record CountsLeaving (later entered made : ℕ) (before after : Counts) : Type 0 where
  pub entered_grows : before.entered ≤ after.entered
  pub entered_at_most : after.entered + later ≤ before.entered + entered
  pub made_grows : before.made ≤ after.made
  pub made_at_most : after.made + later ≤ before.made + made

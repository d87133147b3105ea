-- A step of the way down two trees at once: how many nodes are entered.
use Rattle.std.specs.Prelude.{◌≡◌, ◌+◌, ◌*◌, ◌≤◌, ℕ, true, List, ◌++◌, Contains, take}
use Rattle.std.specs.FinSet as set
use Rattle.rart_below.specs.Bytes.{begins, common_length}
use Rattle.rart_maps.specs.Pairs.{Strings}
use Rattle.rart_maps.specs.StartLaws.{strings_under}
use Rattle.rart_node.specs.Counts.{Counts}
use Rattle.rart_node.specs.Shape.{Shape, prefix_of}
use Rattle.rart_node.specs.Trees.{pairs_of}

-- the longest common prefix of two strings
abbrev pub common_start : List ℕ → List ℕ → List ℕ
common_start u w = take (common_length u w) u

module _ {V : Type 0} where
  -- Behind the bytes above, each string that begins a key of both lists is in the set.
  abbrev pub HasShared : Strings → List ℕ → Shape V → Shape V → Type 0
  HasShared strings above left right =
      (one other : List ℕ × V) → Contains (pairs_of left) one → Contains (pairs_of right) other →
      (u : List ℕ) → begins u one.0 ≡ true → begins u other.0 ≡ true →
      set.contains strings (above ++ u) ≡ true

  -- Nodes were entered: two for each string of the set that begins with what both have in common,
  -- and two less for the nodes at which the step started.
  abbrev pub EntersBelow : Shape V → Shape V → Counts → Counts → Type 0
  EntersBelow left right before after =
      (before.entered ≤ after.entered) × (after.made ≡ before.made)
      × ((strings : Strings) (above : List ℕ) → HasShared strings above left right →
      after.entered + 2 ≤ before.entered + 2 * set.len
      (strings_under strings (above ++ common_start (prefix_of left) (prefix_of right))))

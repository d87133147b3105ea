-- Which nodes a diff has entered where it ends on a change.
use Rattle.std.specs.Prelude.{◌≡◌, ◌+◌, ◌≤◌, ℕ, Bool, true, List, [], ◌∷◌, count_by, filter, length}
use Rattle.std.specs.Ordering.{is_le}
use Rattle.rart_below.specs.Bytes.{byte_order}
use Rattle.rart_maps.specs.ChangeLists.{Change}
use Rattle.rart_node.specs.Counts.{Counts, CountsUpTo}
use Rattle.rart_walks.specs.WalkFields.{cursor, at_hand}
use Rattle.rart_walks.specs.declared.walk.Walk.{Walk}
use Rattle.rart_walks.specs.TwoWalks.{nodes_ahead}

module _ {V : Type 0} where
  -- the pairs from a key on
  abbrev pub pairs_from : List ℕ → List (List ℕ × V) → List (List ℕ × V)
  pairs_from key pairs = filter (λ pair. is_le (byte_order key pair.0)) pairs

  -- whether a string is not behind the first of these keys, where there is one
  abbrev pub is_up_to_first : List (List ℕ × V) → List ℕ → Bool
  is_up_to_first [] string = true
  is_up_to_first (first ∷ pairs) string = is_le (byte_order string first.0)

-- `partial` is what is known of prefixes, which the types take for a ghost field
module _ {P V : Type 0} {partial : _} where
  -- how many nodes a walk has left up to its first key from this one on
  abbrev pub nodes_to : List ℕ → Walk P V (List ℕ) partial → ℕ
  nodes_to key walk =
      count_by (is_up_to_first (pairs_from key (cursor walk).pairs)) (cursor walk).paths

  -- A diff of what these walks have left ends on the last of these changes: no node is entered that
  -- is behind the first key of its tree from there on. One at least is for each of the changes, but
  -- for those at hand.
  pub record EntersTo (old new : Walk P V (List ℕ) partial) (before after : Counts)
      (front : List (Change V)) (last : Change V) : Type 0 where
    pub at_most : CountsUpTo (nodes_to last.0 old + nodes_to last.0 new) 0 before after
    pub at_least : before.entered + (length front + 1)
        ≤ after.entered + (at_hand old + at_hand new)

  -- The first of the changes was looked for: all nodes are entered where there is none.
  abbrev pub EntersToFirst : Walk P V (List ℕ) partial → Walk P V (List ℕ) partial → Counts
      → Counts → List (Change V) → Type 0
  EntersToFirst old new before after [] =
      after.entered ≡ before.entered + nodes_ahead old new
  EntersToFirst old new before after (first ∷ changes) = EntersTo old new before after [] first

-- What a call that makes a walk back over a tree tells: what the walk has left, and the nodes
-- entered.
use Rattle.std.specs.Prelude.{◌≡◌, ◌+◌, ◌*◌, ◌<◌, ◌≤◌, ℕ, false, List, Option, Result, IfOk, count_by, filter, length, reverse}
use Rattle.std.specs.Ordering.{as_partial_cmp}
use Rattle.std.specs.Range.Bound.{is_up_to_end}
use Rattle.std.specs.declared.ops.Bound.{Bound}
use Rattle.std.specs.declared.ops.Bound.TheVariants.{Included, Unbounded}
use Rattle.rart_below.specs.Bytes.{byte_order}
use Rattle.rart_maps.specs.Bounds.{bound_length, node_count}
use Rattle.rart_maps.specs.Pairs.{pairs, under, within}
use Rattle.rart_maps.specs.Versions.{Version, has_no_key}
use Rattle.rart_node.specs.Counts.{Counts, CountsUpTo}
use Rattle.rart_walks.specs.BackFields.{IsWalkBack, at_hand, back_cursor}
use Rattle.rart_walks.specs.Descending.{leads_from}
use Rattle.rart_walks.specs.declared.walk_back.WalkBack.{WalkBack}
use Rattle.rart_versioned.specs.TreeWalks.{AreAdmitted}

-- `most` is how long a key may be, and `partial` what is known of prefixes, which the type takes
-- for a ghost field. One node at least is entered where the version has a key, and none is made.
module _ {P V T E : Type 0} {partial : _} (holds : T → List (List ℕ) → Type 0)
    (greatest most : Option ℕ) (v : Version V) (result : Result (WalkBack P V T partial) E)
    (start now : Counts) where
  -- A walk back over all pairs: one node is entered at most, and the walk has the others left. Of
  -- them those that lead to keys from a string on are few.
  pub record WalksAllBack : Type 0 where
    pub walk : IfOk result (IsWalkBack holds greatest)
    pub pairs : IfOk result (λ walk. (back_cursor walk).pairs ≡ reverse (pairs v.content))
    pub admitted : IfOk result (λ walk. AreAdmitted most (back_cursor walk).pairs)
    pub nodes : IfOk result (λ walk. now.entered + length (back_cursor walk).paths
        ≡ start.entered + node_count v.content)
    pub few : IfOk result (λ walk. (key : List ℕ)
        → count_by (leads_from key) (back_cursor walk).paths
        ≤ length key + 1 + 2 * length (within v.content (Included key) Unbounded))
    pub counted : CountsUpTo (node_count v.content) 0 start now
    pub one : CountsUpTo 1 0 start now
    pub entered : has_no_key v ≡ false → start.entered < now.entered
    pub at_hand : IfOk result (λ walk. start.entered + at_hand walk ≤ now.entered)

  -- A walk back over the pairs whose key a prefix begins: the nodes down to the prefix are entered.
  pub record WalksUnderBack (prefix : List ℕ) : Type 0 where
    pub walk : IfOk result (IsWalkBack holds greatest)
    pub pairs : IfOk result (λ walk. (back_cursor walk).pairs ≡ reverse (under v.content prefix))
    pub admitted : IfOk result (λ walk. AreAdmitted most (back_cursor walk).pairs)
    pub counted : CountsUpTo (length prefix + 1) 0 start now
    pub entered : has_no_key v ≡ false → start.entered < now.entered

  -- A walk back over the pairs whose key meets an upper bound: the nodes down to the bound are
  -- entered.
  pub record WalksTo (high : Bound (List ℕ)) : Type 0 where
    pub walk : IfOk result (IsWalkBack holds greatest)
    pub pairs : IfOk result (λ walk. (back_cursor walk).pairs ≡ reverse
        (filter (λ pair. is_up_to_end (as_partial_cmp byte_order) high pair.0) (pairs v.content)))
    pub admitted : IfOk result (λ walk. AreAdmitted most (back_cursor walk).pairs)
    pub counted : CountsUpTo (bound_length high + 1) 0 start now
    pub entered : has_no_key v ≡ false → start.entered < now.entered

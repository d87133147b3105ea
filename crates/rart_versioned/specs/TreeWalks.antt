-- What a call that makes a walk over a tree tells: what the walk has left, and the nodes entered.
use Rattle.std.specs.Prelude.{◌≡◌, ◌+◌, ◌*◌, ◌<◌, ◌≤◌, ◌^◌, ℕ, Bool, false, All, List, [], Option, None, Result, IfOk, OnErr, count_by, filter, length}
use Rattle.std.specs.Ordering.{as_partial_cmp}
use Rattle.std.specs.Range.Bound.{is_from_start, is_up_to_end}
use Rattle.std.specs.declared.ops.Bound.{Bound}
use Rattle.std.specs.declared.ops.Bound.TheVariants.{Included}
use Rattle.rart_below.specs.Bytes.{IsAdmitted, byte_order}
use Rattle.rart_maps.specs.ChangeLists.{changes}
use Rattle.rart_walks.specs.Diffs.{changes_between}
use Rattle.rart_walks.specs.DiffEnds.{pairs_from, is_up_to_first}
use Rattle.rart_maps.specs.Bounds.{bound_length, reach_bound, reach_by_pairs, node_count}
use Rattle.rart_maps.specs.FoundLaws.{KeysAscend}
use Rattle.rart_maps.specs.Pairs.{pairs, under, within}
use Rattle.rart_maps.specs.Versions.{Version, has_no_key}
use Rattle.rart_node.specs.Counts.{Counts, CountsUpTo}
use Rattle.rart_versioned.specs.VisitCounts.{node_count_to}
use Rattle.rart_node.specs.KeyPaths.{HoldsBytes, extent_in_bytes}
use Rattle.rart_walks.specs.WalkFields.{IsWalk, cursor, at_hand}
use Rattle.rart_walks.specs.declared.walk.Walk.{Walk}

-- A key path of this greatest length keeps the way to any key.
abbrev pub KeepsKeys : Option ℕ → Type 0
KeepsKeys greatest = (count : ℕ) → count < 2 ^ 64 → IsAdmitted greatest count

-- A key can be made of each.
abbrev pub AreAdmitted : {V : Type 0} → Option ℕ → List (List ℕ × V) → Type 0
AreAdmitted most pairs = All (λ pair. IsAdmitted most (length pair.0)) pairs

-- `most` is how long a key may be, and `partial` what is known of prefixes, which the type takes
-- for a ghost field. One node at least is entered where the version has a key, and none is made.
module _ {P V T E : Type 0} {partial : _} (holds : T → List (List ℕ) → Type 0)
    (extent : List (List ℕ) → ℕ) (greatest most : Option ℕ) (v : Version V)
    (result : Result (Walk P V T partial) E) (start now : Counts) where
  -- A walk over all pairs: one node is entered at most, and the walk has the others left, of which
  -- those up to a bound are few.
  pub record WalksAll : Type 0 where
    pub walk : IfOk result (IsWalk holds extent greatest)
    pub pairs : IfOk result (λ walk. (cursor walk).pairs ≡ pairs v.content)
    pub admitted : IfOk result (λ walk. AreAdmitted most (cursor walk).pairs)
    pub nodes : IfOk result (λ walk. now.entered + length (cursor walk).paths
        ≡ start.entered + node_count v.content)
    pub few_up_to : IfOk result (λ walk. (high : Bound (List ℕ))
        → count_by (is_up_to_end (as_partial_cmp byte_order) high) (cursor walk).paths
        ≤ bound_length high + 1 + 2 * length (within v.content (Included []) high))
    pub counted : CountsUpTo (node_count v.content) 0 start now
    pub to : IfOk result (λ walk. (key : List ℕ) → now.entered
        + count_by (is_up_to_first (pairs_from key (cursor walk).pairs)) (cursor walk).paths
        ≤ start.entered + node_count_to v.content key)
    pub one : CountsUpTo 1 0 start now
    pub entered : has_no_key v ≡ false → start.entered < now.entered
    pub at_hand : IfOk result (λ walk. start.entered + at_hand walk ≤ now.entered)
    pub refused : OnErr result (start.entered < now.entered)

  -- A walk over the pairs whose key a prefix begins: the nodes down to the prefix are entered, and
  -- the walk has left those below it, of which those up to a bound are few.
  pub record WalksUnder (prefix : List ℕ) : Type 0 where
    pub walk : IfOk result (IsWalk holds extent greatest)
    pub pairs : IfOk result (λ walk. (cursor walk).pairs ≡ under v.content prefix)
    pub admitted : IfOk result (λ walk. AreAdmitted most (cursor walk).pairs)
    pub nodes : IfOk result (λ walk. length prefix + 1 + length (cursor walk).paths
        ≤ reach_bound v.content prefix)
    pub few : IfOk result (λ walk. length prefix + 1 + length (cursor walk).paths
        ≤ reach_by_pairs v.content prefix)
    pub few_up_to : IfOk result (λ walk. (high : Bound (List ℕ))
        → count_by (is_up_to_end (as_partial_cmp byte_order) high) (cursor walk).paths
        ≤ bound_length high + 1 + 2 * length (within v.content (Included prefix) high))
    pub counted : CountsUpTo (length prefix + 1) 0 start now
    pub entered : has_no_key v ≡ false → start.entered < now.entered
    pub at_hand : IfOk result (λ walk. start.entered + at_hand walk ≤ now.entered)

  -- A walk over the pairs whose key meets a lower bound: the nodes down to the bound are entered,
  -- and of those that the walk has left the ones up to an upper bound are few.
  pub record WalksFrom (low : Bound (List ℕ)) : Type 0 where
    pub walk : IfOk result (IsWalk holds extent greatest)
    pub pairs : IfOk result (λ walk. (cursor walk).pairs
        ≡ filter (λ pair. is_from_start (as_partial_cmp byte_order) low pair.0) (pairs v.content))
    pub admitted : IfOk result (λ walk. AreAdmitted most (cursor walk).pairs)
    pub few : IfOk result (λ walk. (high : Bound (List ℕ))
        → count_by (is_up_to_end (as_partial_cmp byte_order) high) (cursor walk).paths
        ≤ bound_length high + 2 * length (within v.content low high))
    pub counted : CountsUpTo (bound_length low + 1) 0 start now
    pub entered : has_no_key v ≡ false → start.entered < now.entered
    pub at_hand : IfOk result (λ walk. start.entered + at_hand walk ≤ now.entered)

-- Walks over two versions, whose changes are those from the one to the other. `partial` is what is
-- known of prefixes, which the type takes for a ghost field.
pub record AreWalks {P V : Type 0} {partial : _} (same : V → V → Bool)
    (most : Option ℕ) (v w : Version V) (old new : Walk P V (List ℕ) partial) : Type 0 where
  pub old_walk : IsWalk HoldsBytes extent_in_bytes None old
  pub new_walk : IsWalk HoldsBytes extent_in_bytes None new
  pub old_ascends : KeysAscend (λ pair. pair.0) (cursor old).pairs
  pub new_ascends : KeysAscend (λ pair. pair.0) (cursor new).pairs
  pub old_admitted : AreAdmitted most (cursor old).pairs
  pub new_admitted : AreAdmitted most (cursor new).pairs
  pub changes_are : changes_between same (cursor old).pairs (cursor new).pairs
      ≡ changes same v.content w.content

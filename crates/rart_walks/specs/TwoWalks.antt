-- Two walks that go on together, from key to key of either, and what both have left.
use Rattle.std.specs.Prelude.{ℕ, ◌+◌, Bool, List, None, length}
use Rattle.rart_maps.specs.ChangeLists.{Change}
use Rattle.rart_maps.specs.FoundLaws.{KeysAscend}
use Rattle.rart_node.specs.KeyPaths.{HoldsBytes, extent_in_bytes}
use Rattle.rart_walks.specs.WalkFields.{IsWalk, cursor}
use Rattle.rart_walks.specs.declared.walk.Walk.{Walk}
use Rattle.rart_walks.specs.Diffs.{changes_between}

-- `partial` is what is known of prefixes, which the types take for a ghost field
module _ {P V : Type 0} {partial : _} where
  -- The walk keeps the bytes of its key, and the keys that it has left ascend.
  pub record Ascends (given : Walk P V (List ℕ) partial) : Type 0 where
    pub walk : IsWalk HoldsBytes extent_in_bytes None given
    pub ascends : KeysAscend (λ pair. pair.0) (cursor given).pairs

  -- Two walks can go on together, since the keys of either ascend.
  pub record GoTogether (before after : Walk P V (List ℕ) partial) : Type 0 where
    pub old : Ascends before
    pub new : Ascends after

  -- the changes from the pairs that the one has left to those of the other
  abbrev pub changes_ahead : (V → V → Bool) → Walk P V (List ℕ) partial
      → Walk P V (List ℕ) partial → List (Change V)
  changes_ahead same old new =
      changes_between same (cursor old).pairs (cursor new).pairs

  -- how many nodes both have left to enter
  abbrev pub nodes_ahead : Walk P V (List ℕ) partial → Walk P V (List ℕ) partial → ℕ
  nodes_ahead old new = length (cursor old).paths + length (cursor new).paths

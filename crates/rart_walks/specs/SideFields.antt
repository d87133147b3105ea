-- What the fields of a side mean, and which of two comes first.
use Rattle.std.specs.Prelude.{◌≡◌, ℕ, ◌+◌, List, [], ◌++◌, Option, Some, None, IsSome, length, if◌then◌else◌}
use Rattle.std.specs.Option.{is_some, option_copied}
use Rattle.std.specs.declared.cmp.Ordering.{Ordering}
use Rattle.std.specs.declared.cmp.Ordering.TheVariants.{Less, Equal, Greater}
use Rattle.rart_maps.specs.FoundLaws.{KeysAscend}
use Rattle.rart_node.specs.KeyPaths.{HoldsBytes, extent_in_bytes}
use Rattle.rart_walks.specs.Walks.{pending_pair}
use Rattle.rart_walks.specs.WalkFields.{IsWalk, path_to, cursor, at_hand}
use Rattle.rart_walks.specs.declared.walk.Walk.{Walk}
use Rattle.rart_walks.specs.declared.diff.side.Side.{Side}
use Rattle.rart_walks.specs.Diffs.{AreBehind}

-- `partial` is what is known of prefixes, which the types take for a ghost field
module _ {P V : Type 0} {partial : _} where
  -- the key that a side stands at
  abbrev pub key_at : Side P V partial → List ℕ
  key_at side = path_to side.walk

  -- the pairs that are left to give, that of this key first
  abbrev pub pairs_to_give : Side P V partial → List (List ℕ × V)
  pairs_to_give side =
      pending_pair (key_at side) (option_copied side.value) ++ (cursor side.walk).pairs

  -- the paths of the nodes that are left to enter
  abbrev pub paths_left : Side P V partial → List (List ℕ)
  paths_left side = (cursor side.walk).paths

  -- how many nodes are left to enter
  abbrev pub nodes_left : Side P V partial → ℕ
  nodes_left side = length (paths_left side)

  -- how many pairs are given before a node is entered
  abbrev pub pairs_at_hand : Side P V partial → ℕ
  pairs_at_hand side = (if is_some side.value then 1 else 0) + at_hand side.walk

  -- Its walk keeps the bytes of its key, and the keys that are left ascend.
  pub record IsSide (side : Side P V partial) : Type 0 where
    pub walk : IsWalk HoldsBytes extent_in_bytes None side.walk
    pub ascends : KeysAscend (λ pair. pair.0) (pairs_to_give side)

  -- It stands at the first of the pairs that are left, if there is one, and else has entered all
  -- nodes.
  pub record IsAtFirst (it : Side P V partial) : Type 0 where
    pub side : IsSide it
    pub at_key : it.value ≡ None → (cursor it.walk).pairs ≡ []
    pub through : it.value ≡ None → nodes_left it ≡ 0

  -- Which side has the first key: the old one, both, or the new one; or there is none.
  abbrev pub ComesFirst : Side P V partial → Side P V partial → Option Ordering → Type 0
  ComesFirst old new None = (pairs_to_give old ≡ []) × (pairs_to_give new ≡ [])
  ComesFirst old new (Some Less) = IsSome old.value × AreBehind (key_at old) (pairs_to_give new)
  ComesFirst old new (Some Equal) =
      IsSome old.value × IsSome new.value × (key_at old ≡ key_at new)
  ComesFirst old new (Some Greater) = IsSome new.value × AreBehind (key_at new) (pairs_to_give old)

  -- It has left what the walk has.
  pub record HasLeft (walk : Walk P V (List ℕ) partial) (made : Side P V partial) : Type 0 where
    pub side : IsSide made
    pub pairs : pairs_to_give made ≡ (cursor walk).pairs
    pub paths : paths_left made ≡ (cursor walk).paths
    pub hand : pairs_at_hand made ≡ at_hand walk

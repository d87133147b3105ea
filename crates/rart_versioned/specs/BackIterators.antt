-- What an iterator back over a tree has left, by the walk that it goes on with, or the lack of one.
use Rattle.std.specs.Prelude.{ℕ, List, Option, None}
use Rattle.std.specs.Option.{option_map}
use Rattle.rart_walks.specs.BackFields.{IsWalkBack, back_cursor}
use Rattle.rart_node.specs.KeyPaths.{HoldsBytes}
use Rattle.rart_walks.specs.declared.walk_back.WalkBack.{WalkBack}
use Rattle.rart_versioned.specs.TreeWalks.{AreAdmitted}

module _ {P V : Type 0} {partial : _} where
  module _ {T : Type 0} where
    -- the pairs that are still to come
    abbrev pub pairs_back : Option (WalkBack P V T partial) → Option (List (List ℕ × V))
    pairs_back walk = option_map (λ walk. (back_cursor walk).pairs) walk

  -- A walk back that keeps the bytes of its keys, of each of which a key can be made.
  pub record IsKeyWalkBack (most : Option ℕ) (walk : WalkBack P V (List ℕ) partial) : Type 0 where
    pub walks : IsWalkBack HoldsBytes None walk
    pub admitted : AreAdmitted most (back_cursor walk).pairs

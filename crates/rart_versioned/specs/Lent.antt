-- References for writing: what a version becomes by what is left behind one.
use Rattle.std.specs.declared.cmp.Ordering.{Ordering}
use Rattle.std.specs.Prelude.{ℕ, Bool, List, Option, Result, Ok, Err}
use Rattle.std.specs.Option.{ghost_name_of}
use Rattle.std.specs.Borrow.{Fml, GName, MutBor, RattleType, LendsIfOk, follows_if}
use Rattle.std.specs.declared.clone.Clone.{Ghosts as Clones}
use mathlib.Core.Option as maybe
use Rattle.rart_below.specs.declared.partial.Partial.{Ghosts as Prefixes}
use Rattle.rart_maps.specs.Versions.{Version, with_key}
use Rattle.rart_versioned.specs.contracts.counted.tree.VersionedAdaptiveRadixTree.{the_row}

-- the name of the reference, if there is one
abbrev pub found_name : {A E : Type 0} → Result (Option (MutBor A)) E → maybe.Option GName
found_name (Ok found) = ghost_name_of found
found_name (Err error) = maybe.none

-- Over the rows of keys, values and prefixes, and the ghosts of their traits.
module _ (K V P : RattleType) (most : Option ℕ) (bytes : K.Denot → List ℕ)
    (eq : K.Denot → K.Denot → Bool) (cmp : K.Denot → K.Denot → Ordering)
    (partial_cmp : K.Denot → K.Denot → Option Ordering) (prefixes : Prefixes P.Denot)
    (clones : Clones V.Denot) where
  -- the row of trees of such keys, values and prefixes
  abbrev pub tree_row : RattleType
  tree_row =
      the_row K V P (record { MAXIMUM_SIZE = most; bytes = bytes }) (record { eq = eq })
      (record { cmp = cmp }) (record { partial_cmp = partial_cmp }) prefixes clones

  -- The version has the key set to the value as it was left behind the reference, and its number is
  -- one greater. Where there is no reference it stays.
  abbrev pub LendsValue : {E : Type 0} → MutBor (Version V.Denot) → List ℕ
      → Result (MutBor V.Denot) E → Fml
  LendsValue version w result =
      LendsIfOk tree_row V version result (λ left. with_key version.now w left 1) version.now

  -- the same where an absent key is no failure
  abbrev pub LendsFound : {E : Type 0} → MutBor (Version V.Denot) → List ℕ
      → Result (Option (MutBor V.Denot)) E → Fml
  LendsFound version w result =
      follows_if tree_row V version.ghost_name (found_name result)
      (λ left. with_key version.now w left 1) version.now

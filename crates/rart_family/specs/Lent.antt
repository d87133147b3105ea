-- References for writing: what a family becomes by what is left behind one.
use Rattle.std.specs.declared.cmp.Ordering.{Ordering}
use Rattle.std.specs.Prelude.{◌≡◌, ℕ, Bool, List, Option, Some, Result, slice_set}
use Rattle.std.specs.Borrow.{Fml, MutBor, RattleType, LendsSoOk}
use Rattle.std.specs.declared.clone.Clone.{Ghosts as Clones}
use Rattle.rart_below.specs.declared.partial.Partial.{Ghosts as Prefixes}
use Rattle.rart_maps.specs.Versions.{Version}
use Rattle.rart_versioned.specs.Lent.{tree_row}
use Rattle.rart_family.specs.Families.{Family, version_at}
use Rattle.rart_family.specs.contracts.family.Family as family

-- The place has the version as it was left. Where that is as it was, so is the family.
pub record IsLeftAt {V : Type 0} (f : Family V) (place : ℕ) (left : Version V) (after : Family V)
    : Type 0 where
  pub replaced : after ≡ slice_set f place (Some left)
  pub kept : version_at f place ≡ Some left → after ≡ f

-- Over the rows of keys, values and prefixes, and the ghosts of their traits.
module _ (K V P : RattleType) (most : Option ℕ) (bytes : K.Denot → List ℕ)
    (eq : K.Denot → K.Denot → Bool) (cmp : K.Denot → K.Denot → Ordering)
    (partial_cmp : K.Denot → K.Denot → Option Ordering) (prefixes : Prefixes P.Denot)
    (clones : Clones V.Denot) where
  -- the row of families of such keys, values and prefixes
  abbrev pub family_row : RattleType
  family_row =
      family.the_row K V P (record { MAXIMUM_SIZE = most; bytes = bytes }) (record { eq = eq })
      (record { cmp = cmp }) (record { partial_cmp = partial_cmp }) prefixes clones

  -- The version of the place is as it was left behind the reference. Where there is none the family
  -- stays.
  abbrev pub LendsVersion : {E : Type 0} → MutBor (Family V.Denot) → ℕ
      → Result (MutBor (Version V.Denot)) E → Fml
  LendsVersion lender place result =
      LendsSoOk family_row (tree_row K V P most bytes eq cmp partial_cmp prefixes clones) lender
      result (λ after left. IsLeftAt lender.now place left after) (λ after. after ≡ lender.now)

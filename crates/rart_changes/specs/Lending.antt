-- References for writing: what a tracked version becomes by what is left behind one.
use Rattle.std.specs.declared.cmp.Ordering.{Ordering}
use Rattle.std.specs.Prelude.{◌≡◌, ℕ, Bool, List, Option, Result}
use Rattle.std.specs.Result.{IsOk, OnErr}
use Rattle.std.specs.Borrow.{Fml, MutBor, RattleType, LendsIfOk, follows_so, name_if_ok}
use Rattle.std.specs.declared.clone.Clone.{Ghosts as Clones}
use Rattle.rart_below.specs.declared.partial.Partial.{Ghosts as Prefixes}
use Rattle.rart_changes.specs.Tracking.{Tracking, after_insertion}
use Rattle.rart_changes.specs.contracts.tracked.TrackedTree.{the_row}
use Rattle.rart_maps.specs.Versions.{Version, with_key}
use Rattle.rart_versioned.specs.Lent.{tree_row}

-- Over the rows of keys, values and prefixes, and the ghosts of their traits.
module _ (K V P : RattleType) (most : Option ℕ) (bytes : K.Denot → List ℕ)
    (eq : K.Denot → K.Denot → Bool) (cmp : K.Denot → K.Denot → Ordering)
    (partial_cmp : K.Denot → K.Denot → Option Ordering) (prefixes : Prefixes P.Denot)
    (clones : Clones V.Denot) where
  -- the row of tracked versions of such keys, values and prefixes
  abbrev pub tracked_row : RattleType
  tracked_row =
      the_row K V P (record { MAXIMUM_SIZE = most; bytes = bytes }) (record { eq = eq })
      (record { cmp = cmp }) (record { partial_cmp = partial_cmp }) prefixes clones

  -- The current version has the key set to the value as it was left behind the reference, the
  -- number is one greater, and the key is touched. Where there is no reference all stays.
  abbrev pub LendsTouched : {E : Type 0} → MutBor (Tracking V.Denot) → List ℕ
      → Result (MutBor V.Denot) E → Fml
  LendsTouched tracked w result =
      LendsIfOk tracked_row V tracked result (after_insertion tracked.now w) tracked.now

  -- A version has the key set to the value as it was left behind the reference, and its number is
  -- one greater. Refused it stays, whatever would be left.
  abbrev pub LendsOrStays : {E : Type 0} → MutBor (Version V.Denot) → List ℕ
      → Result (MutBor V.Denot) E → Fml
  LendsOrStays version w result =
      follows_so (tree_row K V P most bytes eq cmp partial_cmp prefixes clones) V version.ghost_name
      (name_if_ok (λ value. value.ghost_name) result)
      (λ left after. (IsOk result → after ≡ with_key version.now w left 1)
      × OnErr result (after ≡ version.now))
      (λ after. after ≡ version.now)

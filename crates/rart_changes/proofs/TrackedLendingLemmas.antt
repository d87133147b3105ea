-- What a loan from the current version makes of a tracked version.
use Rattle.std.proofs.Common.{◌≡◌, ℕ, List, Some, Result, Ok, Err, IfOk, OnOk, OnErr, refl, subst, sym, ap, is_some}
use Rattle.std.specs.Result.{IsOk}
use Rattle.std.specs.declared.alloc.AllocError.{AllocError}
use Rattle.rart_maps.specs.Versions.{Version, value_at, with_key}
use Rattle.rart_maps.proofs.LookupLemmas.{replacement-sets}
use Rattle.rart_changes.specs.Tracking.{Tracking, IsMarked, Keeps, after_insertion, tracking_of, with_string}
use Rattle.rart_changes.proofs.TrackingLemmas.{keeps-more, keeps-touched}

-- With the value left behind the reference, and without one, the trees inside keep what they do.
module _ {A V X : Type 0} {base now after : Version V} {touched marked : Version (Unit {0})}
    (w : List ℕ) where
  pub keeps-lent : (result : Result A X) (left : V) → Keeps base now touched
      → OnOk result (IsMarked touched w marked) → OnErr result (marked ≡ touched)
      → (IsOk result → after ≡ with_key now w left 1) × OnErr result (after ≡ now)
      → Keeps base after marked
  keeps-lent (Ok lent) left keeps is kept holds =
      keeps-touched w (Some left) keeps
      (replacement-sets now after w {E = AllocError} left (Ok (value_at now w))
      (refl, holds.0 refl))
      is.keys is.counted (ap (λ (v : Version V). v.number) (holds.0 refl))
  keeps-lent (Err error) left keeps is kept holds =
      subst (λ v. Keeps base v marked) (sym holds.1) (subst (Keeps base now) (sym kept) keeps)

  pub keeps-unlent : (result : Result A X) (seen : A → V) → Keeps base now touched
      → OnOk result (IsMarked touched w marked)
      → IfOk result (λ lent. value_at now w ≡ Some (seen lent))
      → OnErr result (marked ≡ touched) → after ≡ now → Keeps base after marked
  keeps-unlent (Ok lent) seen keeps is there kept same =
      subst (λ v. Keeps base v marked) (sym same) (keeps-more w keeps (ap is_some there) is)
  keeps-unlent (Err error) seen keeps is there kept same =
      subst (λ v. Keeps base v marked) (sym same) (subst (Keeps base now) (sym kept) keeps)

-- What is seen of the trees inside afterwards.
module _ {V : Type 0} {base now after : Version V} (touched marked : Version (Unit {0}))
    (seen : Tracking V) (is : tracking_of base now touched ≡ seen) where
  pub lent-view : (w : List ℕ) (left : V) → after ≡ with_key now w left 1
      → marked.content ≡ with_string touched.content w
      → tracking_of base after marked ≡ after_insertion seen w left
  lent-view w left set keys =
      subst (λ t. tracking_of base after marked ≡ after_insertion t w left) is
      (rw (set, keys) refl)

  pub unlent-view : {A X : Type 0} (result : Result A X) → OnErr result (marked ≡ touched)
      → after ≡ now → OnErr result (tracking_of base after marked ≡ seen)
  unlent-view (Ok lent) kept same = tt
  unlent-view (Err error) kept same = rw (same, kept) is

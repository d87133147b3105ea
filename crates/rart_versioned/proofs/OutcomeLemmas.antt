-- What a change makes of a version, told in other words. (For callers too.)
use Rattle.std.proofs.Common.{◌≡◌, ℕ, List, Some, None, Result, Ok, Err, Bool, IfOk, OnOk, OnErr, refl, ap, ◌∙◌}
use Rattle.std.specs.Borrow.{MutBor}
use Rattle.std.specs.Fn.{Once}
use Rattle.rart_below.specs.declared.slot.Slot.{Slot}
use Rattle.rart_below.specs.declared.slot.SlotUpdate.{SlotUpdate}
use Rattle.rart_maps.proofs.LookupLemmas.{removal-sets, replacement-sets}
use Rattle.rart_maps.specs.Changes.{Changes, after_removal, slot_update}
use Rattle.rart_maps.specs.Lookups.{Sets}
use Rattle.rart_maps.specs.Versions.{Version, value_at, with_key}
use Rattle.rart_versioned.specs.Updates.{Tells, Updates}

module _ {V A E : Type 0} (before after : Version V) where
  -- What look-ups answer after an insertion, and after a removal.
  pub set-lookups : (w : List ℕ) (x : V) (result : Result A E)
      → OnOk result (after ≡ with_key before w x 1) → OnOk result (Sets before after w (Some x))
  set-lookups w x (Ok answer) is =
      replacement-sets before after w {E = E} x (Ok (value_at before w)) (refl, is)
  set-lookups w x (Err refusal) is = tt

  pub removed-lookups : (w : List ℕ) (result : Result A E)
      → OnOk result (after ≡ after_removal before w) → OnOk result (Sets before after w None)
  removed-lookups w (Ok answer) is =
      removal-sets before after w {E = E} (Ok (value_at before w)) (refl, is)
  removed-lookups w (Err refusal) is = tt

module _ {F V E : Type 0} (callback : Once F (MutBor (Slot V) × Unit {0})
    (SlotUpdate V × (MutBor (Slot V) × Unit {0}))) (f : F) where
  -- where the callback allows one outcome alone
  pub one-update : (v after : Version V) (w : List ℕ) (slot : Slot V) (told : SlotUpdate V)
      (result : Result Bool E) → ((left : Slot V) (t : SlotUpdate V) → Tells callback f v w left t
      → (left ≡ slot) × (t ≡ told))
      → IfOk result (λ answer. Updates callback f v w answer after) → OnErr result (after ≡ v)
      → Changes result v after (slot_update v w slot told)
  one-update v after w slot told (Ok answer) one updates refused =
      let same = one updates.0 updates.1 updates.2 in
      let is = updates.3 ∙ ap (λ left. slot_update v w left updates.1) same.0
      ∙ ap (λ t. slot_update v w slot t) same.1 in
      (ap (λ outcome. outcome.0) is, ap (λ outcome. outcome.1) is)
  one-update v after w slot told (Err refusal) one updates refused = refused

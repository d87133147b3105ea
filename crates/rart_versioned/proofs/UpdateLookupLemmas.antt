-- What look-ups answer after an update.
use Rattle.std.proofs.Common.{◌≡◌, ℕ, List, Bool, Result, Ok, Err, IfOk, OnOk, OnErr, ap, subst}
use Rattle.std.specs.Borrow.{MutBor}
use Rattle.std.specs.Fn.{Once}
use Rattle.rart_below.specs.declared.slot.Refusal.{Refusal}
use Rattle.rart_below.specs.declared.slot.Refusal.TheVariants.{Callback, Memory}
use Rattle.rart_below.specs.declared.slot.Slot.{Slot}
use Rattle.rart_below.specs.declared.slot.SlotUpdate.{SlotUpdate}
use Rattle.rart_maps.specs.Changes.{slot_of}
use Rattle.rart_maps.specs.Versions.{Version, value_at}
use Rattle.rart_maps.proofs.LookupLemmas.{updated-sets, tried-sets, failed-keeps, value_in-slot_of}
use Rattle.rart_versioned.specs.UpdateLookups.{UpdateSets, TriedUpdateSets}
use Rattle.rart_versioned.specs.Updates.{Updates, TellsOrFails, TriesUpdate}

module _ {F V : Type 0} (callback : Once F (MutBor (Slot V) × Unit {0})
    (SlotUpdate V × (MutBor (Slot V) × Unit {0}))) (f : F) where
  pub update-sets : {E : Type 0} (before after : Version V) (w : List ℕ) (result : Result Bool E)
      → IfOk result (λ answer. Updates callback f before w answer after)
      → OnOk result (UpdateSets callback f before w after)
  update-sets before after w (Ok answer) updates = record {
    lent = slot_of (value_at before w);
    left = updates.0;
    told = updates.1;
    lends = value_in-slot_of (value_at before w);
    tells = updates.2;
    sets = updated-sets before after w updates.0 updates.1 answer updates.3;
  }
  update-sets before after w (Err refusal) updates = tt

module _ {F V E : Type 0} (callback : Once F (MutBor (Slot V) × Unit {0})
    (Result (SlotUpdate V) E × (MutBor (Slot V) × Unit {0}))) (f : F) where
  pub tried-update-sets : (before after : Version V) (w : List ℕ)
      (result : Result Bool (Refusal E))
      → TriesUpdate callback f before w result after
      → OnOk result (TriedUpdateSets callback f before w after)
  tried-update-sets before after w (Ok answer) updates =
      let outcome = tried-sets before after w updates.0 updates.1 answer updates.3 in
      record {
        lent = slot_of (value_at before w);
        left = updates.0;
        told = outcome.0;
        lends = value_in-slot_of (value_at before w);
        tells =
            subst (λ told. TellsOrFails callback f before w updates.0 told) outcome.1 updates.2;
        sets = outcome.2;
      }
  tried-update-sets before after w (Err refusal) updates = tt

  -- Refused, whether by the callback or for memory, it leaves the map.
  pub refused-update-keeps : (before after : Version V) (w : List ℕ)
      (result : Result Bool (Refusal E))
      → TriesUpdate callback f before w result after
      → OnErr result (after.content ≡ before.content)
  refused-update-keeps before after w (Ok answer) updates = tt
  refused-update-keeps before after w (Err (Callback e)) updates =
      failed-keeps before after w updates.0 updates.1 e updates.3
  refused-update-keeps before after w (Err (Memory refusal)) updates =
      ap (λ version. version.content) updates.0

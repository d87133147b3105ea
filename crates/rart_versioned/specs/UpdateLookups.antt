-- What look-ups answer after an update, from what its callback allows.
use Rattle.std.specs.Prelude.{◌≡◌, List, ℕ, Result, Ok}
use Rattle.std.specs.Borrow.{MutBor}
use Rattle.std.specs.Fn.{Once, FnOnceReturnsAtMut}
use Rattle.rart_below.specs.declared.slot.Slot.{Slot}
use Rattle.rart_below.specs.declared.slot.SlotUpdate.{SlotUpdate}
use Rattle.rart_maps.specs.Lookups.{Sets, value_in, value_left}
use Rattle.rart_maps.specs.Versions.{Version, value_at}

module _ {F V : Type 0} where
  -- The callback, lent a slot with the key's value, may leave the slot so and answer so. The key
  -- has what that makes of it, and every other key has what it had.
  pub record UpdateSets (callback : Once F (MutBor (Slot V) × Unit {0})
      (SlotUpdate V × (MutBor (Slot V) × Unit {0})))
      (f : F) (before : Version V) (w : List ℕ) (after : Version V) : Type 0 where
    pub lent : Slot V
    pub left : Slot V
    pub told : SlotUpdate V
    pub lends : value_in lent ≡ value_at before w
    pub tells : FnOnceReturnsAtMut callback f lent told left
    pub sets : Sets before after w (value_left lent left told)

module _ {F V E : Type 0} where
  -- the same of a callback that may fail, and didn't
  pub record TriedUpdateSets (callback : Once F (MutBor (Slot V) × Unit {0})
      (Result (SlotUpdate V) E × (MutBor (Slot V) × Unit {0})))
      (f : F) (before : Version V) (w : List ℕ) (after : Version V) : Type 0 where
    pub lent : Slot V
    pub left : Slot V
    pub told : SlotUpdate V
    pub lends : value_in lent ≡ value_at before w
    pub tells : FnOnceReturnsAtMut callback f lent (Ok told) left
    pub sets : Sets before after w (value_left lent left told)

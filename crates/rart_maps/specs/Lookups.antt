-- A map with one key set, and what look-ups answer after a change at one key.
use Rattle.std.specs.Prelude.{◌≡◌, ◌≢◌, List, ℕ, Option, Some, None}
use Rattle.std.specs.FinMap as finite
use Rattle.rart_below.specs.declared.slot.Slot.{Slot}
use Rattle.rart_below.specs.declared.slot.Slot.TheVariants.{Vacant, Occupied}
use Rattle.rart_below.specs.declared.slot.SlotUpdate.{SlotUpdate}
use Rattle.rart_below.specs.declared.slot.SlotUpdate.TheVariants.{Keep, Insert, Remove}
use Rattle.rart_maps.specs.Changes.{left_behind}
use Rattle.rart_maps.specs.Versions.{Map, Version, value_at}

module _ {V : Type 0} where
  -- no key has a value
  abbrev pub LacksAll : Version V → Type 0
  LacksAll v = (q : List ℕ) → value_at v q ≡ None

  -- the map with this value at the key, or without the key
  abbrev pub with_value : Map V → List ℕ → Option V → Map V
  with_value m w (Some x) = finite.insert m w x
  with_value m w None = finite.remove m w

  -- Afterwards the key has this value, or none, and every other key has what it had.
  abbrev pub Sets : Version V → Version V → List ℕ → Option V → Type 0
  Sets before after w value =
      (value_at after w ≡ value) × ((q : List ℕ) → q ≢ w → value_at after q ≡ value_at before q)

  -- the value in a slot, if there is one
  abbrev pub value_in : Slot V → Option V
  value_in Vacant = None
  value_in (Occupied x) = Some x

  -- The value that an update leaves at its key, if any: by the slot that its callback was lent, the
  -- slot as it was left, and the answer.
  abbrev pub value_left : Slot V → Slot V → SlotUpdate V → Option V
  value_left lent left (Insert x) = Some x
  value_left lent left Remove = None
  value_left Vacant left Keep = None
  value_left (Occupied old) left Keep = Some (left_behind old left)

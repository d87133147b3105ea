-- What is said of changes, and of look-ups after one, is all of it: it fixes the map.
use Rattle.std.specs.Prelude.{◌≡◌, ◌↔◌, ◌-◌, ◌^◌, List, ℕ, Option, Ok, Err}
use Rattle.std.specs.FinMap as finite
use Rattle.rart_below.specs.declared.slot.Slot.{Slot}
use Rattle.rart_below.specs.declared.slot.SlotUpdate.{SlotUpdate}
use Rattle.rart_maps.specs.Changes.{Changes, slot_of, slot_update}
use Rattle.rart_maps.specs.Lookups.{LacksAll, Sets, value_in, value_left, with_value}
use Rattle.rart_maps.specs.Versions.{Version, HasRoom, value_at}

module _ (V : Type 0) where
  -- Exactly the empty map lacks all keys.
  abbrev pub EmptyLacksAll : Type 0
  EmptyLacksAll = (v : Version V) → LacksAll v ↔ (v.content ≡ finite.empty)

  -- A change sets a key to a value, or to none, exactly where the map afterwards is the one before
  -- with that value at the key, or without the key.
  abbrev pub SetsFixTheMap : Type 0
  SetsFixTheMap = (before after : Version V) (w : List ℕ) (value : Option V) →
      Sets before after w value ↔ (after.content ≡ with_value before.content w value)

  -- A slot made of a value has that value.
  abbrev pub SlotsHaveTheirValue : Type 0
  SlotsHaveTheirValue = (found : Option V) → value_in (slot_of found) ≡ found

  -- An update sets its key to what its callback left there.
  abbrev pub UpdatesSetWhatIsLeft : Type 0
  UpdatesSetWhatIsLeft = (v : Version V) (w : List ℕ) (left : Slot V) (told : SlotUpdate V) →
      Sets v (slot_update v w left told).1 w (value_left (slot_of (value_at v w)) left told)

  -- A change that answers `Ok` gives its answer and leaves its version; refused, it leaves the
  -- version as it was.
  abbrev pub ChangesTell : Type 0 → Type 0 → Type 0
  ChangesTell A E = (before after : Version V) (outcome : A × Version V) (answer : A) (refusal : E)
      → (Changes {E = E} (Ok answer) before after outcome
      ↔ ((answer ≡ outcome.0) × (after ≡ outcome.1)))
      × (Changes {A = A} (Err refusal) before after outcome ↔ (after ≡ before))

  -- A number of 2^64 - 2 can be raised by one, and not by two.
  abbrev pub RoomIsBelowTheLast : Type 0
  RoomIsBelowTheLast = (v : Version V) → v.number ≡ 2 ^ 64 - 2
      → HasRoom v 1 × (HasRoom v 2 → ⊥)

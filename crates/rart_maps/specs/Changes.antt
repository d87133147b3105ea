-- What a changing call answers and leaves, from the map and the number.
use Rattle.std.specs.Prelude.{◌≡◌, ℕ, Bool, true, false, List, Option, Some, None, Result, Ok, Err, if◌then◌else◌}
use Rattle.rart_below.specs.declared.slot.Slot.{Slot}
use Rattle.rart_below.specs.declared.slot.Slot.TheVariants.{Vacant, Occupied}
use Rattle.rart_below.specs.declared.slot.SlotUpdate.{SlotUpdate}
use Rattle.rart_below.specs.declared.slot.SlotUpdate.TheVariants.{Keep, Insert, Remove}
use Rattle.rart_maps.specs.Versions.{Version, value_at, has_key, with_rise, with_key, without_key}

module _ {V : Type 0} where
  -- The call answers so and leaves the version so. Refused, it leaves the version as it was.
  abbrev pub Changes : {A E : Type 0} → Result A E → Version V → Version V → A × Version V → Type 0
  Changes (Ok answer) before after outcome = (answer ≡ outcome.0) × (after ≡ outcome.1)
  Changes (Err refusal) before after outcome = after ≡ before

  -- Setting a key to a value: the value that was replaced, and the version after.
  abbrev pub replacement : Version V → List ℕ → V → Option V × Version V
  replacement v w x = (value_at v w, with_key v w x 1)

  -- without the key where it was there, and the number then one greater
  abbrev pub after_removal : Version V → List ℕ → Version V
  after_removal v w = if has_key v w then without_key v w 1 else v

  -- Taking a key out: its value, and the version after.
  abbrev pub removal : Version V → List ℕ → Option V × Version V
  removal v w = (value_at v w, after_removal v w)

  -- with the key set to what was left behind a reference to its value, where it was there
  abbrev pub after_writing : Version V → List ℕ → V → Version V
  after_writing v w x = if has_key v w then with_key v w x 1 else v

  -- Writing behind a reference: whether the key was there, and the version after.
  abbrev pub writing : Version V → List ℕ → V → Bool × Version V
  writing v w x = (has_key v w, after_writing v w x)

  -- the slot that a callback is lent
  abbrev pub slot_of : Option V → Slot V
  slot_of None = Vacant
  slot_of (Some x) = Occupied x

  -- what a callback left behind: the value at entry where it left the slot vacant
  abbrev pub left_behind : V → Slot V → V
  left_behind old Vacant = old
  left_behind old (Occupied x) = x

  -- An update, by the value at entry, what the callback left in the slot and what it answered:
  -- whether the key was there or is now, and the version after.
  abbrev pub slot_update_from : Version V → List ℕ → Option V → Slot V → SlotUpdate V
      → Bool × Version V
  slot_update_from v w None left Keep = (false, v)
  slot_update_from v w None left (Insert x) = (true, with_key v w x 1)
  slot_update_from v w None left Remove = (false, v)
  slot_update_from v w (Some old) left Keep = (true, with_key v w (left_behind old left) 1)
  slot_update_from v w (Some old) left (Insert x) = (true, with_key v w x 1)
  slot_update_from v w (Some old) left Remove = (true, without_key v w 1)

  abbrev pub slot_update : Version V → List ℕ → Slot V → SlotUpdate V → Bool × Version V
  slot_update v w left told = slot_update_from v w (value_at v w) left told

  -- The same for a callback that may answer an error. Where the key was there, the number is two
  -- greater for whatever else than `Keep` it answers.
  abbrev pub slot_attempt_from : {E : Type 0} → Version V → List ℕ → Option V → Slot V
      → Result (SlotUpdate V) E → Result Bool E × Version V
  slot_attempt_from v w None left (Ok Keep) = (Ok false, v)
  slot_attempt_from v w None left (Ok (Insert x)) = (Ok true, with_key v w x 1)
  slot_attempt_from v w None left (Ok Remove) = (Ok false, v)
  slot_attempt_from v w None left (Err e) = (Err e, v)
  slot_attempt_from v w (Some old) left (Ok Keep) = (Ok true, with_key v w (left_behind old left) 1)
  slot_attempt_from v w (Some old) left (Ok (Insert x)) = (Ok true, with_key v w x 2)
  slot_attempt_from v w (Some old) left (Ok Remove) = (Ok true, without_key v w 2)
  slot_attempt_from v w (Some old) left (Err e) = (Err e, with_rise v 2)

  abbrev pub slot_attempt : {E : Type 0} → Version V → List ℕ → Slot V → Result (SlotUpdate V) E
      → Result Bool E × Version V
  slot_attempt v w left told = slot_attempt_from v w (value_at v w) left told

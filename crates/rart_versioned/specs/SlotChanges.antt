-- What becomes of a key that is there, once a callback has answered.
use Rattle.std.specs.Prelude.{◌≡◌, ◌*◌, ℕ, Bool, true, false, List, Result, Ok, Err, if◌then◌else◌}
use Rattle.rart_below.specs.declared.slot.Refusal.{Refusal}
use Rattle.rart_below.specs.declared.slot.Refusal.TheVariants.{Callback, Memory}
use Rattle.rart_below.specs.declared.slot.Slot.{Slot}
use Rattle.rart_below.specs.declared.slot.Slot.TheVariants.{Vacant, Occupied}
use Rattle.rart_below.specs.declared.slot.SlotUpdate.{SlotUpdate}
use Rattle.rart_below.specs.declared.slot.SlotUpdate.TheVariants.{Keep, Insert, Remove}
use Rattle.rart_maps.specs.Bounds.{lookup_bound, change_bound}
use Rattle.rart_maps.specs.Changes.{slot_attempt}
use Rattle.rart_versioned.specs.declared.counted.change.Change.{Change}
use Rattle.rart_versioned.specs.declared.counted.change.Change.TheVariants.{Stay, Put, Take}
use Rattle.rart_maps.specs.Versions.{Version, has_key, with_rise, with_key, without_key}

module _ {V : Type 0} where
  -- by what was left in the slot, and by the answer
  abbrev pub change_of : Slot V → SlotUpdate V → Change V
  change_of left (Insert x) = Put x
  change_of left Remove = Take
  change_of Vacant Keep = Stay
  change_of (Occupied x) Keep = Put x

  -- the version after, its number so much greater
  abbrev pub version_after : Version V → List ℕ → Change V → ℕ → Version V
  version_after v w Stay more = with_rise v more
  version_after v w (Put x) more = with_key v w x more
  version_after v w Take more = without_key v w more

  -- how many nodes it enters at most, and how many it makes
  abbrev pub change_enters : List ℕ → Change V → ℕ
  change_enters w Stay = 0
  change_enters w (Put x) = lookup_bound w
  change_enters w Take = 2 * lookup_bound w

  abbrev pub change_makes : List ℕ → Change V → ℕ
  change_makes w Stay = 0
  change_makes w (Put x) = change_bound w
  change_makes w Take = lookup_bound w

  -- without the key where it was there, and the number then so much greater
  abbrev pub without_if_there : Version V → List ℕ → ℕ → Version V
  without_if_there v w more = if has_key v w then without_key v w more else v

  abbrev pub is_occupied : Slot V → Bool
  is_occupied Vacant = false
  is_occupied (Occupied x) = true

  -- What becomes of an absent key by a callback's answer: whether it is there now, and the version
  -- after.
  abbrev pub outcome_of_absent : Version V → List ℕ → SlotUpdate V → Bool × Version V
  outcome_of_absent v w (Insert x) = (true, with_key v w x 1)
  outcome_of_absent v w Remove = (false, v)
  outcome_of_absent v w Keep = (false, v)

  -- what is to be done by a callback's answer where the key is absent
  abbrev pub change_of_absent : SlotUpdate V → Change V
  change_of_absent (Insert x) = Put x
  change_of_absent Remove = Stay
  change_of_absent Keep = Stay

  -- the same of a callback that may fail, for an error of which nothing is done: where the key is
  -- there, and where it is absent
  abbrev pub attempt_of : {E : Type 0} → Slot V → Result (SlotUpdate V) E → Change V
  attempt_of left (Ok told) = change_of left told
  attempt_of left (Err e) = Stay

  abbrev pub attempt_of_absent : {E : Type 0} → Result (SlotUpdate V) E → Change V
  attempt_of_absent (Ok told) = change_of_absent told
  attempt_of_absent (Err e) = Stay

  -- The answer asks for a value to be stored.
  abbrev pub AsksMemory : SlotUpdate V → Type 0
  AsksMemory told = (x : V) × (told ≡ Insert x)

  -- how much greater the number is for an answer of a callback that may fail
  abbrev pub rise_of : SlotUpdate V → ℕ
  rise_of Keep = 1
  rise_of (Insert x) = 2
  rise_of Remove = 2

  -- The answer is no error and asks for a value to be stored.
  abbrev pub TriesToInsert : {E : Type 0} → Result (SlotUpdate V) E → Type 0
  TriesToInsert told = (x : V) × (told ≡ Ok (Insert x))

  -- What a callback that may fail left in the slot and answered leads to this answer and this
  -- version.
  abbrev pub IsTried : {E : Type 0} →
      Version V → List ℕ → Slot V → Result (SlotUpdate V) E → Result Bool E → Version V → Type 0
  IsTried before w left told answer after = (answer, after) ≡ slot_attempt before w left told

  -- The same of a key that is there, whose change may be refused: the version is then as before.
  abbrev pub Tries : {E : Type 0} →
      Version V → List ℕ → Slot V → Result (SlotUpdate V) E → Result Bool (Refusal E) → Version V
      → Type 0
  Tries before w left told (Ok answer) after = IsTried before w left told (Ok answer) after
  Tries before w left told (Err (Callback e)) after = IsTried before w left told (Err e) after
  Tries before w left told (Err (Memory refusal)) after = after ≡ before

  -- The same of an absent key, whatever was left in its vacant slot. Only a value that is to be
  -- stored can be refused.
  abbrev pub TriesAbsent : {E : Type 0} →
      Version V → List ℕ → Result (SlotUpdate V) E → Result Bool (Refusal E) → Version V → Type 0
  TriesAbsent before w told (Ok answer) after =
      (left : Slot V) → IsTried before w left told (Ok answer) after
  TriesAbsent before w told (Err (Callback e)) after =
      (left : Slot V) → IsTried before w left told (Err e) after
  TriesAbsent before w told (Err (Memory refusal)) after =
      (after ≡ before) × TriesToInsert told

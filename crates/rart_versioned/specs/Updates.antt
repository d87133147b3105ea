-- What an update answers and leaves, from what its callback allows on the slot at entry.
use Rattle.std.specs.Prelude.{◌≡◌, ℕ, Bool, List, IsSome, ◌⊎◌, Result, Ok, Err}
use Rattle.std.specs.Fn.{Once, FnOnceReturnsAtMut}
use Rattle.std.specs.Borrow.{MutBor}
use Rattle.rart_below.specs.declared.slot.Slot.{Slot}
use Rattle.rart_below.specs.declared.slot.SlotUpdate.{SlotUpdate}
use Rattle.rart_below.specs.declared.slot.SlotUpdate.TheVariants.{Insert}
use Rattle.rart_below.specs.declared.slot.Refusal.{Refusal}
use Rattle.rart_below.specs.declared.slot.Refusal.TheVariants.{Callback, Memory}
use Rattle.rart_maps.specs.Versions.{Version, value_at}
use Rattle.rart_maps.specs.Changes.{slot_of, slot_update, slot_attempt}

module _ {F V : Type 0} (callback : Once F (MutBor (Slot V) × Unit {0})
    (SlotUpdate V × (MutBor (Slot V) × Unit {0}))) where
  -- The callback, called on the slot of the key, may leave the slot so and answer so.
  abbrev pub Tells : F → Version V → List ℕ → Slot V → SlotUpdate V → Type 0
  Tells f v w left told = FnOnceReturnsAtMut callback f (slot_of (value_at v w)) told left

  -- Some outcome that the callback allows leads from the version before to this answer and the
  -- version after.
  abbrev pub Updates : F → Version V → List ℕ → Bool → Version V → Type 0
  Updates f before w answer after =
      (left : Slot V) × (told : SlotUpdate V) × Tells f before w left told
      × ((answer, after) ≡ slot_update before w left told)

  -- The key is there, or the callback may answer that it is to be inserted: else an update takes no
  -- memory.
  abbrev pub UpdateTakesMemory : F → Version V → List ℕ → Type 0
  UpdateTakesMemory f v w =
      IsSome (value_at v w) ⊎ ((left : Slot V) × (x : V) × Tells f v w left (Insert x))

module _ {F V E : Type 0} (callback : Once F (MutBor (Slot V) × Unit {0})
    (Result (SlotUpdate V) E × (MutBor (Slot V) × Unit {0}))) where
  -- The same for a callback that may answer an error.
  abbrev pub TellsOrFails : F → Version V → List ℕ → Slot V → Result (SlotUpdate V) E → Type 0
  TellsOrFails f v w left told = FnOnceReturnsAtMut callback f (slot_of (value_at v w)) told left

  abbrev pub TryTakesMemory : F → Version V → List ℕ → Type 0
  TryTakesMemory f v w =
      IsSome (value_at v w) ⊎ ((left : Slot V) × (x : V) × TellsOrFails f v w left (Ok (Insert x)))

  abbrev pub Answers : F → Version V → List ℕ → Result Bool E → Version V → Type 0
  Answers f before w answer after =
      (left : Slot V) × (told : Result (SlotUpdate V) E) × TellsOrFails f before w left told
      × ((answer, after) ≡ slot_attempt before w left told)

  -- Its error is an answer as any other.
  abbrev pub TriesUpdate :
      F → Version V → List ℕ → Result Bool (Refusal E) → Version V → Type 0
  TriesUpdate f before w (Ok answer) after = Answers f before w (Ok answer) after
  TriesUpdate f before w (Err (Callback e)) after = Answers f before w (Err e) after
  TriesUpdate f before w (Err (Memory refusal)) after =
      (after ≡ before) × TryTakesMemory f before w

-- How many nodes an update enters and makes at most, by what its callback left and answered.
use Rattle.std.specs.Prelude.{◌≡◌, ◌*◌, ◌⊎◌, ℕ, Bool, List, Option, Some, None, Result, Ok, Err}
use Rattle.std.specs.Borrow.{MutBor}
use Rattle.std.specs.Fn.{Once}
use Rattle.rart_below.specs.declared.slot.Refusal.{Refusal}
use Rattle.rart_below.specs.declared.slot.Refusal.TheVariants.{Callback, Memory}
use Rattle.rart_below.specs.declared.slot.Slot.{Slot}
use Rattle.rart_below.specs.declared.slot.Slot.TheVariants.{Vacant, Occupied}
use Rattle.rart_below.specs.declared.slot.SlotUpdate.{SlotUpdate}
use Rattle.rart_below.specs.declared.slot.SlotUpdate.TheVariants.{Keep, Insert, Remove}
use Rattle.rart_maps.specs.Bounds.{lookup_bound, enter_bound, change_bound}
use Rattle.rart_maps.specs.Changes.{slot_update, slot_attempt}
use Rattle.rart_maps.specs.Versions.{Version, value_at}
use Rattle.rart_node.specs.Counts.{Counts, CountsUpTo}
use Rattle.rart_versioned.specs.Updates.{Tells, TellsOrFails}

module _ {V : Type 0} where
  -- by the value at entry: the key is looked up once, and once more where a value is put in, and
  -- taken out where it is there
  abbrev pub update_enters : List ℕ → Option V → Slot V → SlotUpdate V → ℕ
  update_enters w None left Keep = lookup_bound w
  update_enters w None left (Insert x) = 2 * lookup_bound w
  update_enters w None left Remove = lookup_bound w
  update_enters w (Some old) Vacant Keep = lookup_bound w
  update_enters w (Some old) (Occupied x) Keep = 2 * lookup_bound w
  update_enters w (Some old) left (Insert x) = 2 * lookup_bound w
  update_enters w (Some old) left Remove = enter_bound w

  -- none where nothing is put in or taken out
  abbrev pub update_makes : List ℕ → Option V → Slot V → SlotUpdate V → ℕ
  update_makes w None left Keep = 0
  update_makes w None left (Insert x) = change_bound w
  update_makes w None left Remove = 0
  update_makes w (Some old) Vacant Keep = 0
  update_makes w (Some old) (Occupied x) Keep = change_bound w
  update_makes w (Some old) left (Insert x) = change_bound w
  update_makes w (Some old) left Remove = lookup_bound w

  abbrev pub CountsAnswer : Version V → List ℕ → Slot V → SlotUpdate V → Counts → Counts → Type 0
  CountsAnswer v w left told before after =
      CountsUpTo (update_enters w (value_at v w) left told)
      (update_makes w (value_at v w) left told) before after

  -- the same of a callback that may fail: for its error the key is looked up and no more
  abbrev pub CountsAttempt : {E : Type 0} →
      Version V → List ℕ → Slot V → Result (SlotUpdate V) E → Counts → Counts → Type 0
  CountsAttempt v w left (Ok told) before after = CountsAnswer v w left told before after
  CountsAttempt v w left (Err e) before after = CountsUpTo (lookup_bound w) 0 before after

module _ {F V : Type 0} (callback : Once F (MutBor (Slot V) × Unit {0})
    (SlotUpdate V × (MutBor (Slot V) × Unit {0}))) where
  -- Some outcome that the callback allows leads to the answer and the version after, and the counts
  -- rose by no more than it lets them. Refused, they rose so for some outcome, or by the look-up
  -- alone.
  abbrev pub CountsUpdate : {E : Type 0} →
      F → Version V → List ℕ → Result Bool E → Version V → Counts → Counts → Type 0
  CountsUpdate f v w (Ok answer) v' before after =
      (left : Slot V) × (told : SlotUpdate V) × Tells callback f v w left told
      × ((answer, v') ≡ slot_update v w left told) × CountsAnswer v w left told before after
  CountsUpdate f v w (Err refusal) v' before after =
      CountsUpTo (lookup_bound w) 0 before after
      ⊎ ((left : Slot V) × (told : SlotUpdate V) × Tells callback f v w left told
      × CountsAnswer v w left told before after)

module _ {F V E : Type 0} (callback : Once F (MutBor (Slot V) × Unit {0})
    (Result (SlotUpdate V) E × (MutBor (Slot V) × Unit {0}))) where
  -- The same of a callback that may fail. For its error they rose by the look-up alone, whether the
  -- key is there or not.
  abbrev pub CountsTry :
      F → Version V → List ℕ → Result Bool (Refusal E) → Version V → Counts → Counts → Type 0
  CountsTry f v w (Ok answer) v' before after =
      (left : Slot V) × (told : Result (SlotUpdate V) E) × TellsOrFails callback f v w left told
      × ((Ok answer, v') ≡ slot_attempt v w left told) × CountsAttempt v w left told before after
  CountsTry f v w (Err (Callback e)) v' before after = CountsUpTo (lookup_bound w) 0 before after
  CountsTry f v w (Err (Memory refusal)) v' before after =
      CountsUpTo (lookup_bound w) 0 before after
      ⊎ ((left : Slot V) × (told : Result (SlotUpdate V) E)
      × TellsOrFails callback f v w left told × CountsAttempt v w left told before after)

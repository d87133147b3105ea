-- What an update counts that stores and takes out nothing.
use Rattle.std.proofs.Common.{◌≡◌, ◌≤◌, ◌+◌, ℕ, List, Option, Some, None, Result, Ok, Err, false, true, ap, refl, arith}
use Rattle.std.proofs.lemmas.Bool.{false≢true}
use Rattle.std.specs.Borrow.{MutBor}
use Rattle.std.specs.Fn.{Once}
use Rattle.std.specs.Result.{result_unwrap_or}
use Rattle.rart_maps.specs.Bounds.{lookup_bound}
use Rattle.rart_maps.specs.Changes.{slot_attempt, slot_attempt_from, slot_update_from}
use Rattle.rart_maps.specs.Versions.{Version, value_at}
use Rattle.rart_below.specs.declared.slot.Slot.{Slot}
use Rattle.rart_below.specs.declared.slot.SlotUpdate.{SlotUpdate}
use Rattle.rart_below.specs.declared.slot.SlotUpdate.TheVariants.{Keep, Insert, Remove}
use Rattle.rart_node.specs.Counts.{Counts}
use Rattle.rart_versioned.specs.UpdateCounts.{CountsAttempt, update_enters, update_makes}
use Rattle.rart_versioned.specs.Updates.{TellsOrFails}

module _ {V : Type 0} (v after : Version V) (w : List ℕ) where
  pub kept-counts : (found : Option V) (left : Slot V) (told : SlotUpdate V)
      → (false, after) ≡ slot_update_from v w found left told
      → (update_enters w found left told ≡ lookup_bound w) × (update_makes w found left told ≡ 0)
  kept-counts None left Keep same = (refl, refl)
  kept-counts None left Remove same = (refl, refl)
  kept-counts None left (Insert x) same = absurd (false≢true (ap (λ outcome. outcome.0) same))
  kept-counts (Some old) left Keep same = absurd (false≢true (ap (λ outcome. outcome.0) same))
  kept-counts (Some old) left Remove same = absurd (false≢true (ap (λ outcome. outcome.0) same))
  kept-counts (Some old) left (Insert x) same = absurd (false≢true (ap (λ outcome. outcome.0) same))

  module _ {E : Type 0} where
    tried-counts : (found : Option V) (left : Slot V) (told : SlotUpdate V)
        → (Ok false, after) ≡ slot_attempt_from {E = E} v w found left (Ok told)
        → (update_enters w found left told ≡ lookup_bound w)
        × (update_makes w found left told ≡ 0)
    tried-counts None left Keep same = (refl, refl)
    tried-counts None left Remove same = (refl, refl)
    tried-counts None left (Insert x) same =
        absurd (false≢true (ap (λ outcome. result_unwrap_or outcome.0 true) same))
    tried-counts (Some old) left Keep same =
        absurd (false≢true (ap (λ outcome. result_unwrap_or outcome.0 true) same))
    tried-counts (Some old) left Remove same =
        absurd (false≢true (ap (λ outcome. result_unwrap_or outcome.0 true) same))
    tried-counts (Some old) left (Insert x) same =
        absurd (false≢true (ap (λ outcome. result_unwrap_or outcome.0 true) same))

    pub tried-rises : (left : Slot V) (told : Result (SlotUpdate V) E) (start now : Counts)
        → (Ok false, after) ≡ slot_attempt v w left told → CountsAttempt v w left told start now
        → (now.entered ≤ start.entered + lookup_bound w) × (now.made ≡ start.made)
    tried-rises left (Ok told) start now same counted =
        let none = tried-counts (value_at v w) left told same in
        let looks = none.0 in
        let makes = none.1 in
        let most = counted.entered_at_most in
        let kept = counted.made_grows in
        let made = counted.made_at_most in
        (omega (arith, most, looks), omega (arith, kept, made, makes))
    tried-rises left (Err e) start now same counted =
        let most = counted.entered_at_most in
        let kept = counted.made_grows in
        let made = counted.made_at_most in
        (omega (arith, most), omega (arith, kept, made))

module _ {F V E : Type 0} (callback : Once F (MutBor (Slot V) × Unit {0})
    (Result (SlotUpdate V) E × (MutBor (Slot V) × Unit {0}))) (f : F) (v : Version V)
    (w : List ℕ) where
  pub refused-makes : (left : Slot V) (told : Result (SlotUpdate V) E) (start now : Counts)
      → ((left : Slot V) (told : SlotUpdate V) → TellsOrFails callback f v w left (Ok told)
      → update_makes w (value_at v w) left told ≡ 0)
      → TellsOrFails callback f v w left told → CountsAttempt v w left told start now
      → now.made ≡ start.made
  refused-makes left (Ok told) start now none tells counted =
      let makes = none left told tells in
      let kept = counted.made_grows in
      let made = counted.made_at_most in
      omega (arith, kept, made, makes)
  refused-makes left (Err e) start now none tells counted =
      let kept = counted.made_grows in
      let made = counted.made_at_most in
      omega (arith, kept, made)

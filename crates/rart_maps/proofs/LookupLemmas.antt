-- What look-ups answer after a change, from the version that it leaves.
use Rattle.std.proofs.Common.{◌≡◌, ◌≢◌, ℕ, List, Bool, Option, Some, None, Result, Ok, Err, OnOk, refl, ap, sym, subst}
use Rattle.std.specs.FinMap as finite
use Rattle.rart_below.specs.Bytes.{byte_order}
use Rattle.rart_below.specs.declared.slot.Slot.{Slot}
use Rattle.rart_below.specs.declared.slot.SlotUpdate.{SlotUpdate}
use Rattle.rart_below.specs.declared.slot.SlotUpdate.TheVariants.{Keep, Insert, Remove}
use Rattle.rart_maps.specs.Changes.{Changes, replacement, removal, after_removal, slot_of, left_behind, slot_update, slot_update_from, slot_attempt, slot_attempt_from}
use Rattle.rart_maps.specs.Lookups.{LacksAll, Sets, value_in, value_left}
use Rattle.rart_maps.specs.Versions.{Version, value_at, empty_at, with_key, without_key}
use Rattle.rart_maps.proofs.VersionLemmas.{value_at-with_key, value_at-with_other_key, value_at-without_key, value_at-without_other_key}

module _ {V : Type 0} where
  pub empty-lacks-all : (number : ℕ) → LacksAll (empty_at {V = V} number)
  empty-lacks-all number q = finite.get-empty byte_order q

  -- ---- by the version after
  with_key-sets : (v : Version V) (w : List ℕ) (x : V) (more : ℕ)
      → Sets v (with_key v w x more) w (Some x)
  with_key-sets v w x more = (value_at-with_key v w x more, value_at-with_other_key v w x more)

  without_key-sets : (v : Version V) (w : List ℕ) (more : ℕ)
      → Sets v (without_key v w more) w None
  without_key-sets v w more = (value_at-without_key v w more, value_at-without_other_key v w more)

  -- A version that stays sets a key to what it has.
  stay-sets : (v : Version V) (w : List ℕ) (found : Option V) → value_at v w ≡ found
      → Sets v v w found
  stay-sets v w found is = (is, λ q apart. refl)

  after_removal-sets : (v : Version V) (w : List ℕ) → Sets v (after_removal v w) w None
  after_removal-sets v w =
      elim (value_at v w) as (λ found. value_at v w ≡ found → Sets v (after_removal v w) w None) [
        | None ↦ λ is. rw is (stay-sets v w None is)
        | Some x ↦ λ is. rw is (without_key-sets v w 1)
      ] refl

  module _ (before after : Version V) (w : List ℕ) where
    by-after : (expected : Version V) (found : Option V) → after ≡ expected
        → Sets before expected w found → Sets before after w found
    by-after expected found is = subst (λ version. Sets before version w found) (sym is)

    -- ---- by a call's answer
    module _ {E : Type 0} where
      pub replacement-sets : (x : V) (result : Result (Option V) E)
          → Changes result before after (replacement before w x)
          → OnOk result (Sets before after w (Some x))
      replacement-sets x (Ok answer) changes =
          by-after _ _ changes.1 (with_key-sets before w x 1)
      replacement-sets x (Err refusal) changes = tt

      pub removal-sets : (result : Result (Option V) E)
          → Changes result before after (removal before w)
          → OnOk result (Sets before after w None)
      removal-sets (Ok answer) changes = by-after _ _ changes.1 (after_removal-sets before w)
      removal-sets (Err refusal) changes = tt

    -- ---- by a callback's answer
    updated-from : (found : Option V) → value_at before w ≡ found → (left : Slot V)
        (told : SlotUpdate V) (answer : Bool)
        → (answer, after) ≡ slot_update_from before w found left told
        → Sets before after w (value_left (slot_of found) left told)
    updated-from None at left Keep answer is =
        by-after _ _ (ap (λ p. p.1) is) (stay-sets before w None at)
    updated-from None at left (Insert x) answer is =
        by-after _ _ (ap (λ p. p.1) is) (with_key-sets before w x 1)
    updated-from None at left Remove answer is =
        by-after _ _ (ap (λ p. p.1) is) (stay-sets before w None at)
    updated-from (Some old) at left Keep answer is =
        by-after _ _ (ap (λ p. p.1) is) (with_key-sets before w (left_behind old left) 1)
    updated-from (Some old) at left (Insert x) answer is =
        by-after _ _ (ap (λ p. p.1) is) (with_key-sets before w x 1)
    updated-from (Some old) at left Remove answer is =
        by-after _ _ (ap (λ p. p.1) is) (without_key-sets before w 1)

    pub updated-sets : (left : Slot V) (told : SlotUpdate V) (answer : Bool)
        → (answer, after) ≡ slot_update before w left told
        → Sets before after w (value_left (slot_of (value_at before w)) left told)
    updated-sets = updated-from (value_at before w) refl

    -- the same of a callback that may fail
    module _ {E : Type 0} where
      tried-from : (found : Option V) → value_at before w ≡ found → (left : Slot V)
          (told : SlotUpdate V) (answer : Bool)
          → (Ok answer, after) ≡ slot_attempt_from {E = E} before w found left (Ok told)
          → Sets before after w (value_left (slot_of found) left told)
      tried-from None at left Keep answer is =
          by-after _ _ (ap (λ p. p.1) is) (stay-sets before w None at)
      tried-from None at left (Insert x) answer is =
          by-after _ _ (ap (λ p. p.1) is) (with_key-sets before w x 1)
      tried-from None at left Remove answer is =
          by-after _ _ (ap (λ p. p.1) is) (stay-sets before w None at)
      tried-from (Some old) at left Keep answer is =
          by-after _ _ (ap (λ p. p.1) is) (with_key-sets before w (left_behind old left) 1)
      tried-from (Some old) at left (Insert x) answer is =
          by-after _ _ (ap (λ p. p.1) is) (with_key-sets before w x 2)
      tried-from (Some old) at left Remove answer is =
          by-after _ _ (ap (λ p. p.1) is) (without_key-sets before w 2)

      -- An answer tells that the callback didn't fail.
      no-failure : (found : Option V) (left : Slot V) (e : E) (answer : Bool)
          → (Ok answer, after) ≢ slot_attempt_from before w found left (Err e)
      no-failure None left e answer is = cc (ap (λ p. p.0) is)
      no-failure (Some old) left e answer is = cc (ap (λ p. p.0) is)

      pub tried-sets : (left : Slot V) (told : Result (SlotUpdate V) E) (answer : Bool)
          → (Ok answer, after) ≡ slot_attempt before w left told
          → (update : SlotUpdate V) × (told ≡ Ok update)
          × Sets before after w (value_left (slot_of (value_at before w)) left update)
      tried-sets left (Ok update) answer is =
          (update, refl, tried-from (value_at before w) refl left update answer is)
      tried-sets left (Err e) answer is = absurd (no-failure (value_at before w) left e answer is)

      failed-from : (found : Option V) (left : Slot V) (told : Result (SlotUpdate V) E) (e : E)
          → (Err e, after) ≡ slot_attempt_from before w found left told
          → after.content ≡ before.content
      failed-from None left (Ok Keep) e is = absurd (cc (ap (λ p. p.0) is))
      failed-from None left (Ok (Insert x)) e is = absurd (cc (ap (λ p. p.0) is))
      failed-from None left (Ok Remove) e is = absurd (cc (ap (λ p. p.0) is))
      failed-from None left (Err error) e is = ap (λ p. p.1.content) is
      failed-from (Some old) left (Ok Keep) e is = absurd (cc (ap (λ p. p.0) is))
      failed-from (Some old) left (Ok (Insert x)) e is = absurd (cc (ap (λ p. p.0) is))
      failed-from (Some old) left (Ok Remove) e is = absurd (cc (ap (λ p. p.0) is))
      failed-from (Some old) left (Err error) e is = ap (λ p. p.1.content) is

      -- A callback's error leaves the map.
      pub failed-keeps : (left : Slot V) (told : Result (SlotUpdate V) E) (e : E)
          → (Err e, after) ≡ slot_attempt before w left told
          → after.content ≡ before.content
      failed-keeps = failed-from (value_at before w)

  -- What a slot has is the value that it was made of.
  pub value_in-slot_of : (found : Option V) → value_in (slot_of found) ≡ found
  value_in-slot_of None = refl
  value_in-slot_of (Some x) = refl

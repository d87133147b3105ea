-- What an update makes of a tracked version.
use Rattle.std.proofs.Common.{◌≡◌, ◌+◌, ◌≤◌, ℕ, List, Bool, true, Option, Some, None, is_some, Result, Ok, Err, ap, subst, sym, ◌∙◌, arith}
use Rattle.std.specs.Borrow.{MutBor}
use Rattle.std.specs.FinMap as finite
use Rattle.std.specs.Fn.{Once}
use Rattle.std.specs.Result.{result_unwrap_or}
use Rattle.std.proofs.lemmas.Bool.{false≢true}
use Rattle.rart_below.specs.declared.slot.Slot.{Slot}
use Rattle.rart_below.specs.declared.slot.SlotUpdate.{SlotUpdate}
use Rattle.rart_below.specs.declared.slot.SlotUpdate.TheVariants.{Keep, Insert, Remove}
use Rattle.rart_maps.specs.Changes.{slot_update_from, slot_attempt_from}
use Rattle.rart_maps.specs.Versions.{Version, has_key, value_at}
use Rattle.rart_maps.proofs.LookupLemmas.{updated-sets, tried-sets}
use Rattle.rart_changes.specs.Tracking.{Keeps, with_string}
use Rattle.rart_changes.proofs.TrackingLemmas.{keeps-raised}
use Rattle.rart_versioned.specs.Updates.{Answers, Updates}

module _ {V : Type 0} (before after : Version V) (w : List ℕ) where
  -- An update raises the number where the key was there or is now.
  update-raises-from : (was : Option V) (left : Slot V) (told : SlotUpdate V)
      → (true, after) ≡ slot_update_from before w was left told
      → before.number + 1 ≤ after.number
  update-raises-from None left Keep is = absurd (cc (ap (λ p. p.0) is))
  update-raises-from None left (Insert x) is =
      let number = ap (λ p. p.1.number) is in omega (arith, number)
  update-raises-from None left Remove is = absurd (cc (ap (λ p. p.0) is))
  update-raises-from (Some old) left Keep is =
      let number = ap (λ p. p.1.number) is in omega (arith, number)
  update-raises-from (Some old) left (Insert x) is =
      let number = ap (λ p. p.1.number) is in omega (arith, number)
  update-raises-from (Some old) left Remove is =
      let number = ap (λ p. p.1.number) is in omega (arith, number)

  module _ {E : Type 0} where
    -- The same of a callback that may fail, for whose error no number is lowered.
    attempt-raises-from : (was : Option V) (left : Slot V) (told : Result (SlotUpdate V) E)
        → (Ok true, after) ≡ slot_attempt_from before w was left told
        → before.number + 1 ≤ after.number
    attempt-raises-from None left (Ok Keep) is = absurd (cc (ap (λ p. p.0) is))
    attempt-raises-from None left (Ok (Insert x)) is =
        let number = ap (λ p. p.1.number) is in omega (arith, number)
    attempt-raises-from None left (Ok Remove) is = absurd (cc (ap (λ p. p.0) is))
    attempt-raises-from None left (Err e) is = absurd (cc (ap (λ p. p.0) is))
    attempt-raises-from (Some old) left (Ok Keep) is =
        let number = ap (λ p. p.1.number) is in omega (arith, number)
    attempt-raises-from (Some old) left (Ok (Insert x)) is =
        let number = ap (λ p. p.1.number) is in omega (arith, number)
    attempt-raises-from (Some old) left (Ok Remove) is =
        let number = ap (λ p. p.1.number) is in omega (arith, number)
    attempt-raises-from (Some old) left (Err e) is = absurd (cc (ap (λ p. p.0) is))

  -- Of a key that is there the answer is that it is.
  there-answers-from : (was : Option V) → is_some was ≡ true → (left : Slot V)
      (told : SlotUpdate V) (answer : Bool)
      → (answer, after) ≡ slot_update_from before w was left told → answer ≡ true
  there-answers-from None there left told answer is = absurd (false≢true there)
  there-answers-from (Some old) there left Keep answer is = ap (λ p. p.0) is
  there-answers-from (Some old) there left (Insert x) answer is = ap (λ p. p.0) is
  there-answers-from (Some old) there left Remove answer is = ap (λ p. p.0) is

  module _ {E : Type 0} where
    there-tried-from : (was : Option V) → is_some was ≡ true → (left : Slot V)
        (told : Result (SlotUpdate V) E) (answer : Bool)
        → (Ok answer, after) ≡ slot_attempt_from before w was left told → answer ≡ true
    there-tried-from None there left told answer is = absurd (false≢true there)
    there-tried-from (Some old) there left (Ok Keep) answer is =
        ap (λ p. result_unwrap_or p.0 true) is
    there-tried-from (Some old) there left (Ok (Insert x)) answer is =
        ap (λ p. result_unwrap_or p.0 true) is
    there-tried-from (Some old) there left (Ok Remove) answer is =
        ap (λ p. result_unwrap_or p.0 true) is
    there-tried-from (Some old) there left (Err e) answer is = absurd (cc (ap (λ p. p.0) is))

module _ {F V : Type 0} (callback : Once F (MutBor (Slot V) × Unit {0})
    (SlotUpdate V × (MutBor (Slot V) × Unit {0}))) (f : F) (v after : Version V)
    (w : List ℕ) where
  pub there-answers : (answer : Bool) → has_key v w ≡ true
      → Updates callback f v w answer after → answer ≡ true
  there-answers answer there updates =
      there-answers-from v after w (value_at v w) there updates.0 updates.1 answer updates.3

module _ {F E V : Type 0} (callback : Once F (MutBor (Slot V) × Unit {0})
    (Result (SlotUpdate V) E × (MutBor (Slot V) × Unit {0}))) (f : F) (v after : Version V)
    (w : List ℕ) where
  pub there-tried : (answer : Bool) → has_key v w ≡ true
      → Answers callback f v w (Ok answer) after → answer ≡ true
  there-tried answer there answers =
      there-tried-from v after w (value_at v w) there answers.0 answers.1 answer answers.3

module _ {V : Type 0} {base now after : Version V} {touched marked : Version (Unit {0})}
    (w : List ℕ) (keeps : Keeps base now touched) where
  module _ (keys : marked.content ≡ with_string touched.content w)
      (counted : marked.number ≡ finite.len marked.content) where
    pub keeps-update : {F : Type 0} (callback : Once F (MutBor (Slot V) × Unit {0})
        (SlotUpdate V × (MutBor (Slot V) × Unit {0}))) (f : F) (answer : Bool) → answer ≡ true
        → Updates callback f now w answer after → Keeps base after marked
    keeps-update callback f answer is updates =
        keeps-raised w _ keeps (updated-sets now after w updates.0 updates.1 answer updates.3)
        keys counted
        (update-raises-from now after w (value_at now w) updates.0 updates.1
        ((λ i. (sym is i, after)) ∙ updates.3))

    pub keeps-attempt : {F E : Type 0} (callback : Once F (MutBor (Slot V) × Unit {0})
        (Result (SlotUpdate V) E × (MutBor (Slot V) × Unit {0}))) (f : F) (answer : Bool)
        → answer ≡ true → Answers callback f now w (Ok answer) after → Keeps base after marked
    keeps-attempt callback f answer is answers =
        let outcome = tried-sets now after w answers.0 answers.1 answer answers.3 in
        keeps-raised w _ keeps outcome.2 keys counted
        (attempt-raises-from now after w (value_at now w) answers.0 answers.1
        ((λ i. (Ok (sym is i), after)) ∙ answers.3))

-- The same update of the same version, and the same answer.
pub same-update : {F V : Type 0} (callback : Once F (MutBor (Slot V) × Unit {0})
    (SlotUpdate V × (MutBor (Slot V) × Unit {0}))) (f : F) (before v after : Version V) (w : List ℕ)
    (answer b : Bool) → before ≡ v → answer ≡ b
    → Updates callback f before w answer after → Updates callback f v w b after
same-update callback f before v after w answer b is same updates =
    subst (λ a. Updates callback f v w a after) same
    (subst (λ u. Updates callback f u w answer after) is updates)

pub same-attempt : {F V E : Type 0} (callback : Once F (MutBor (Slot V) × Unit {0})
    (Result (SlotUpdate V) E × (MutBor (Slot V) × Unit {0}))) (f : F) (before v after : Version V)
    (w : List ℕ) (answer b : Bool) → before ≡ v → answer ≡ b
    → Answers callback f before w (Ok answer) after → Answers callback f v w (Ok b) after
same-attempt callback f before v after w answer b is same answers =
    subst (λ a. Answers callback f v w (Ok a) after) same
    (subst (λ u. Answers callback f u w (Ok answer) after) is answers)

-- How the counts rise by an update: by the look-up, and by what the answer asks for then.
use Rattle.std.proofs.Common.{◌≡◌, ◌+◌, ◌*◌, ◌≤◌, ℕ, List, Option, Some, None, Result, Ok, Err, IfOk, Bool, true, false, inl, inr, arith, refl, sym, ap, subst, ◌∙◌}
use Rattle.std.specs.Borrow.{MutBor}
use Rattle.std.specs.Fn.{Once}
use Rattle.std.specs.Result.{IsErr}
use Rattle.std.proofs.lemmas.Bool.{false≢true}
use Rattle.rart_below.specs.declared.slot.Refusal.{Refusal}
use Rattle.rart_below.specs.declared.slot.Refusal.TheVariants.{Callback, Memory}
use Rattle.rart_below.specs.declared.slot.Slot.{Slot}
use Rattle.rart_below.specs.declared.slot.Slot.TheVariants.{Vacant, Occupied}
use Rattle.rart_below.specs.declared.slot.SlotUpdate.{SlotUpdate}
use Rattle.rart_below.specs.declared.slot.SlotUpdate.TheVariants.{Keep, Insert, Remove}
use Rattle.rart_maps.specs.Bounds.{lookup_bound, enter_bound, change_bound}
use Rattle.rart_maps.specs.Changes.{slot_attempt_from}
use Rattle.rart_maps.specs.Versions.{Version, value_at, has_key}
use Rattle.rart_node.specs.Counts.{Counts, CountsUpTo}
use Rattle.rart_node.proofs.CountingLemmas.{counts-then}
use Rattle.rart_versioned.specs.ChangeCounts.{MakesToTryInsert}
use Rattle.rart_versioned.specs.declared.counted.change.Change.{Change}
use Rattle.rart_versioned.specs.SlotChanges.{change_enters, change_makes, change_of, change_of_absent, attempt_of, attempt_of_absent, outcome_of_absent, version_after, Tries, TriesAbsent}
use Rattle.rart_versioned.specs.UpdateCounts.{update_enters, update_makes, CountsAnswer, CountsAttempt, CountsUpdate, CountsTry}
use Rattle.rart_versioned.specs.Updates.{Tells, TellsOrFails}
use Rattle.rart_versioned.proofs.SlotChangeLemmas.{some, none, there-updated, absent-updated}

-- One rise after the other.
rises : (a b m k n : ℕ) (x y z : Counts) → CountsUpTo a 0 x y → CountsUpTo b m y z → a + b ≡ k
    → m ≡ n → CountsUpTo k n x z
rises a b m k n x y z first second all made =
    let grows = first.entered_grows in
    let most = first.entered_at_most in
    let kept = first.made_grows in
    let none = first.made_at_most in
    let later = second.entered_grows in
    let later_most = second.entered_at_most in
    let makes = second.made_grows in
    let makes_most = second.made_at_most in
    record {
      entered_grows = omega (arith, grows, later);
      entered_at_most = omega (arith, most, later_most, all);
      made_grows = omega (arith, kept, makes);
      made_at_most = omega (arith, none, makes_most, made);
    }

-- ---- the look-up, and what comes after it

module _ (w : List ℕ) {x y : Counts} (looked : CountsUpTo (lookup_bound w) 0 x y) where
  pub looked-then : {entered made : ℕ} {z : Counts} → CountsUpTo entered made y z
      → entered ≤ 2 * lookup_bound w → made ≤ change_bound w
      → CountsUpTo (enter_bound w) (change_bound w) x z
  looked-then done few makes =
      counts-then looked done (omega (arith, few)) (omega (arith, makes))

-- A look-up makes no node, so what is made behind it is all that is made.
pub makes-then : {E : Type 0} {entered : ℕ} {x y : Counts} (z : Counts) (answer : Result Bool E)
    → CountsUpTo entered 0 x y → IfOk answer (λ is_there. is_there ≡ false → z.made ≡ y.made)
    → IfOk answer (λ is_there. is_there ≡ false → z.made ≡ x.made)
makes-then z (Ok is_there) looked makes =
    let kept = looked.made_grows in
    let none = looked.made_at_most in
    λ absent. let same = makes absent in omega (arith, same, kept, none)
makes-then z (Err refusal) looked makes = tt

pub makes-then-tried : {E : Type 0} {entered : ℕ} {x y : Counts} (z : Counts)
    (answer : Result Bool (Refusal E)) → CountsUpTo entered 0 x y → MakesToTryInsert answer y z
    → MakesToTryInsert answer x z
makes-then-tried z (Ok is_there) looked makes =
    let kept = looked.made_grows in
    let none = looked.made_at_most in
    λ absent. let same = makes absent in omega (arith, same, kept, none)
makes-then-tried z (Err (Callback e)) looked makes =
    let kept = looked.made_grows in
    let none = looked.made_at_most in
    omega (arith, makes, kept, none)
makes-then-tried z (Err (Memory refusal)) looked makes = tt

module _ {V : Type 0} (w : List ℕ) where
  enters-there : (old : V) (left : Slot V) (told : SlotUpdate V)
      → lookup_bound w + change_enters w (change_of left told)
      ≡ update_enters w (Some old) left told
  enters-there old Vacant Keep = omega arith
  enters-there old (Occupied x) Keep = omega arith
  enters-there old left (Insert x) = omega arith
  enters-there old left Remove = omega arith

  makes-there : (old : V) (left : Slot V) (told : SlotUpdate V)
      → change_makes w (change_of left told) ≡ update_makes w (Some old) left told
  makes-there old Vacant Keep = refl
  makes-there old (Occupied x) Keep = refl
  makes-there old left (Insert x) = refl
  makes-there old left Remove = refl

  enters-absent : (left : Slot V) (told : SlotUpdate V)
      → lookup_bound w + change_enters w (change_of_absent told) ≡ update_enters w None left told
  enters-absent left Keep = omega arith
  enters-absent left (Insert x) = omega arith
  enters-absent left Remove = omega arith

  makes-absent : (left : Slot V) (told : SlotUpdate V)
      → change_makes w (change_of_absent told) ≡ update_makes w None left told
  makes-absent left Keep = refl
  makes-absent left (Insert x) = refl
  makes-absent left Remove = refl

module _ {V : Type 0} (v : Version V) (w : List ℕ) (x y z : Counts)
    (looked : CountsUpTo (lookup_bound w) 0 x y) where
  pub counts-there : has_key v w ≡ true → (left : Slot V) (told : SlotUpdate V)
      → CountsUpTo (change_enters w (change_of left told))
      (change_makes w (change_of left told)) y z
      → CountsAnswer v w left told x z
  counts-there there left told done =
      let is = some v w there (value_at v w) refl in
      subst (λ o. CountsUpTo (update_enters w o left told) (update_makes w o left told) x z)
      (sym is.1) (rises _ _ _ _ _ x y z looked done (enters-there w is.0 left told)
      (makes-there w is.0 left told))

  -- the same, of what is done by this answer
  pub counts-changed : has_key v w ≡ true → (left : Slot V) (told : SlotUpdate V)
      (change : Change V) → change ≡ change_of left told
      → CountsUpTo (change_enters w change) (change_makes w change) y z
      → CountsAnswer v w left told x z
  counts-changed there left told change is done =
      counts-there there left told
      (subst (λ change. CountsUpTo (change_enters w change) (change_makes w change) y z) is done)

  pub counts-absent : has_key v w ≡ false → (left : Slot V) (told : SlotUpdate V)
      → CountsUpTo (change_enters w (change_of_absent told))
      (change_makes w (change_of_absent told)) y z → CountsAnswer v w left told x z
  counts-absent absent left told done =
      let is = none v w absent (value_at v w) refl in
      subst (λ o. CountsUpTo (update_enters w o left told) (update_makes w o left told) x z)
      (sym is) (rises _ _ _ _ _ x y z looked done (enters-absent w left told)
      (makes-absent w left told))

  -- the same for a callback that may fail
  pub attempt-there : {E : Type 0} → has_key v w ≡ true → (left : Slot V)
      (told : Result (SlotUpdate V) E)
      → CountsUpTo (change_enters w (attempt_of left told))
      (change_makes w (attempt_of left told)) y z → CountsAttempt v w left told x z
  attempt-there there left (Ok told) done = counts-there there left told done
  attempt-there there left (Err e) done =
      rises _ _ _ _ _ x y z looked done (omega arith) refl

  pub attempt-absent : {E : Type 0} → has_key v w ≡ false → (left : Slot V)
      (told : Result (SlotUpdate V) E)
      → CountsUpTo (change_enters w (attempt_of_absent told))
      (change_makes w (attempt_of_absent told)) y z → CountsAttempt v w left told x z
  attempt-absent absent left (Ok told) done = counts-absent absent left told done
  attempt-absent absent left (Err e) done =
      rises _ _ _ _ _ x y z looked done (omega arith) refl

module _ {F V : Type 0} (callback : Once F (MutBor (Slot V) × Unit {0})
    (SlotUpdate V × (MutBor (Slot V) × Unit {0}))) (f : F) (v : Version V) (w : List ℕ)
    (x z : Counts) where
  -- The callback's answer is what the counts rose by.
  pub update-there : (E : Type 0) (left : Slot V) (told : SlotUpdate V) (after : Version V)
      → Tells callback f v w left told → has_key v w ≡ true
      → after ≡ version_after v w (change_of left told) 1 → CountsAnswer v w left told x z
      → CountsUpdate callback {E = E} f v w (Ok true) after x z
  update-there E left told after tell there is counts =
      (left, told, tell, ap (λ z. (true, z)) is ∙ there-updated v w left told there, counts)

  -- Refused, they rose by no more.
  pub update-refused : {E : Type 0} (left : Slot V) (told : SlotUpdate V)
      (answer : Result Bool E) (after : Version V) → IsErr answer → Tells callback f v w left told
      → CountsAnswer v w left told x z → CountsUpdate callback f v w answer after x z
  update-refused left told (Ok answer) after is tell counts = absurd (false≢true is)
  update-refused left told (Err refusal) after is tell counts = inr (left, told, tell, counts)

  -- Refused for memory before that, they rose by the look-up alone.
  pub lookup-stopped : {E : Type 0} (answer : Result Bool E) (after : Version V) → IsErr answer
      → CountsUpTo (lookup_bound w) 0 x z → CountsUpdate callback f v w answer after x z
  lookup-stopped (Ok answer) after is counts = absurd (false≢true is)
  lookup-stopped (Err refusal) after is counts = inl counts

  pub update-absent : {E : Type 0} (left : Slot V) (told : SlotUpdate V) (answer : Result Bool E)
      (after : Version V) → Tells callback f v w left told → has_key v w ≡ false
      → IfOk answer (λ answer. (answer, after) ≡ outcome_of_absent v w told)
      → CountsAnswer v w left told x z → CountsUpdate callback f v w answer after x z
  update-absent left told (Ok answer) after tell absent is counts =
      (left, told, tell, is ∙ absent-updated v w left told absent, counts)
  update-absent left told (Err refusal) after tell absent is counts =
      inr (left, told, tell, counts)

error-apart : {E : Type 0} (e : E) (answer : Bool) → Err e ≡ Ok answer → ⊥
error-apart e answer is = cc

-- An outcome that is an error comes of one alone.
failed-told : {V E : Type 0} (v after : Version V) (w : List ℕ) (o : Option V) (left : Slot V)
    (told : Result (SlotUpdate V) E) (e : E) → (Err e, after) ≡ slot_attempt_from v w o left told
    → (x z : Counts) → CountsAttempt v w left told x z → CountsUpTo (lookup_bound w) 0 x z
failed-told v after w o left (Err e') e is x z counts = counts
failed-told v after w None left (Ok Keep) e is x z counts =
    absurd (error-apart e false (ap (λ outcome. outcome.0) is))
failed-told v after w None left (Ok (Insert y)) e is x z counts =
    absurd (error-apart e true (ap (λ outcome. outcome.0) is))
failed-told v after w None left (Ok Remove) e is x z counts =
    absurd (error-apart e false (ap (λ outcome. outcome.0) is))
failed-told v after w (Some old) left (Ok Keep) e is x z counts =
    absurd (error-apart e true (ap (λ outcome. outcome.0) is))
failed-told v after w (Some old) left (Ok (Insert y)) e is x z counts =
    absurd (error-apart e true (ap (λ outcome. outcome.0) is))
failed-told v after w (Some old) left (Ok Remove) e is x z counts =
    absurd (error-apart e true (ap (λ outcome. outcome.0) is))

module _ {F V E : Type 0} (callback : Once F (MutBor (Slot V) × Unit {0})
    (Result (SlotUpdate V) E × (MutBor (Slot V) × Unit {0}))) (f : F) (v : Version V)
    (w : List ℕ) (x z : Counts) where
  pub try-there : (left : Slot V) (told : Result (SlotUpdate V) E)
      (answer : Result Bool (Refusal E)) (after : Version V) → TellsOrFails callback f v w left told
      → Tries v w left told answer after → CountsAttempt v w left told x z
      → CountsTry callback f v w answer after x z
  try-there left told (Ok answer) after tell is counts = (left, told, tell, is, counts)
  try-there left told (Err (Callback e)) after tell is counts =
      failed-told v after w (value_at v w) left told e is x z counts
  try-there left told (Err (Memory refusal)) after tell is counts =
      inr (left, told, tell, counts)

  pub try-absent : (left : Slot V) (told : Result (SlotUpdate V) E)
      (answer : Result Bool (Refusal E)) (after : Version V) → TellsOrFails callback f v w left told
      → TriesAbsent v w told answer after → CountsAttempt v w left told x z
      → CountsTry callback f v w answer after x z
  try-absent left told (Ok answer) after tell is counts = (left, told, tell, is left, counts)
  try-absent left told (Err (Callback e)) after tell is counts =
      failed-told v after w (value_at v w) left told e (is left) x z counts
  try-absent left told (Err (Memory refusal)) after tell is counts =
      inr (left, told, tell, counts)

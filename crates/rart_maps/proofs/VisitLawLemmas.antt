-- The laws of visits.
use Rattle.std.proofs.Common.{◌≡◌, ◌⊎◌, ℕ, List, [], ◌∷◌, ◌++◌, Result, Ok, Err, refl, sym, ap, subst, inl, inr, ⊎_elim}
use Rattle.std.specs.Fn.{Mut, Called}
use Rattle.rart_below.specs.declared.visit.VisitControl.{VisitControl}
use Rattle.rart_below.specs.declared.visit.VisitControl.TheVariants.{Continue, Stop}
use Rattle.rart_maps.specs.Visits.{CalledOn, CallableOn, Answers, AnswersUpTo, CallableInTurn, VisitUpTo, VisitUntil}
use Rattle.rart_maps.specs.VisitLaws.{ArgumentsShowTheirChanges, ArgumentsShowTheirMembers, VisitsTell, VisitOfNothing, VisitOfOne, VisitableOfOne, VisitOfParts, FrontOfVisit, VisitableStepByStep, IfContinues, UntilNothing, UntilStepByStep, FrontOfUntil, UntilCallableStepByStep, EndsOnOne, UntilDone, UntilCallbackRefuses, UntilMemoryIsRefused}
use Rattle.rart_maps.proofs.VisitLemmas.{answers-append}

same_first : {A : Type 0} {x y : A} {xs ys : List A} → x ∷ xs ≡ y ∷ ys → x ≡ y
same_first is = cc

same_rest : {A : Type 0} {x y : A} {xs ys : List A} → x ∷ xs ≡ y ∷ ys → xs ≡ ys
same_rest is = cc

module _ {F A R X : Type 0} (g : Mut F A R) (Shows : A → X → Type 0) (answer : R) where
  answers-parts : (xs ys : List X) (f f' : F) → Answers g Shows answer f (xs ++ ys) f' →
      (j : F) × Answers g Shows answer f xs j × Answers g Shows answer j ys f'
  answers-parts [] ys f f' calls = (f, refl, calls)
  answers-parts (x ∷ xs) ys f f' calls =
      let later = answers-parts xs ys calls.0 f' calls.2 in
      (later.0, (calls.0, calls.1, later.1), later.2)

  -- The calls before the rest, where there is a first member: it is the first of the rest, or there
  -- was a call on it.
  up_to-cases : (x : X) (xs : List X) (y : X) (rest : List X) (f j : F) →
      AnswersUpTo g Shows answer f (x ∷ xs) (y ∷ rest) j →
      ((x ≡ y) × (f ≡ j)) ⊎ ((k : F) × CalledOn g Shows f x answer k
      × AnswersUpTo g Shows answer k xs (y ∷ rest) j)
  up_to-cases x xs y rest f j ([], is, calls) = inl (same_first is, calls)
  up_to-cases x xs y rest f j (z ∷ front, is, calls) =
      let called = subst (λ w. CalledOn g Shows f w answer calls.0) (sym (same_first is)) calls.1 in
      inr (calls.0, called, (front, same_rest is, calls.2))

  -- No call stands before a member of an empty list.
  up_to-none : (y : X) (rest : List X) (f j : F) → AnswersUpTo g Shows answer f [] (y ∷ rest) j → ⊥
  up_to-none y rest f j ([], is, calls) = cc
  up_to-none y rest f j (z ∷ front, is, calls) = cc

  up_to-first : (x : X) (xs rest : List X) (f k j : F) → CalledOn g Shows f x answer k →
      AnswersUpTo g Shows answer k xs rest j → AnswersUpTo g Shows answer f (x ∷ xs) rest j
  up_to-first x xs rest f k j called before =
      (x ∷ before.0, ap (λ ys. x ∷ ys) before.1, (k, called, before.2))

  callable-first : (x : X) (xs : List X) (f : F) → CallableInTurn g Shows answer f (x ∷ xs) →
      CallableOn g Shows f x
      × ((j : F) → CalledOn g Shows f x answer j → CallableInTurn g Shows answer j xs)
  callable-first x xs f callable = (
    callable.at x xs f ([], refl, refl),
    λ k called. record {
      at = λ y rest j before.
          callable.at y rest j (up_to-first x xs (y ∷ rest) f k j called before);
    },
  )

  callable-from : (x : X) (xs : List X) (f : F) → CallableOn g Shows f x →
      ((j : F) → CalledOn g Shows f x answer j → CallableInTurn g Shows answer j xs) →
      CallableInTurn g Shows answer f (x ∷ xs)
  callable-from x xs f first later = record {
    at = λ y rest j before.
        ⊎_elim
        (λ same.
        subst (CallableOn g Shows j) same.0 (subst (λ k. CallableOn g Shows k x) same.1 first))
        (λ more. (later more.0 more.1).at y rest j more.2)
        (up_to-cases x xs y rest f j before);
  }

module _ {F A X : Type 0} (g : Mut F A (Unit {0})) (Shows : A → X → Type 0) where
  pub visit_of_nothing : VisitOfNothing g Shows
  visit_of_nothing f f' = (λ same. same, λ same. same)

  pub visit_of_one : VisitOfOne g Shows
  visit_of_one x f f' = (
    λ visit. (visit.1.0, subst (Called g f visit.1.0 tt) visit.2 visit.1.1, visit.1.2),
    λ call. (f', call, refl),
  )

  pub visitable_of_one : VisitableOfOne g Shows
  visitable_of_one x f = (
    λ callable. (callable-first g Shows tt x [] f callable).0,
    λ takes. callable-from g Shows tt x [] f takes
        (λ j called. record {
          at = λ y rest k before. absurd
              (up_to-none g Shows tt y rest j k before);
        }),
  )

  pub visit_of_parts : VisitOfParts g Shows
  visit_of_parts xs ys f f' =
      (answers-parts g Shows tt xs ys f f', λ v. answers-append g Shows tt xs ys f v.0 f' v.1 v.2)

  pub front_of_visit : FrontOfVisit g Shows
  front_of_visit members f f' =
      (λ v. (v.1.0, v.0, v.1.1, v.1.2), λ v. (v.1, (v.0, v.2, v.3)))

  pub visits_tell : VisitsTell g Shows
  visits_tell members f f' refused =
      ((λ v. v, λ v. v), (λ v. (v.1.0, v.0, v.1.1, v.1.2), λ v. (v.1, (v.0, v.2, v.3))))

  pub visitable_step_by_step : VisitableStepByStep g Shows
  visitable_step_by_step x xs f =
      (callable-first g Shows tt x xs f, λ both. callable-from g Shows tt x xs f both.0 both.1)

module _ {F A X E : Type 0} (g : Mut F A (Result VisitControl E)) (Shows : A → X → Type 0) where
  not-up_to : (f f' : F) (last : Result VisitControl E) → VisitUpTo g Shows f [] last f' → ⊥
  not-up_to f f' last (x, rest, j, before, called) =
      up_to-none g Shows (Ok Continue) x rest f j before

  pub until_nothing : UntilNothing g Shows
  until_nothing f f' (Ok Continue) = (λ same. (same, refl), λ both. both.0)
  until_nothing f f' (Ok Stop) =
      (λ v. absurd (not-up_to f f' (Ok Stop) v), λ both. let is = both.1 in cc)
  until_nothing f f' (Err e) =
      (λ v. absurd (not-up_to f f' (Err e) v), λ both. let is = both.1 in cc)

  -- what comes of the answer on the first member
  abbrev Steps : X → List X → F → F → Result VisitControl E → Type 0
  Steps x xs f f' last = (answer : Result VisitControl E) × (j : F) × CalledOn g Shows f x answer j
      × IfContinues answer (VisitUntil g Shows j xs last f') ((j ≡ f') × (last ≡ answer))

  module _ (x : X) (xs : List X) (f f' : F) where
    ends-here : (j : F) (last : Result VisitControl E) → CalledOn g Shows f x last j → j ≡ f' →
        VisitUpTo g Shows f (x ∷ xs) last f'
    ends-here j last called is =
        (x, xs, f, ([], refl, refl), subst (λ k. CalledOn g Shows f x last k) is called)

    ends-later : (j : F) (last : Result VisitControl E) → CalledOn g Shows f x (Ok Continue) j →
        VisitUpTo g Shows j xs last f' → VisitUpTo g Shows f (x ∷ xs) last f'
    ends-later j last called ends =
        let rest = ends.0 ∷ ends.1 in
        let before = up_to-first g Shows (Ok Continue) x xs rest f j ends.2 called ends.3 in
        (ends.0, ends.1, ends.2, before, ends.4)

    until-from : (last : Result VisitControl E) → Steps x xs f f' last →
        VisitUntil g Shows f (x ∷ xs) last f'
    until-from (Ok Continue) (Ok Continue, j, called, goes) = (j, called, goes)
    until-from (Ok Continue) (Ok Stop, j, called, ends) = let is = ends.1 in cc
    until-from (Ok Continue) (Err d, j, called, ends) = let is = ends.1 in cc
    until-from (Ok Stop) (Ok Continue, j, called, goes) = ends-later j (Ok Stop) called goes
    until-from (Ok Stop) (Ok Stop, j, called, ends) = ends-here j (Ok Stop) called ends.0
    until-from (Ok Stop) (Err d, j, called, ends) = let is = ends.1 in cc
    until-from (Err e) (Ok Continue, j, called, goes) = ends-later j (Err e) called goes
    until-from (Err e) (Ok Stop, j, called, ends) = let is = ends.1 in cc
    until-from (Err e) (Err d, j, called, ends) =
        let same = subst (λ answer. CalledOn g Shows f x answer j) (sym ends.1) called in
        ends-here j (Err e) same ends.0

    -- It ended on the first member, or behind it.
    up_to-steps : (last : Result VisitControl E) → VisitUpTo g Shows f (x ∷ xs) last f' →
        CalledOn g Shows f x last f'
        ⊎ ((j : F) × CalledOn g Shows f x (Ok Continue) j × VisitUpTo g Shows j xs last f')
    up_to-steps last (y, rest, j, before, called) =
        ⊎_elim
        (λ same.
        let first = subst (λ k. CalledOn g Shows k y last f') (sym same.1) called in
        inl (subst (λ w. CalledOn g Shows f w last f') (sym same.0) first))
        (λ more. inr (more.0, more.1, (y, rest, j, more.2, called)))
        (up_to-cases g Shows (Ok Continue) x xs y rest f j before)

    until-steps : (last : Result VisitControl E) → VisitUntil g Shows f (x ∷ xs) last f' →
        Steps x xs f f' last
    until-steps (Ok Continue) v = (Ok Continue, v.0, v.1, v.2)
    until-steps (Ok Stop) v =
        ⊎_elim
        (λ here. (Ok Stop, f', here, (refl, refl)))
        (λ more. (Ok Continue, more.0, more.1, more.2))
        (up_to-steps (Ok Stop) v)
    until-steps (Err e) v =
        ⊎_elim
        (λ here. (Err e, f', here, (refl, refl)))
        (λ more. (Ok Continue, more.0, more.1, more.2))
        (up_to-steps (Err e) v)

  pub until_step_by_step : UntilStepByStep g Shows
  until_step_by_step x xs f f' last = (until-steps x xs f f' last, until-from x xs f f' last)

  pub front_of_until : FrontOfUntil g Shows
  front_of_until members f f' =
      (λ v. (v.1.0, v.0, v.1.1, v.1.2), λ v. (v.1, (v.0, v.2, v.3)))

  pub until_callable_step_by_step : UntilCallableStepByStep g Shows
  until_callable_step_by_step x xs f = (
    callable-first g Shows (Ok Continue) x xs f,
    λ both. callable-from g Shows (Ok Continue) x xs f both.0 both.1,
  )

  ends-on_one : (members : List X) (f f' : F) (answer : Result VisitControl E) →
      VisitUpTo g Shows f members answer f' → EndsOnOne g Shows f members answer f'
  ends-on_one members f f' answer (x, rest, j, before, called) =
      (before.0, x, rest, j, before.1, before.2, called)

  on_one-ends : (members : List X) (f f' : F) (answer : Result VisitControl E) →
      EndsOnOne g Shows f members answer f' → VisitUpTo g Shows f members answer f'
  on_one-ends members f f' answer (front, x, rest, j, is, calls, called) =
      (x, rest, j, (front, is, calls), called)

  done-either : (members : List X) (f f' : F) (last : VisitControl) →
      VisitUntil g Shows f members (Ok last) f' →
      VisitUntil g Shows f members (Ok Continue) f' ⊎ EndsOnOne g Shows f members (Ok Stop) f'
  done-either members f f' Continue v = inl v
  done-either members f f' Stop v = inr (ends-on_one members f f' (Ok Stop) v)

  pub until_done : UntilDone g Shows
  until_done members f f' = (
    λ v. done-either members f f' v.0 v.1,
    λ either. ⊎_elim (λ all. (Continue, all))
        (λ one. (Stop, on_one-ends members f f' (Ok Stop) one)) either,
  )

  pub until_callback_refuses : UntilCallbackRefuses g Shows
  until_callback_refuses members f f' e =
      (ends-on_one members f f' (Err e), on_one-ends members f f' (Err e))

  pub until_memory_is_refused : UntilMemoryIsRefused g Shows
  until_memory_is_refused members f f' refused =
      (λ v. (v.1.0, v.0, v.1.1, v.1.2), λ v. (v.1, (v.0, v.2, v.3)))

pub arguments_show_their_members : (K V : Type 0) (bytes : K → List ℕ) →
    ArgumentsShowTheirMembers K V bytes
arguments_show_their_members K V bytes key k slice r s w x y = (
  (λ v. v, λ v. v),
  (λ v. v, λ v. v),
  (λ v. v, λ v. v),
  (λ v. v, λ v. v),
  (λ v. v, λ v. v),
  (λ v. v, λ v. v),
  (λ v. v, λ v. v),
  (λ v. v, λ v. v),
)

pub arguments_show_their_changes : (K V : Type 0) (bytes : K → List ℕ) →
    ArgumentsShowTheirChanges K V bytes
arguments_show_their_changes K V bytes key k before after w x y = (
  (λ v. (v.0, v.1.0, v.1.1), λ v. (v.0, (v.1, v.2))),
  (λ v. (v.0, v.1.0, v.1.1), λ v. (v.0, (v.1, v.2))),
)

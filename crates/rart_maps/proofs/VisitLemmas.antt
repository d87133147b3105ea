-- Calls on the members of a list: how they go on from one part of it to the next.
use Rattle.std.proofs.Common.{◌≡◌, List, [], ◌∷◌, ◌++◌, Result, Ok, Err, refl, sym, ap, subst, ◌∙◌, append_assoc}
use Rattle.std.proofs.lemmas.List.{append-nil}
use Rattle.std.specs.declared.alloc.AllocError.{AllocError}
use Rattle.std.specs.Fn.{Mut, Takes}
use Rattle.std.specs.Result.{IsErr}
use Rattle.std.proofs.lemmas.Bool.{false≢true}
use Rattle.rart_below.specs.declared.visit.VisitControl.{VisitControl}
use Rattle.rart_below.specs.declared.visit.VisitControl.TheVariants.{Continue, Stop}
use Rattle.rart_maps.specs.Visits.{CalledOn, CallableOn, Answers, AnswersUpTo, CallableInTurn, Visits, VisitFront, VisitUpTo, VisitUntil}

module _ {F A R X : Type 0} (g : Mut F A R) (Shows : A → X → Type 0) (answer : R) where
  -- the calls on one list, and then those on another
  pub answers-append : (xs ys : List X) (f j last : F) → Answers g Shows answer f xs j →
      Answers g Shows answer j ys last → Answers g Shows answer f (xs ++ ys) last
  answers-append [] ys f j last first later =
      subst (λ state. Answers g Shows answer state ys last) (sym first) later
  answers-append (x ∷ xs) ys f j last first later =
      (first.0, first.1, answers-append xs ys first.0 j last first.2 later)

  -- Before the first call all members are left.
  pub up_to-start : (f : F) (members : List X) → AnswersUpTo g Shows answer f members members f
  up_to-start f members = ([], refl, refl)

  -- Where a part of the members comes next:
  module _ {f j last : F} {members left : List X} (part rest : List X) (comes : left ≡ part ++ rest)
      (before : AnswersUpTo g Shows answer f members left j) where
    -- calls within the part
    pub up_to-within : (within : List X) → AnswersUpTo g Shows answer j part within last →
        AnswersUpTo g Shows answer f members (within ++ rest) last
    up_to-within within calls =
        let next : left ≡ calls.0 ++ (within ++ rest) =
        comes ∙ ap (λ xs. xs ++ rest) calls.1 ∙ append_assoc calls.0 within rest in (
          before.0 ++ calls.0,
          before.1 ∙ ap (λ xs. before.0 ++ xs) next
              ∙ sym (append_assoc before.0 calls.0 (within ++ rest)),
          answers-append before.0 calls.0 f j last before.2 calls.2,
        )

    -- calls on all of it
    pub up_to-part : Answers g Shows answer j part last →
        AnswersUpTo g Shows answer f members rest last
    up_to-part calls = up_to-within [] (part, sym (append-nil part), calls)

  -- and where one member comes next, a call on it
  pub up_to-next : {f j last : F} {members left : List X} (x : X) (rest : List X) →
      left ≡ x ∷ rest → AnswersUpTo g Shows answer f members left j →
      CalledOn g Shows j x answer last → AnswersUpTo g Shows answer f members rest last
  up_to-next {f} {j} {last} x rest comes before called =
      up_to-part (x ∷ []) rest comes before (last, called, refl)

  -- Where no member is left, there was a call on each.
  pub up_to-end : {f last : F} {members : List X} →
      AnswersUpTo g Shows answer f members [] last → Answers g Shows answer f members last
  up_to-end {f} {last} before =
      subst (λ xs. Answers g Shows answer f xs last)
      (sym (append-nil before.0) ∙ sym before.1) before.2

  pub up_to-over : {f last : F} {members left : List X} → left ≡ [] →
      AnswersUpTo g Shows answer f members left last → Answers g Shows answer f members last
  up_to-over {f} {last} {members} none before =
      up_to-end (subst (λ left. AnswersUpTo g Shows answer f members left last) none before)

  -- What is callable on all members in turn is so on each part, when it comes to it,
  pub callable-part : {f j : F} {members left : List X} (part rest : List X) →
      left ≡ part ++ rest → CallableInTurn g Shows answer f members →
      AnswersUpTo g Shows answer f members left j → CallableInTurn g Shows answer j part
  callable-part part rest comes callable before =
      record {
        at = λ x within last calls. callable.at x (within ++ rest) last
            (up_to-within part rest comes before (x ∷ within) calls);
      }

  -- and on each member.
  pub callable-next : {f j : F} {members left : List X} (x : X) (rest : List X) →
      left ≡ x ∷ rest → CallableInTurn g Shows answer f members →
      AnswersUpTo g Shows answer f members left j → CallableOn g Shows j x
  callable-next {f} {j} {members} x rest comes callable before =
      callable.at x rest j
      (subst (λ left. AnswersUpTo g Shows answer f members left j) comes before)

  -- What each call keeps between the states before and after it, all keep together: for what the
  -- closure's captures refer to.
  pub answers-keep : (Keeps : F → F → Type 0) → ((f : F) → Keeps f f) →
      ((f : F) (x : X) (j last : F) →
      CalledOn g Shows f x answer j → Keeps j last → Keeps f last) →
      (members : List X) (f last : F) → Answers g Shows answer f members last → Keeps f last
  answers-keep Keeps none each [] f last calls = subst (Keeps f) calls (none f)
  answers-keep Keeps none each (x ∷ xs) f last calls =
      each f x calls.0 last calls.1 (answers-keep Keeps none each xs calls.0 last calls.2)

  -- What a closure has collected that may give up: where it has not given up at the end, each call
  -- has put its member at the end of what was seen.
  pub answers-collect : (Goes : F → Type 0) (seen : F → List X) →
      ((f : F) (x : X) (j : F) → CalledOn g Shows f x answer j → Goes j →
      Goes f × (seen j ≡ seen f ++ x ∷ [])) →
      (members : List X) (f last : F) → Answers g Shows answer f members last → Goes last →
      Goes f × (seen last ≡ seen f ++ members)
  answers-collect Goes seen each [] f last calls goes =
      (subst Goes (sym calls) goes, ap seen (sym calls) ∙ sym (append-nil (seen f)))
  answers-collect Goes seen each (x ∷ xs) f last calls goes =
      let later = answers-collect Goes seen each xs calls.0 last calls.2 goes in
      let here = each f x calls.0 calls.1 later.0 in
      (here.0, later.1 ∙ ap (λ ys. ys ++ xs) here.1 ∙ append_assoc (seen f) (x ∷ []) xs)

module _ {F A X : Type 0} (g : Mut F A (Unit {0})) (Shows : A → X → Type 0) where
  -- What was called on a prefix, and was refused.
  pub visits-refused : {f last : F} {members : List X} (result : Result (Unit {0}) AllocError) →
      IsErr result → VisitFront g Shows f members last → Visits g Shows result f members last
  visits-refused (Ok done) is front = absurd (false≢true is)
  visits-refused (Err refused) is front = front

module _ {F A X E : Type 0} (g : Mut F A (Result VisitControl E)) (Shows : A → X → Type 0) where
  -- A visit that ends on the next member, or within the next part, ends the visit of all members.
  pub visit_up_to-next : {f j last : F} {members left : List X} {answer : Result VisitControl E}
      (x : X) (rest : List X) → left ≡ x ∷ rest →
      AnswersUpTo g Shows (Ok Continue) f members left j → CalledOn g Shows j x answer last →
      VisitUpTo g Shows f members answer last
  visit_up_to-next {f} {j} {last} {members} x rest comes before called =
      let here = subst (λ left. AnswersUpTo g Shows (Ok Continue) f members left j) comes before in
      (x, rest, j, here, called)

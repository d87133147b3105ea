-- Visits of the same members, shown otherwise.
use Rattle.std.proofs.Common.{◌≡◌, ◌+◌, ◌<◌, ℕ, length, arith, List, [], ◌∷◌, Result, Ok, Err, map, ap, subst, ◌∙◌}
use Rattle.std.proofs.lemmas.List.{map-append, length-append}
use Rattle.std.specs.declared.alloc.AllocError.{AllocError}
use Rattle.std.specs.Fn.{Mut}
use Rattle.rart_maps.specs.Visits.{CalledOn, CallableOn, Answers, AnswersUpTo, Visits, Visitable}

module _ {F A X Y : Type 0} (g : Mut F A (Unit {0})) (Shows : A → X → Type 0)
    (ShowsAs : A → Y → Type 0) (to : X → Y)
    (shows : (a : A) (x : X) → Shows a x → ShowsAs a (to x)) where
  answers-as : (xs : List X) (f f' : F) → Answers g Shows tt f xs f' →
      Answers g ShowsAs tt f (map to xs) f'
  answers-as [] f f' calls = calls
  answers-as (x ∷ xs) f f' calls =
      let called = calls.1 in (
        calls.0,
        (called.0, called.1, shows called.0 x called.2),
        answers-as xs calls.0 f' calls.2,
      )

  up_to-as : (xs rest : List X) (f f' : F) → AnswersUpTo g Shows tt f xs rest f' →
      AnswersUpTo g ShowsAs tt f (map to xs) (map to rest) f'
  up_to-as xs rest f f' calls = (
    map to calls.0,
    ap (map to) calls.1 ∙ map-append to calls.0 rest,
    answers-as calls.0 f f' calls.2,
  )

  module _ (xs : List X) (ys : List Y) (same : map to xs ≡ ys) where
    -- What may be called on the members as they are shown the one way, may be as they are the
    -- other.
    pub visitable-as : (f : F) → Visitable g ShowsAs f ys → Visitable g Shows f xs
    visitable-as f visitable = record {
      at = λ x rest f' calls a is.
          visitable.at (to x) (map to rest) f'
          (subst (λ ys. AnswersUpTo g ShowsAs tt f ys (map to (x ∷ rest)) f') same
          (up_to-as xs (x ∷ rest) f f' calls)) a (shows a x is);
    }

    -- What was called on them the one way was called on them the other.
    pub visits-as : (result : Result (Unit {0}) AllocError) (f f' : F) →
        Visits g Shows result f xs f' → Visits g ShowsAs result f ys f'
    visits-as (Ok done) f f' visits =
        subst (λ ys. Answers g ShowsAs tt f ys f') same (answers-as xs f f' visits)
    visits-as (Err refused) f f' visits = (
      map to visits.0,
      subst (λ ys. AnswersUpTo g ShowsAs tt f ys (map to visits.0) f') same
          (up_to-as xs visits.0 f f' visits.1),
    )

-- Where each call counts one more, all count the members.
module _ {F A X : Type 0} (g : Mut F A (Unit {0})) (Shows : A → X → Type 0) (at : F → ℕ)
    (each : (f : F) (x : X) (f' : F) → CalledOn g Shows f x tt f' → at f' ≡ at f + 1) where
  pub answers-count : (members : List X) (f f' : F) → Answers g Shows tt f members f' →
      at f' ≡ at f + length members
  answers-count [] f f' calls = let same = ap at calls in omega (arith, same)
  answers-count (x ∷ xs) f f' calls =
      let first = each f x calls.0 calls.1 in
      let later = answers-count xs calls.0 f' calls.2 in
      omega (arith, first, later)

  -- So each member finds a lower count than the number of members.
  pub callable-count : (members : List X) (f : F) → at f ≡ 0 →
      ((x : X) (f' : F) → at f' < length members → CallableOn g Shows f' x) →
      Visitable g Shows f members
  callable-count members f none callable = record {
    at = λ x rest f' before.
        let counted = answers-count before.0 f f' before.2 in
        let whole = ap length before.1 ∙ length-append before.0 (x ∷ rest) in
        callable x f' (omega (arith, counted, whole, none));
  }

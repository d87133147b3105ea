-- What visits are, a call at a time and part by part.
use Rattle.std.specs.Prelude.{◌≡◌, ◌↔◌, ◌⊎◌, ℕ, List, [], ◌∷◌, ◌++◌, Option, Result, Ok, Err}
use Rattle.std.specs.Borrow.{Bor}
use Rattle.std.specs.Fn.{Mut, Called, Takes}
use Rattle.std.specs.Option.{option_copied}
use Rattle.std.specs.declared.alloc.AllocError.{AllocError}
use Rattle.rart_below.specs.declared.slot.Refusal.TheVariants.{Callback, Memory}
use Rattle.rart_below.specs.declared.visit.VisitControl.{VisitControl}
use Rattle.rart_below.specs.declared.visit.VisitControl.TheVariants.{Continue, Stop}
use Rattle.rart_maps.specs.ChangeVisits.{ByKeyChange, ByViewChange}
use Rattle.rart_maps.specs.Iterations.{ByKey, ByReference}
use Rattle.rart_maps.specs.Visits.{CalledOn, CallableOn, Visit, VisitFront, Visits, ByView, BySlice, ByValue, ByViewPair, ByKeyPair, ByValuePair, Visitable, VisitUntil, VisitUntilFront, VisitsUntil, VisitableUntil}

module _ {F A X : Type 0} (g : Mut F A (Unit {0})) (Shows : A → X → Type 0) where
  -- A visit of nothing leaves its closure as it was.
  abbrev pub VisitOfNothing : Type 0
  VisitOfNothing = (f f' : F) → Visit g Shows f [] f' ↔ (f ≡ f')

  -- A visit of one member is one call, with arguments that show it.
  abbrev pub VisitOfOne : Type 0
  VisitOfOne = (x : X) (f f' : F) → Visit g Shows f (x ∷ []) f'
      ↔ ((shown : A) × Called g f shown tt f' × Shows shown x)

  -- What may be called on one member may be called with all arguments that show it.
  abbrev pub VisitableOfOne : Type 0
  VisitableOfOne = (x : X) (f : F) → Visitable g Shows f (x ∷ [])
      ↔ ((shown : A) → Shows shown x → Takes g f shown)

  -- A visit of two lists, one behind the other, is one of the first and then one of the second.
  abbrev pub VisitOfParts : Type 0
  VisitOfParts = (xs ys : List X) (f f' : F) → Visit g Shows f (xs ++ ys) f'
      ↔ ((j : F) × Visit g Shows f xs j × Visit g Shows j ys f')

  -- A visitor that answers `Ok` has made a visit of all members; refused for memory, one of a
  -- prefix.
  abbrev pub VisitsTell : Type 0
  VisitsTell = (members : List X) (f f' : F) (refused : AllocError) →
      (Visits g Shows (Ok tt) f members f' ↔ Visit g Shows f members f')
      × (Visits g Shows (Err refused) f members f'
      ↔ ((front rest : List X) × (members ≡ front ++ rest) × Visit g Shows f front f'))

  -- What a refused visit leaves is what the visit of a prefix leaves.
  abbrev pub FrontOfVisit : Type 0
  FrontOfVisit = (members : List X) (f f' : F) → VisitFront g Shows f members f'
      ↔ ((front rest : List X) × (members ≡ front ++ rest) × Visit g Shows f front f')

  -- What may be called on the members in turn may be called on the first, and, whatever that call
  -- leaves, on the others in turn.
  abbrev pub VisitableStepByStep : Type 0
  VisitableStepByStep = (x : X) (xs : List X) (f : F) → Visitable g Shows f (x ∷ xs)
      ↔ (CallableOn g Shows f x × ((j : F) → CalledOn g Shows f x tt j → Visitable g Shows j xs))

-- one fact for `Continue`, and one for `Stop` and for an error
abbrev pub IfContinues : {E : Type 0} → Result VisitControl E → Type 0 → Type 0 → Type 0
IfContinues (Ok Continue) Goes Ends = Goes
IfContinues (Ok Stop) Goes Ends = Ends
IfContinues (Err e) Goes Ends = Ends

module _ {F A X E : Type 0} (g : Mut F A (Result VisitControl E)) (Shows : A → X → Type 0) where
  -- With no member left, no call is made.
  abbrev pub UntilNothing : Type 0
  UntilNothing = (f f' : F) (last : Result VisitControl E) → VisitUntil g Shows f [] last f'
      ↔ ((f ≡ f') × (last ≡ Ok Continue))

  -- A visit goes on behind a member where the answer is `Continue`, and else ends there.
  abbrev pub UntilStepByStep : Type 0
  UntilStepByStep = (x : X) (xs : List X) (f f' : F) (last : Result VisitControl E) →
      VisitUntil g Shows f (x ∷ xs) last f'
      ↔ ((answer : Result VisitControl E) × (j : F) × CalledOn g Shows f x answer j
      × IfContinues answer (VisitUntil g Shows j xs last f') ((j ≡ f') × (last ≡ answer)))

  -- What a refused visit leaves is what a visit leaves that goes on behind each member of a
  -- prefix.
  abbrev pub FrontOfUntil : Type 0
  FrontOfUntil = (members : List X) (f f' : F) → VisitUntilFront g Shows f members f'
      ↔ ((front rest : List X) × (members ≡ front ++ rest)
      × VisitUntil g Shows f front (Ok Continue) f')

  -- What may be called on the members in turn may be called on the first, and, whatever that call
  -- leaves where it answers `Continue`, on the others in turn.
  abbrev pub UntilCallableStepByStep : Type 0
  UntilCallableStepByStep = (x : X) (xs : List X) (f : F) → VisitableUntil g Shows f (x ∷ xs)
      ↔ (CallableOn g Shows f x
      × ((j : F) → CalledOn g Shows f x (Ok Continue) j → VisitableUntil g Shows j xs))

  -- f is called on the members of a prefix, and answers `Continue` on each but the last, on
  -- which it gives this answer.
  abbrev pub EndsOnOne : F → List X → Result VisitControl E → F → Type 0
  EndsOnOne f members answer f' = (front : List X) × (x : X) × (rest : List X) × (j : F)
      × (members ≡ front ++ x ∷ rest) × VisitUntil g Shows f front (Ok Continue) j
      × CalledOn g Shows j x answer f'

  -- A visitor that answers `Ok` has called f on all members, each answered `Continue`, or on those
  -- up to one that it answered `Stop`.
  abbrev pub UntilDone : Type 0
  UntilDone = (members : List X) (f f' : F) → VisitsUntil g Shows (Ok tt) f members f'
      ↔ (VisitUntil g Shows f members (Ok Continue) f' ⊎ EndsOnOne f members (Ok Stop) f')

  -- One that answers an error of the callback, on those up to one that f answered that error.
  abbrev pub UntilCallbackRefuses : Type 0
  UntilCallbackRefuses = (members : List X) (f f' : F) (e : E) →
      VisitsUntil g Shows (Err (Callback e)) f members f' ↔ EndsOnOne f members (Err e) f'

  -- One that was refused for memory, on a prefix of the members, each answered `Continue`.
  abbrev pub UntilMemoryIsRefused : Type 0
  UntilMemoryIsRefused = (members : List X) (f f' : F) (refused : AllocError) →
      VisitsUntil g Shows (Err (Memory refused)) f members f'
      ↔ ((front rest : List X) × (members ≡ front ++ rest)
      × VisitUntil g Shows f front (Ok Continue) f')

-- What a closure is shown, or an iterator gives: a key of these bytes, and references to these
-- values, in this order.
module _ (K V : Type 0) (bytes : K → List ℕ) where
  abbrev pub ArgumentsShowTheirMembers : Type 0
  ArgumentsShowTheirMembers = (key : List ℕ) (k : K) (slice : Bor (List ℕ)) (r s : Bor V)
      (w : List ℕ) (x y : V) →
      (ByView (key, (r, tt)) (w, x) ↔ ((key ≡ w) × (r.now ≡ x)))
      × (BySlice (slice, (r, tt)) (w, x) ↔ ((slice.now ≡ w) × (r.now ≡ x)))
      × (ByValue (r, tt) x ↔ (r.now ≡ x))
      × (ByViewPair (key, (r, (s, tt))) (w, x, y) ↔ ((key ≡ w) × (r.now ≡ x) × (s.now ≡ y)))
      × (ByKeyPair bytes (k, (r, (s, tt))) (w, x, y)
      ↔ ((bytes k ≡ w) × (r.now ≡ x) × (s.now ≡ y)))
      × (ByValuePair (r, (s, tt)) (x, y) ↔ ((r.now ≡ x) × (s.now ≡ y)))
      × (ByKey bytes (k, r) (w, x) ↔ ((bytes k ≡ w) × (r.now ≡ x)))
      × (ByReference r x ↔ (r.now ≡ x))

  -- Of a change, a view or a key of these bytes, and references to the values before and after,
  -- where there are any.
  abbrev pub ArgumentsShowTheirChanges : Type 0
  ArgumentsShowTheirChanges = (key : List ℕ) (k : K) (before after : Option (Bor V))
      (w : List ℕ) (x y : Option V) →
      (ByViewChange (key, (before, (after, tt))) (w, x, y)
      ↔ ((key ≡ w) × (option_copied before ≡ x) × (option_copied after ≡ y)))
      × (ByKeyChange bytes (k, (before, (after, tt))) (w, x, y)
      ↔ ((bytes k ≡ w) × (option_copied before ≡ x) × (option_copied after ≡ y)))

-- What a visitor does: calls of its closure on the members of a list.
use Rattle.std.specs.Prelude.{◌≡◌, ℕ, List, ◌∷◌, ◌++◌, Result, Ok, Err}
use Rattle.std.specs.declared.alloc.AllocError.{AllocError}
use Rattle.std.specs.Borrow.{Bor}
use Rattle.std.specs.Fn.{Mut, Called, Takes}
use Rattle.std.specs.List.{FoldsTo}
use Rattle.rart_below.specs.declared.slot.Refusal.{Refusal}
use Rattle.rart_below.specs.declared.slot.Refusal.TheVariants.{Callback, Memory}
use Rattle.rart_below.specs.declared.visit.VisitControl.{VisitControl}
use Rattle.rart_below.specs.declared.visit.VisitControl.TheVariants.{Continue, Stop}

-- ---- how a closure is shown a member

module _ {V : Type 0} where
  -- a pair, by a view of its key and a reference to its value
  abbrev pub ByView : List ℕ × (Bor V × Unit {0}) → List ℕ × V → Type 0
  ByView shown pair = (shown.0 ≡ pair.0) × (shown.1.0.now ≡ pair.1)

  -- a pair, by a slice of its key's bytes and a reference to its value
  abbrev pub BySlice : Bor (List ℕ) × (Bor V × Unit {0}) → List ℕ × V → Type 0
  BySlice shown pair = (shown.0.now ≡ pair.0) × (shown.1.0.now ≡ pair.1)

  -- a value, by a reference
  abbrev pub ByValue : Bor V × Unit {0} → V → Type 0
  ByValue shown value = shown.0.now ≡ value

  -- a key of two maps with what either has there, by a view of the key and references to both
  -- values
  abbrev pub ByViewPair : List ℕ × (Bor V × (Bor V × Unit {0})) → List ℕ × V × V → Type 0
  ByViewPair shown entry =
      (shown.0 ≡ entry.0) × (shown.1.0.now ≡ entry.1) × (shown.1.1.0.now ≡ entry.2)

  -- the same, by a key with these bytes
  abbrev pub ByKeyPair :
      {K : Type 0} → (K → List ℕ) → K × (Bor V × (Bor V × Unit {0})) → List ℕ × V × V → Type 0
  ByKeyPair bytes shown entry =
      (bytes shown.0 ≡ entry.0) × (shown.1.0.now ≡ entry.1) × (shown.1.1.0.now ≡ entry.2)

  -- two values, by references
  abbrev pub ByValuePair : Bor V × (Bor V × Unit {0}) → V × V → Type 0
  ByValuePair shown values = (shown.0.now ≡ values.0) × (shown.1.0.now ≡ values.1)

-- ---- one call, and a call on each member

-- A closure f is shown a member x by arguments a where `Shows a x`.
module _ {F A R X : Type 0} (g : Mut F A R) (Shows : A → X → Type 0) where
  -- A call on the member may give this answer, and leave f'.
  abbrev pub CalledOn : F → X → R → F → Type 0
  CalledOn f x answer f' = (a : A) × Called g f a answer f' × Shows a x

  -- It may be called on the member.
  abbrev pub CallableOn : F → X → Type 0
  CallableOn f x = (a : A) → Shows a x → Takes g f a

  -- It is called on the members in order, once each, and on nothing else, and each time gives this
  -- answer.
  abbrev pub Answers : R → F → List X → F → Type 0
  Answers answer f members f' = FoldsTo (λ j x j'. CalledOn j x answer j') f members f'

  -- so for the members before the rest
  abbrev pub AnswersUpTo : R → F → List X → List X → F → Type 0
  AnswersUpTo answer f members rest f' =
      (front : List X) × (members ≡ front ++ rest) × Answers answer f front f'

  -- It may be called on each member, in every state that such calls on those before it may leave.
  pub record CallableInTurn (answer : R) (f : F) (members : List X) : Type 0 where
    pub at : (x : X) (rest : List X) (f' : F) →
        AnswersUpTo answer f members (x ∷ rest) f' → CallableOn f' x

-- ---- visitors

module _ {F A X : Type 0} (g : Mut F A (Unit {0})) (Shows : A → X → Type 0) where
  -- f is called on the members in order, once each, and on nothing else.
  abbrev pub Visit : F → List X → F → Type 0
  Visit f members f' = Answers g Shows tt f members f'

  -- so for the members of a prefix, which is what a refusal leaves
  abbrev pub VisitFront : F → List X → F → Type 0
  VisitFront f members f' = (rest : List X) × AnswersUpTo g Shows tt f members rest f'

  -- what a visitor that takes memory has done, by its answer: a visit of all members, or, refused,
  -- of a prefix
  abbrev pub Visits : Result (Unit {0}) AllocError → F → List X → F → Type 0
  Visits (Ok done) f members f' = Visit f members f'
  Visits (Err refused) f members f' = VisitFront f members f'

  -- what its caller grants: f may be called on each member, in every state that is reached
  abbrev pub Visitable : F → List X → Type 0
  Visitable f members = CallableInTurn g Shows tt f members

module _ {F A X E : Type 0} (g : Mut F A (Result VisitControl E)) (Shows : A → X → Type 0) where
  -- f is called on the members up to one on which it gives this answer, and on those before it
  -- answers `Continue`.
  abbrev pub VisitUpTo : F → List X → Result VisitControl E → F → Type 0
  VisitUpTo f members answer f' = (x : X) × (rest : List X) × (j : F)
      × AnswersUpTo g Shows (Ok Continue) f members (x ∷ rest) j × CalledOn g Shows j x answer f'

  -- f is called on the members in order, once each, up to and including the first on which it
  -- answers `Stop` or an error, and on nothing else. Its last answer is `Continue` where there is
  -- no such member.
  abbrev pub VisitUntil : F → List X → Result VisitControl E → F → Type 0
  VisitUntil f members (Ok Continue) f' = Answers g Shows (Ok Continue) f members f'
  VisitUntil f members (Ok Stop) f' = VisitUpTo f members (Ok Stop) f'
  VisitUntil f members (Err e) f' = VisitUpTo f members (Err e) f'

  -- what a refusal leaves: f is called on the members of a prefix, and answers `Continue`
  abbrev pub VisitUntilFront : F → List X → F → Type 0
  VisitUntilFront f members f' =
      (rest : List X) × AnswersUpTo g Shows (Ok Continue) f members rest f'

  -- what a visitor that takes memory has done, by its answer: `Ok` tells that f answered no error,
  -- and `Callback` which one; refused for memory, f answered `Continue` on a prefix
  abbrev pub VisitsUntil : Result (Unit {0}) (Refusal E) → F → List X → F → Type 0
  VisitsUntil (Ok done) f members f' =
      (last : VisitControl) × VisitUntil f members (Ok last) f'
  VisitsUntil (Err (Callback e)) f members f' = VisitUntil f members (Err e) f'
  VisitsUntil (Err (Memory refused)) f members f' = VisitUntilFront f members f'

  -- what its caller grants: f may be called on each member, in every state that is reached
  abbrev pub VisitableUntil : F → List X → Type 0
  VisitableUntil f members = CallableInTurn g Shows (Ok Continue) f members

-- What the callback of a visit does that ends it on the visit of a number.
use Rattle.std.specs.Prelude.{◌≡◌, ℕ, Bool, true, false, ◌++◌, ◌∷◌, [], ◌==◌, length, if◌then◌else◌, Result, Ok, Err, ⊤}
use Rattle.rart_versioned.specs.VisitControl.TheVariants.{Continue, Stop}
use Rattle.rart_versioned.specs.Refusal.TheVariants.{Callback, Memory}
use Rattle.rart_versioned.specs.VisitControl.{VisitControl}
use Rattle.rart_versioned.specs.Refusal.{Refusal}
use Rattle.rart_family.specs.declared.family.command.Failure.{Failure}
use Rattle.rart_family.specs.declared.family.collection.Countdown.{Countdown}

-- what it answers on the last visit: it stops or fails
abbrev pub last_answer : Bool → Result VisitControl (Refusal Failure)
last_answer true = Err (Callback (record {}))
last_answer false = Ok Stop

-- what it answers on the visit of this number
abbrev pub answer_on : ℕ → ℕ → Bool → Result VisitControl (Refusal Failure)
answer_on visit last_visit fails =
    if visit == last_visit then last_answer fails else Ok Continue

module _ {V : Type 0} where
  -- The value was visited: a copy of it stands at the end, and the answer is that of this visit.
  pub record VisitedOne (before : Countdown V) (value : V)
      (answer : Result VisitControl (Refusal Failure)) (after : Countdown V) : Type 0 where
    pub values : after.values.items ≡ before.values.items ++ value ∷ []
    pub last_visit : after.last_visit ≡ before.last_visit
    pub fails : after.fails ≡ before.fails
    pub answered : answer ≡ answer_on (length after.values.items) before.last_visit before.fails

  -- The same, unless memory was refused.
  abbrev pub Visited :
      Countdown V → V → Result VisitControl (Refusal Failure) → Countdown V → Type 0
  Visited before value (Err (Memory refused)) after = ⊤
  Visited before value answer after = VisitedOne before value answer after

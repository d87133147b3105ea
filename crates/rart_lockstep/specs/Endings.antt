-- What a visit that may end early has done, by its answer.
use Rattle.std.specs.Prelude.{◌∷◌, List, Option, Some, None, Result, Ok, Err}
use Rattle.std.specs.Fn.{Mut}
use Rattle.rart_below.specs.declared.slot.Refusal.{Refusal}
use Rattle.rart_below.specs.declared.slot.Refusal.TheVariants.{Callback, Memory}
use Rattle.rart_below.specs.declared.visit.VisitControl.{VisitControl}
use Rattle.rart_below.specs.declared.visit.VisitControl.TheVariants.{Stop}
use Rattle.rart_lockstep.specs.declared.ended.Ended.{Ended}
use Rattle.rart_lockstep.specs.declared.ended.Ended.TheVariants.{Refused, Stopped}
use Rattle.rart_maps.specs.Visits.{Answers, AnswersUpTo, CalledOn}

module _ {F A R X : Type 0} (g : Mut F A R) (Shows : A → X → Type 0) (goes : R) where
  -- It ended early: calls on the members of a prefix gave the answer on which it goes on. Where
  -- another answer ended it, a call on the next member gave that.
  abbrev pub LeavesBy : Option R → F → List X → F → Type 0
  LeavesBy None f members f' = (rest : List X) × AnswersUpTo g Shows goes f members rest f'
  LeavesBy (Some other) f members f' = (x : X) × (rest : List X) × (j : F)
      × AnswersUpTo g Shows goes f members (x ∷ rest) j × CalledOn g Shows j x other f'

  -- A call on each member gave the answer on which it goes on; or it ended early, and the error
  -- tells which other answer ended it, if one did.
  abbrev pub VisitsBy : {E : Type 0} → (E → Option R) → Result (Unit {0}) E → F → List X → F
      → Type 0
  VisitsBy told (Ok done) f members f' = Answers g Shows goes f members f'
  VisitsBy told (Err e) f members f' = LeavesBy (told e) f members f'

-- ---- of a closure that may end it
module _ {E : Type 0} where
  -- the answer that ended it, or none where memory was refused
  abbrev pub ending_answer : Ended E → Option (Result VisitControl E)
  ending_answer Stopped = Some (Ok Stop)
  ending_answer (Refused (Callback e)) = Some (Err e)
  ending_answer (Refused (Memory refused)) = None

  -- what the call answers then: to be stopped is no error
  abbrev pub without_stop : Result (Unit {0}) (Ended E) → Result (Unit {0}) (Refusal E)
  without_stop (Ok done) = Ok done
  without_stop (Err Stopped) = Ok tt
  without_stop (Err (Refused refusal)) = Err refusal

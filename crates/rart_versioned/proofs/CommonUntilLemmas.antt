-- An intersection that its closure may end, by why the way down both trees ended.
use Rattle.std.proofs.Common.{List, ◌∷◌, Option, Some, None, Result, Ok, Err, inl, inr}
use Rattle.std.specs.Prelude.{OnOk, ⊤}
use Rattle.std.specs.Fn.{Mut}
use Rattle.rart_below.specs.declared.slot.Refusal.TheVariants.{Callback, Memory}
use Rattle.rart_below.specs.declared.visit.VisitControl.{VisitControl}
use Rattle.rart_below.specs.declared.visit.VisitControl.TheVariants.{Continue, Stop}
use Rattle.rart_maps.specs.Visits.{VisitUpTo, VisitsUntil}
use Rattle.rart_walks.specs.Ends.{Ends, EndsWithin}
use Rattle.rart_lockstep.specs.Endings.{VisitsBy, ending_answer, without_stop}
use Rattle.rart_lockstep.specs.declared.ended.Ended.{Ended}
use Rattle.rart_lockstep.specs.declared.ended.Ended.TheVariants.{Refused, Stopped}

module _ {F A X E : Type 0} (g : Mut F A (Result VisitControl E)) (Shows : A → X → Type 0) where
  ends-on : (f f' : F) (members : List X) (answer : Result VisitControl E)
      → VisitUpTo g Shows f members answer f'
      → EndsWithin g Shows (λ front last. ⊤) f members answer f'
  ends-on f f' members answer (x, rest, j, calls, called) = (
    calls.0,
    x,
    record { rest = rest; is = calls.1; state = j; calls = calls.2; call = called },
    tt,
  )

  module _ (f f' : F) (members : List X) where
    pub visits-until : (result : Result (Unit {0}) (Ended E))
        → VisitsBy g Shows (Ok Continue) ending_answer result f members f'
        → VisitsUntil g Shows (without_stop result) f members f'
    visits-until (Ok done) visits = (Continue, visits)
    visits-until (Err Stopped) visits = (Stop, visits)
    visits-until (Err (Refused (Callback e))) visits = visits
    visits-until (Err (Refused (Memory refused))) visits = visits

    pub counts-until : (Through : Type 0) (result : Result (Unit {0}) (Ended E))
        → VisitsBy g Shows (Ok Continue) ending_answer result f members f'
        → OnOk result Through
        → Ends g Shows Through (λ front last. ⊤) (without_stop result) f members f'
    counts-until Through (Ok done) visits through = inl (visits, through)
    counts-until Through (Err Stopped) visits through = inr (ends-on f f' members (Ok Stop) visits)
    counts-until Through (Err (Refused (Callback e))) visits through =
        ends-on f f' members (Err e) visits
    counts-until Through (Err (Refused (Memory refused))) visits through = tt

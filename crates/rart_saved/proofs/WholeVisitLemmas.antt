-- Visits that may stop, by closures that never do.
use Rattle.std.proofs.Common.{List, Result, Ok, Err}
use Rattle.std.specs.Prelude.{IsOk}
use Rattle.std.specs.Fn.{Mut}
use Rattle.std.proofs.lemmas.Bool.{false≢true}
use Rattle.rart_maps.specs.Visits.{Answers, CalledOn, VisitUntil, VisitsUntil}
use Rattle.rart_versioned.specs.Refusal.{Refusal}
use Rattle.rart_versioned.specs.VisitControl.{VisitControl}
use Rattle.rart_versioned.specs.VisitControl.TheVariants.{Continue, Stop}

module _ {F A X E : Type 0} (g : Mut F A (Result VisitControl E)) (Shows : A → X → Type 0)
    (goes_on : (f : F) (x : X) (f' : F) → CalledOn g Shows f x (Ok Stop) f' → ⊥) where
  whole : (members : List X) (last : VisitControl) (f f' : F)
      → VisitUntil g Shows f members (Ok last) f' → Answers g Shows (Ok Continue) f members f'
  whole members Continue f f' visit = visit
  whole members Stop f f' visit = absurd (goes_on visit.2 visit.0 f' visit.4)

  -- Unless it was refused, such a visit went on to the last member.
  pub visit-whole : (members : List X) (answer : Result (Unit {0}) (Refusal E)) (f f' : F)
      → IsOk answer → VisitsUntil g Shows answer f members f'
      → Answers g Shows (Ok Continue) f members f'
  visit-whole members (Ok done) f f' ok visits = whole members visits.0 f f' visits.1
  visit-whole members (Err refused) f f' ok visits = absurd (false≢true ok)

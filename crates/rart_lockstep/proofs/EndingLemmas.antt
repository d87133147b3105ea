-- A visit that ends early, within a part of its members and of all.
use Rattle.std.proofs.Common.{◌≡◌, List, ◌∷◌, ◌++◌, Option, Some, None, Result, Ok, Err, sym, subst}
use Rattle.std.specs.Result.{IsErr, IsErrAnd, OnOk}
use Rattle.std.specs.declared.alloc.AllocError.{AllocError}
use Rattle.std.specs.Fn.{Mut}
use Rattle.std.proofs.lemmas.Bool.{false≢true}
use Rattle.rart_maps.specs.Visits.{AnswersUpTo, Visits}
use Rattle.rart_maps.proofs.VisitLemmas.{up_to-within}
use Rattle.rart_lockstep.specs.Endings.{LeavesBy, VisitsBy}

module _ {F A R X : Type 0} (g : Mut F A R) (Shows : A → X → Type 0) (goes : R) where
  -- What ends within a part ends within all.
  pub leaves-within : (by : Option R) {f j : F} (last : F) {members left : List X}
      (part rest : List X)
      → left ≡ part ++ rest → AnswersUpTo g Shows goes f members left j
      → LeavesBy g Shows goes by j part last → LeavesBy g Shows goes by f members last
  leaves-within None last part rest comes before ends =
      (_, up_to-within g Shows goes part rest comes before ends.0 ends.1)
  leaves-within (Some other) last part rest comes before (x, within, state, calls, called) = (
    x,
    within ++ rest,
    state,
    up_to-within g Shows goes part rest comes before (x ∷ within) calls,
    called,
  )

  module _ {E : Type 0} (told : E → Option R) where
    -- Where it ended early, nothing else is owed.
    pub have-ended : (Else : Type 0) (f f' : F) (members : List X) (result : Result (Unit {0}) E)
        (e : E) → IsErr result → IsErrAnd result (λ other. other ≡ e)
        → LeavesBy g Shows goes (told e) f members f'
        → VisitsBy g Shows goes told result f members f' × OnOk result Else
    have-ended Else f f' members (Ok done) e is same ends = absurd (false≢true is)
    have-ended Else f f' members (Err other) e is same ends = (
      subst (λ o. LeavesBy g Shows goes (told o) f members f') (sym same) ends,
      tt,
    )

-- A visit that its closure doesn't end.
module _ {F A X : Type 0} (g : Mut F A (Unit {0})) (Shows : A → X → Type 0) where
  pub visits-plain : (result : Result (Unit {0}) AllocError) (f f' : F) (members : List X)
      → VisitsBy g Shows tt (λ _. None) result f members f' → Visits g Shows result f members f'
  visits-plain (Ok done) f f' members visits = visits
  visits-plain (Err refused) f f' members visits = visits

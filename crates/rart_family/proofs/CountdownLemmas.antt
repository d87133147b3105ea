-- What a visit leaves whose callback ends it on the visit of a number.
use Rattle.std.proofs.Common.{◌≡◌, ◌≢◌, ℕ, ◌+◌, ◌<◌, ◌≤◌, Bool, true, false, cond, ◌==◌, List, [], ◌∷◌, ◌++◌, length, take, Result, Ok, Err, refl, sym, ap, subst, ◌∙◌, append_assoc, arith}
use Rattle.std.specs.Fn.{Mut}
use Rattle.std.proofs.Math.Seq.{take-append_seam}
use Rattle.std.proofs.lemmas.Bool.{eqb-true, false≢true, eq-eqb}
use Rattle.std.proofs.lemmas.Bool.Decides.{nat_tests}
use Rattle.std.proofs.lemmas.List.{append-nil, length-append}
use Rattle.rart_maps.specs.Visits.{CalledOn, Answers, VisitUntil, VisitsUntil}
use Rattle.rart_versioned.specs.VisitControl.TheVariants.{Continue, Stop}
use Rattle.rart_versioned.specs.Refusal.TheVariants.{Callback, Memory}
use Rattle.rart_versioned.specs.VisitControl.{VisitControl}
use Rattle.rart_versioned.specs.Refusal.{Refusal}
use Rattle.rart_family.specs.declared.family.command.Failure.{Failure}
use Rattle.rart_family.specs.declared.family.collection.Countdown.{Countdown}
use Rattle.rart_family.specs.Countdowns.{last_answer, Visited, VisitedOne}
use Rattle.rart_family.specs.Families.{is_reached, stopped}
use Rattle.rart_family.specs.Replies.{Reply, Stopped}

-- ---- which answer tells what of the number of its visit

continues-by : (here fails : Bool) → Ok Continue ≡ cond here (last_answer fails) (Ok Continue) →
    here ≡ false
continues-by false fails is = refl
continues-by true false is = cc
continues-by true true is = cc

stops-by : (here fails : Bool) → Ok Stop ≡ cond here (last_answer fails) (Ok Continue) →
    (here ≡ true) × (fails ≡ false)
stops-by false fails is = cc
stops-by true false is = (refl, refl)
stops-by true true is = cc

fails-by : (here fails : Bool) (failure : Failure) →
    Err (Callback failure) ≡ cond here (last_answer fails) (Ok Continue) → (here ≡ true)
    × (fails ≡ true)
fails-by false fails failure is = cc
fails-by true false failure is = cc
fails-by true true failure is = (refl, refl)

-- ---- what is replied

module _ {V : Type 0} where
  replied-by : (b : Bool) (last : ℕ) (fails : Bool) (values : List V) →
      is_reached last (length values) ≡ b →
      stopped last fails values ≡ cond b (Stopped (take last values) fails) (Stopped values false)
  replied-by b last fails values is = ap
      (λ r. cond r (Stopped (take last values) fails) (Stopped values false)) is

  stopped-reached : (front rest : List V) (x : V) (last : ℕ) (fails : Bool) →
      length (front ++ x ∷ []) ≡ last →
      stopped last fails (front ++ x ∷ rest) ≡ Stopped (front ++ x ∷ []) fails
  stopped-reached front rest x last fails is =
      let whole : front ++ x ∷ rest ≡ (front ++ x ∷ []) ++ rest =
      sym (append_assoc front (x ∷ []) rest) in
      let count = length-append front (x ∷ []) in
      let all = length-append front (x ∷ rest) in
      let reached : is_reached last (length (front ++ x ∷ rest)) ≡ true =
      grind (arith, nat_tests) in
      replied-by true last fails (front ++ x ∷ rest) reached
      ∙ ap (λ xs. Stopped xs fails) (ap (take last) whole
      ∙ ap (λ n. take n ((front ++ x ∷ []) ++ rest)) (sym is)
      ∙ take-append_seam (front ++ x ∷ []) rest)

  stopped-passed : (values : List V) (last : ℕ) (fails : Bool) →
      ((k : ℕ) → 0 < k → k ≤ length values → k ≢ last) →
      stopped last fails values ≡ Stopped values false
  stopped-passed values last fails passed =
      let never : 0 < last → last ≤ length values → ⊥ =
      λ some within. passed last some within refl in
      let missed : is_reached last (length values) ≡ false = grind (arith, nat_tests) in
      replied-by false last fails values missed

-- ---- what a visit leaves

-- A countdown that went over these values, and ended on none of them.
record Went {V : Type 0} (before : Countdown V) (front : List V) (after : Countdown V)
    : Type 0 where
  values : after.values.items ≡ before.values.items ++ front
  last_visit : after.last_visit ≡ before.last_visit
  fails : after.fails ≡ before.fails
  passed : (k : ℕ) → length before.values.items < k → k ≤ length after.values.items →
      k ≢ before.last_visit

went-passed : {V : Type 0} (before mid after : Countdown V) (x : V) {xs : List V} →
    VisitedOne before x (Ok Continue) mid → Went mid xs after →
    (k : ℕ) → length before.values.items < k → k ≤ length after.values.items → k ≢ before.last_visit
went-passed before mid after x one later k more most is =
    let here = continues-by (length mid.values.items == before.last_visit)
    before.fails one.answered in
    let grown : length mid.values.items ≡ length before.values.items + 1 = ap length one.values
    ∙ length-append before.values.items (x ∷ []) in
    let behind : length mid.values.items < k → ⊥ =
    λ beyond. later.passed k beyond most (is ∙ sym one.last_visit) in
    let other : length mid.values.items ≡ before.last_visit → ⊥ =
    λ e. false≢true (sym here ∙ eq-eqb _ _ e) in
    let first : k ≡ length mid.values.items → ⊥ = λ e. other (sym e ∙ is) in
    grind (arith)

module _ {F B V : Type 0} (g : Mut F B (Result VisitControl (Refusal Failure)))
    (Shows : B → V → Type 0)
    (at : F → Countdown V)
    (each : (f : F) (x : V) (answer : Result VisitControl (Refusal Failure)) (f' : F) →
    CalledOn g Shows f x answer f' → Visited (at f) x answer (at f')) where
  went : (front : List V) (f f' : F) → Answers g Shows (Ok Continue) f front f' →
      Went (at f) front (at f')
  went [] f f' calls = subst (λ s. Went (at f) [] (at s)) calls (record {
    values = sym (append-nil (at f).values.items);
    last_visit = refl;
    fails = refl;
    passed = λ k more most. absurd (omega (arith, more, most));
  })
  went (x ∷ xs) f f' calls =
      let one = each f x (Ok Continue) calls.0 calls.1 in
      let later = went xs calls.0 f' calls.2 in
      record {
        values = later.values ∙ ap (λ ys. ys ++ xs) one.values
            ∙ append_assoc (at f).values.items (x ∷ []) xs;
        last_visit = later.last_visit ∙ one.last_visit;
        fails = later.fails ∙ one.fails;
        passed = λ k more most. went-passed (at f) (at calls.0) (at f') x one later k more most;
      }

  -- Where it ends on a value, that is the one of the number, and it fails there as it is to.
  visited-last : (fails : Bool) (members front rest : List V) (x : V) (f j f' : F) →
      (at f).values.items ≡ [] →
      members ≡ front ++ x ∷ rest → Went (at f) front (at j) →
      (at f').values.items ≡ (at j).values.items ++ x ∷ [] →
      (length (at f').values.items ≡ (at j).last_visit) × ((at j).fails ≡ fails) →
      Stopped (at f').values.items fails ≡ stopped (at f).last_visit (at f).fails members
  visited-last fails members front rest x f j f' none split before values ends =
      let kept : (at f').values.items ≡ front ++ x ∷ [] = values
      ∙ ap (λ xs. xs ++ x ∷ []) (before.values ∙ ap (λ xs. xs ++ front) none) in
      let count : length (front ++ x ∷ []) ≡ (at f).last_visit = ap length (sym kept) ∙ ends.0
      ∙ before.last_visit in
      ap (λ xs. Stopped xs fails) kept
      ∙ sym (stopped-reached front rest x (at f).last_visit fails count)
      ∙ ap (λ b. stopped (at f).last_visit b (front ++ x ∷ rest)) (sym ends.1 ∙ before.fails)
      ∙ ap (stopped (at f).last_visit (at f).fails) (sym split)

  ends-well : (members : List V) (f f' : F) (last : VisitControl) → (at f).values.items ≡ [] →
      VisitUntil g Shows f members (Ok last) f' →
      Stopped (at f').values.items false ≡ stopped (at f).last_visit (at f).fails members
  ends-well members f f' Continue none visit =
      let all = went members f f' visit in
      let kept : (at f').values.items ≡ members = all.values ∙ ap (λ xs. xs ++ members) none in
      ap (λ xs. Stopped xs false) kept
      ∙ sym (stopped-passed members (at f).last_visit (at f).fails
      (λ k some within. all.passed k (subst (λ xs. length xs < k) (sym none) some)
      (subst (λ xs. k ≤ length xs) (sym kept) within)))
  ends-well members f f' Stop none visit =
      let j = visit.2 in
      let one = each j visit.0 (Ok Stop) f' visit.4 in
      let tells = stops-by (length (at f').values.items == (at j).last_visit)
      (at j).fails one.answered in
      visited-last false members visit.3.0 visit.1 visit.0 f j f' none visit.3.1
      (went visit.3.0 f j visit.3.2) one.values (eqb-true _ _ tells.0, tells.1)

  ends-failing : (members : List V) (f f' : F) (failure : Failure) → (at f).values.items ≡ [] →
      VisitUntil g Shows f members (Err (Callback failure)) f' →
      Stopped (at f').values.items true ≡ stopped (at f).last_visit (at f).fails members
  ends-failing members f f' failure none visit =
      let j = visit.2 in
      let one = each j visit.0 (Err (Callback failure)) f' visit.4 in
      let tells = fails-by (length (at f').values.items == (at j).last_visit)
      (at j).fails failure one.answered in
      visited-last true members visit.3.0 visit.1 visit.0 f j f' none visit.3.1
      (went visit.3.0 f j visit.3.2) one.values (eqb-true _ _ tells.0, tells.1)

  -- What is replied where the visit ended with `Ok`, and where with the callback's own error.
  module _ (members : List V) (answer : Result (Unit {0}) (Refusal (Refusal Failure))) (f f' : F)
      (visits : ℕ) (fails : Bool) (none : (at f).values.items ≡ [])
      (last : (at f).last_visit ≡ visits) (how : (at f).fails ≡ fails)
      (visit : VisitsUntil g Shows answer f members f') where
    asked : (reply : Reply V) → reply ≡ stopped (at f).last_visit (at f).fails members →
        reply ≡ stopped visits fails members
    asked reply is = is ∙ ap (λ n. stopped n (at f).fails members) last
        ∙ ap (λ b. stopped visits b members) how

    pub replied-ok : answer ≡ Ok tt → Stopped (at f').values.items false
        ≡ stopped visits fails members
    replied-ok is =
        let ended = subst (λ a. VisitsUntil g Shows a f members f') is visit in
        asked _ (ends-well members f f' ended.0 none ended.1)

    pub replied-failed : (failure : Failure) → answer ≡ Err (Callback (Callback failure)) →
        Stopped (at f').values.items true ≡ stopped visits fails members
    replied-failed failure is =
        let ended = subst (λ a. VisitsUntil g Shows a f members f') is visit in
        asked _ (ends-failing members f f' failure none ended)

module _ {F B X E : Type 0} (g : Mut F B (Result VisitControl E)) (Shows : B → X → Type 0)
    (P : F → Type 0)
    (each : (f : F) (x : X) (answer : Result VisitControl E) (f' : F) →
    CalledOn g Shows f x answer f' → P f' → P f) where
  leads-back : (front : List X) (f last : F) → Answers g Shows (Ok Continue) f front last → P last →
      P f
  leads-back [] f last calls holds = subst P (sym calls) holds
  leads-back (x ∷ xs) f last calls holds =
      each f x (Ok Continue) calls.0 calls.1 (leads-back xs calls.0 last calls.2 holds)

  until-leads_back : (members : List X) (answer : Result VisitControl E) (f last : F) →
      VisitUntil g Shows f members answer last → P last → P f
  until-leads_back members (Ok Continue) f last visit holds = leads-back members f last visit holds
  until-leads_back members (Ok Stop) f last visit holds =
      leads-back visit.3.0 f visit.2 visit.3.2 (each visit.2 visit.0 (Ok Stop) last visit.4 holds)
  until-leads_back members (Err e) f last visit holds =
      leads-back visit.3.0 f visit.2 visit.3.2 (each visit.2 visit.0 (Err e) last visit.4 holds)

  -- What each call leads back from the state after it, the visit leads back from its end: for what
  -- the closure's captures refer to.
  pub visits-lead_back : (members : List X) (answer : Result (Unit {0}) (Refusal E)) (f last : F) →
      VisitsUntil g Shows answer f members last → P last → P f
  visits-lead_back members (Ok done) f last visits holds =
      until-leads_back members (Ok visits.0) f last visits.1 holds
  visits-lead_back members (Err (Callback e)) f last visits holds =
      until-leads_back members (Err e) f last visits holds
  visits-lead_back members (Err (Memory refused)) f last visits holds =
      leads-back visits.1.0 f last visits.1.2 holds

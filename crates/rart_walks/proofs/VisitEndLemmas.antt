-- A visit that its closure may end, node by node: on whose values the closure was called, and what
-- was entered by then.
use Rattle.std.proofs.Common.{◌≡◌, ◌+◌, ◌≤◌, ℕ, Bool, true, false, List, [], ◌∷◌, ◌++◌, Option, Some, None, Result, Ok, length, arith, refl, sym, ap, subst, ◌∙◌, append_assoc}
use Rattle.std.specs.List.{concat}
use Rattle.std.specs.Borrow.{Bor}
use Rattle.std.specs.Fn.{Mut}
use Rattle.std.specs.declared.ops.Bound.{Bound}
use Rattle.std.proofs.lemmas.Bool.{true≢false}
use Rattle.std.proofs.lemmas.List.{append-nil, length-append}
use Rattle.std.proofs.lemmas.List.Elements.{All-nil, All-cons, All-head, All-pop, All-weaker}
use Rattle.rart_below.specs.Bytes.{begins}
use Rattle.rart_below.specs.declared.visit.VisitControl.{VisitControl}
use Rattle.rart_below.specs.declared.visit.VisitControl.TheVariants.{Continue}
use Rattle.rart_maps.specs.Visits.{Answers, CalledOn}
use Rattle.rart_maps.proofs.OrderLemmas.{begins-rest}
use Rattle.rart_maps.proofs.RangeLemmas.{is_below}
use Rattle.rart_maps.proofs.VisitLemmas.{answers-append}
use Rattle.rart_node.specs.Counts.{Counts, CountsUpTo}
use Rattle.rart_walks.specs.Walks.{Cursor, ComesTo, GoesOnFirst}
use Rattle.rart_walks.specs.Ends.{EndsWithin, MeetUpTo, EntersUpTo}
use Rattle.rart_walks.specs.OnWay.{EntersOnWay, PassesStarts}
use Rattle.rart_walks.proofs.PassLemmas.{begins-longer}
use Rattle.rart_node.proofs.CountingLemmas.{counts-none_made}
use Rattle.rart_walks.proofs.UpToLemmas.{IsFew, few-next, past-further}

-- the first of some, where there is one
abbrev pub first_of : {A : Type 0} → List A → List A
first_of [] = []
first_of (x ∷ xs) = x ∷ []

module _ {V : Type 0} (test : List ℕ → Bool) where
  -- Where a test passes what begins the first key, it passes the path of a node on the way there.
  path-passes : (path : List ℕ) (pairs : List (List ℕ × V)) → GoesOnFirst path pairs
      → PassesStarts test (first_of pairs) → test path ≡ true
  path-passes path pairs first passes =
      All-head (λ (pair : List ℕ × V). (u : List ℕ) → begins u pair.0 ≡ true → test u ≡ true)
      (path ++ first.0, first.1) []
      (subst (λ list. PassesStarts test (first_of list)) first.3 passes)
      path (begins-longer path first.0)

module _ {F A V E : Type 0} (g : Mut F A (Result VisitControl E))
    (Shows : A → List ℕ × V → Type 0) (start : F) (members : List (List ℕ × V)) (paths : List (List ℕ)) (hand : ℕ) (before : Counts) where
  -- The visit goes on: these pairs are left and these paths, `at_hand` pairs are at hand, and the
  -- closure answered `Continue` on what stands in front.
  pub record GoesOn (left : List (List ℕ × V)) (ahead : List (List ℕ)) (at_hand : ℕ)
      (now : Counts) (f : F) : Type 0 where
    pub front : List (List ℕ × V)
    pub is : members ≡ front ++ left
    pub calls : Answers g Shows (Ok Continue) start front f
    pub few : (test : List ℕ → Bool) → PassesStarts test front → PassesStarts test (first_of left)
        → IsFew test paths before ahead now
    pub each : before.entered + length front + at_hand ≤ now.entered + hand

  -- It has gone through all of them.
  pub goes-over : {left : List (List ℕ × V)} {ahead : List (List ℕ)} {at_hand : ℕ} {now : Counts}
      {f : F} → GoesOn left ahead at_hand now f → left ≡ []
      → Answers g Shows (Ok Continue) start members f
      × (before.entered + length members ≤ now.entered + hand)
  goes-over {f = f} goes none =
      let whole = goes.is ∙ ap (λ left. goes.front ++ left) none ∙ append-nil goes.front in
      let long = ap length whole in
      let each = goes.each in (
        subst (λ pairs. Answers g Shows (Ok Continue) start pairs f) (sym whole) goes.calls,
        omega (arith, each, long),
      )

  -- The walk comes to a node.
  module _ {at to : Cursor V} {value : Option (Bor V)} {at_hand : ℕ} {now later : Counts} {f : F}
      (goes : GoesOn at.pairs at.paths at_hand now f) (comes : ComesTo at value to)
      (entered : later.entered + length to.paths ≡ now.entered + length at.paths)
      (counted : CountsUpTo 1 0 now later) where
    few-there : (test : List ℕ → Bool) → PassesStarts test goes.front
        → PassesStarts test (first_of at.pairs) → IsFew test paths before to.paths later
    few-there test met first =
        few-next test comes (path-passes test (concat to.segments) at.pairs comes.first first)
        (goes.few test met first) entered counted

    -- It has no value.
    pub goes-past : (later_hand : ℕ)
        → now.entered + length at.pairs + later_hand ≤ later.entered + length to.pairs + at_hand
        → value ≡ None → GoesOn to.pairs to.paths later_hand later f
    goes-past later_hand step none =
        let same : at.pairs ≡ to.pairs = rw none at comes.pairs in
        let long = ap length same in
        let each = goes.each in
        record {
          front = goes.front;
          is = goes.is ∙ ap (λ left. goes.front ++ left) same;
          calls = goes.calls;
          few = λ test met first. few-there test met
              (subst (λ left. PassesStarts test (first_of left)) (sym same) first);
          each = omega (arith, each, step, long);
        }

    -- It has one, on which the closure is called.
    module _ (lent : Bor V) (some : value ≡ Some lent) where
      pub goes-gives : at.pairs ≡ (concat to.segments, lent.now) ∷ to.pairs
      goes-gives = rw some at comes.pairs

      few-last : (test : List ℕ → Bool)
          → PassesStarts test (goes.front ++ (concat to.segments, lent.now) ∷ [])
          → IsFew test paths before to.paths later
      few-last test met =
          let parts =
          All-pop (λ (pair : List ℕ × V). (u : List ℕ) → begins u pair.0 ≡ true → test u ≡ true)
          (goes.front ++ (concat to.segments, lent.now) ∷ [])
          goes.front (Some (concat to.segments, lent.now)) refl met in
          few-there test parts.0
          (subst (λ left. PassesStarts test (first_of left)) (sym goes-gives)
          (All-cons (λ (pair : List ℕ × V). (u : List ℕ) → begins u pair.0 ≡ true → test u ≡ true)
          (concat to.segments, lent.now) [] parts.1
          (All-nil (λ (pair : List ℕ × V). (u : List ℕ) → begins u pair.0 ≡ true → test u ≡ true))))

      -- It answers `Continue`,
      pub goes-next : (later_hand : ℕ) {f' : F}
          → now.entered + length at.pairs + later_hand ≤ later.entered + length to.pairs + at_hand
          → CalledOn g Shows f (concat to.segments, lent.now) (Ok Continue) f'
          → GoesOn to.pairs to.paths later_hand later f'
      goes-next later_hand {f'} step called =
          let long = ap length goes-gives in
          let more = length-append goes.front ((concat to.segments, lent.now) ∷ []) in
          let each = goes.each in
          record {
            front = goes.front ++ (concat to.segments, lent.now) ∷ [];
            is = goes.is ∙ ap (λ left. goes.front ++ left) goes-gives
                ∙ sym (append_assoc goes.front ((concat to.segments, lent.now) ∷ []) to.pairs);
            calls = answers-append g Shows (Ok Continue) goes.front
                ((concat to.segments, lent.now) ∷ []) start f f' goes.calls (f', called, refl);
            few = λ test met first. few-last test met;
            each = omega (arith, each, step, long, more);
          }

      -- or ends the visit.
      pub goes-end : (later_hand : ℕ) {f' : F} {answer : Result VisitControl E}
          → now.entered + length at.pairs + later_hand ≤ later.entered + length to.pairs + at_hand
          → CalledOn g Shows f (concat to.segments, lent.now) answer f'
          → EndsWithin g Shows (EntersOnWay paths hand before later) start members answer f'
      goes-end later_hand step called =
          let long = ap length goes-gives in
          let each = goes.each in (
            goes.front,
            (concat to.segments, lent.now),
            record {
              rest = to.pairs;
              is = goes.is ∙ ap (λ left. goes.front ++ left) goes-gives;
              state = f;
              calls = goes.calls;
              call = called;
            },
            record {
              at_most = λ test met.
                  let few = few-last test met in
                  let within = few.within in
                  counts-none_made few.grows (omega (arith, within)) few.made;
              at_least = omega (arith, each, step, long);
            },
          )

-- ---- where the keys meet an upper bound
-- What begins a string that meets it meets it too.
meets-shorter : (high : Bound (List ℕ)) (u more : List ℕ) → is_below high (u ++ more) ≡ true
    → is_below high u ≡ true
meets-shorter high u more meets =
    elim (is_below high u) as (λ b. is_below high u ≡ b → b ≡ true) [
      | true ↦ λ is. refl
      | false ↦ λ is. absurd (true≢false (sym meets ∙ past-further high u more is))
    ] refl

module _ {V : Type 0} where
  up_to-passes : (high : Bound (List ℕ)) (pairs : List (List ℕ × V)) → MeetUpTo high pairs
      → PassesStarts (is_below high) pairs
  up_to-passes high pairs met =
      All-weaker (λ (pair : List ℕ × V). is_below high pair.0 ≡ true)
      (λ (pair : List ℕ × V). (u : List ℕ) → begins u pair.0 ≡ true → is_below high u ≡ true)
      (λ pair meets u begins.
      let rest = begins-rest u pair.0 begins in
      meets-shorter high u rest.0 (subst (λ key. is_below high key ≡ true) rest.1 meets))
      pairs met

  pub ends-up_to : {F A E : Type 0} (g : Mut F A (Result VisitControl E))
      (Shows : A → List ℕ × V → Type 0) {paths : List (List ℕ)} {hand : ℕ} {before after : Counts}
      {f : F} {members : List (List ℕ × V)} {answer : Result VisitControl E} {f' : F}
      → EndsWithin g Shows (EntersOnWay paths hand before after) f members answer f'
      → EndsWithin g Shows (EntersUpTo paths hand before after) f members answer f'
  ends-up_to g Shows ends = (
    ends.0,
    ends.1,
    ends.2,
    record {
      at_most = λ high met. ends.3.at_most (is_below high) (up_to-passes high _ met);
      at_least = ends.3.at_least;
    },
  )

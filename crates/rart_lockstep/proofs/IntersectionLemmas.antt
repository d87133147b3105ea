-- The call on a key of two trees, as a visit.
use Rattle.std.proofs.Common.{◌≡◌, ◌+◌, ◌*◌, ℕ, false, List, [], ◌∷◌, Option, Some, None, Result, Ok, Err, sym, ap, subst}
use Rattle.std.specs.Prelude.{IsTrue, OnErr}
use Rattle.std.specs.declared.alloc.AllocError.{AllocError}
use Rattle.std.specs.Fn.{Mut}
use Rattle.std.specs.FinSet as set
use Rattle.std.proofs.lemmas.Bool.{false≢true}
use Rattle.std.proofs.lemmas.Option.{same_Some}
use Rattle.rart_maps.specs.Visits.{CallableInTurn, CallableOn, Visit, Visits}
use Rattle.rart_maps.proofs.VisitLemmas.{callable-next, up_to-start}
use Rattle.rart_node.specs.Counts.{Counts, CountsUpTo}
use Rattle.rart_node.specs.Shape.{Shape}
use Rattle.rart_node.specs.Trees.{pairs_of}
use Rattle.rart_node.specs.PairsBehind.{AreShort}
use Rattle.rart_node.proofs.BehindLemmas.{behind-none}
use Rattle.rart_lockstep.specs.CommonPairs.{common_pairs, shared_of}
use Rattle.rart_lockstep.specs.Endings.{VisitsBy}
use Rattle.rart_lockstep.specs.Entries.{both, own_entry, entry_here}
use Rattle.rart_lockstep.specs.Intersections.{CanIntersect, HasIntersected}
use Rattle.rart_lockstep.specs.TreeCursors.{value_here}
use Rattle.rart_lockstep.specs.Steps.{EntersBelow}
use Rattle.rart_lockstep.proofs.CommonLemmas.{key-none}
use Rattle.rart_lockstep.proofs.EnterLemmas.{enters-roots}

module _ {V : Type 0} (path : List ℕ) where
  entry-own : (one other : V) (left right : Option V) → Some (one, other) ≡ both left right
      → own_entry path left right ≡ (path, one, other) ∷ []
  entry-own one other None right there = cc
  entry-own one other (Some left) None there = cc
  entry-own one other (Some left) (Some right) there =
      let same : (one, other) ≡ (left, right) = same_Some (one, other) (left, right) there in
      (λ i. (path, sym (ap (λ z. z.0) same) i, sym (ap (λ z. z.1) same) i) ∷ [])

module _ {F A R E V : Type 0} (g : Mut F A R) (Shows : A → List ℕ × V × V → Type 0) (goes : R)
    (told : E → Option R) (path : List ℕ) (s t : Shape V) (one other : V)
    (there : Some (one, other) ≡ both (value_here s) (value_here t)) where
  -- The entry here is that of the key, on which the closure may be called, and then it was.
  entry-is : entry_here path s t ≡ (path, one, other) ∷ []
  entry-is = entry-own path one other (value_here s) (value_here t) there

  pub here-callable : (f : F) → CallableInTurn g Shows goes f (entry_here path s t)
      → CallableOn g Shows f (path, one, other)
  here-callable f visitable =
      callable-next g Shows goes (path, one, other) [] entry-is visitable
      (up_to-start g Shows goes f (entry_here path s t))

  pub here-visits : (result : Result (Unit {0}) E) (f f' : F)
      → VisitsBy g Shows goes told result f ((path, one, other) ∷ []) f'
      → VisitsBy g Shows goes told result f (entry_here path s t) f'
  here-visits result f f' =
      subst (λ members. VisitsBy g Shows goes told result f members f') (sym entry-is)

-- ---- from the roots
module _ {T F A R V : Type 0} (g : Mut F A R) (Shows : A → List ℕ × V × V → Type 0) (goes : R)
    (holds : T → List (List ℕ) → Type 0) (s t x y : Shape V) (left : x ≡ s) (right : y ≡ t)
  where
    -- With nothing on the key path, the closure may be called on what two trees have in common,
    pub may-start : (greatest : Option ℕ) (key_path : T) (f : F) → holds key_path []
        → AreShort greatest (pairs_of s) → CallableInTurn g Shows goes f (common_pairs s t)
        → CanIntersect g Shows goes holds greatest key_path f x y
    may-start greatest key_path f held short visitable =
        subst (λ x. CanIntersect g Shows goes holds greatest key_path f x y) (sym left)
        (subst (λ y. CanIntersect g Shows goes holds greatest key_path f s y) (sym right) (
          [],
          held,
          subst (AreShort greatest) (sym (behind-none (pairs_of s))) short,
          subst (CallableInTurn g Shows goes f) (sym (key-none (common_pairs s t))) visitable,
        ))

    -- and then it was.
    pub met-end : {E : Type 0} (told : E → Option R) (key_path key_path' : T) (f f' : F)
        (result : Result (Unit {0}) E) → holds key_path []
        → HasIntersected g Shows goes holds told key_path f result x y key_path' f'
        → VisitsBy g Shows goes told result f (common_pairs s t) f'
    met-end told key_path key_path' f f' result held met =
        let Has = HasIntersected g Shows goes holds told key_path f result in
        let here = subst (λ x. Has x t key_path' f') left
        (subst (λ y. Has x y key_path' f') right met) in
        subst (λ members. VisitsBy g Shows goes told result f members f')
        (key-none (common_pairs s t)) (here [] held).0

-- Two nodes were entered, and then those below.
pub counted-roots : {V : Type 0} (s t x y : Shape V) → x ≡ s → y ≡ t
    → (before opened after : Counts)
    → opened ≡ record before { entered = before.entered + 2 } → EntersBelow x y opened after
    → CountsUpTo (2 * set.len (shared_of s t)) 0 before after
counted-roots s t x y left right before opened after opens below =
    let entered = ap (λ work. work.entered) opens in
    let made = ap (λ work. work.made) opens in
    let here = subst (λ x. EntersBelow x t opened after) left
    (subst (λ y. EntersBelow x y opened after) right below) in
    (enters-roots s t before opened after entered made here).0

-- What can't be refused was done.
pub visits-sure : {F A X : Type 0} (g : Mut F A (Unit {0})) (Shows : A → X → Type 0)
    (f f' : F) (members : List X) (result : Result (Unit {0}) AllocError)
    → OnErr result (IsTrue false) → Visits g Shows result f members f'
    → Visit g Shows f members f'
visits-sure g Shows f f' members (Ok done) sure visits = visits
visits-sure g Shows f f' members (Err refused) sure visits = absurd (false≢true sure)

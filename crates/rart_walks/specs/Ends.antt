-- How a visit ends that its closure may end, and how many nodes it has entered by then.
use Rattle.std.specs.Prelude.{◌≡◌, ◌+◌, ◌≤◌, ◌⊎◌, ℕ, List, [], ◌∷◌, ◌++◌, Result, Ok, Err, All, IsTrue, count_by, length, ⊤}
use Rattle.std.specs.Borrow.{Bor}
use Rattle.std.specs.Fn.{Mut}
use Rattle.std.specs.Ordering.{as_partial_cmp}
use Rattle.std.specs.Range.Bound.{is_up_to_end}
use Rattle.std.specs.declared.ops.Bound.{Bound}
use Rattle.rart_below.specs.Bytes.{byte_order}
use Rattle.rart_below.specs.declared.slot.Refusal.{Refusal}
use Rattle.rart_below.specs.declared.slot.Refusal.TheVariants.{Callback, Memory}
use Rattle.rart_below.specs.declared.visit.VisitControl.{VisitControl}
use Rattle.rart_below.specs.declared.visit.VisitControl.TheVariants.{Continue, Stop}
use Rattle.rart_maps.specs.Visits.{Answers, ByValue, CalledOn}
use Rattle.rart_node.specs.Counts.{Counts, CountsUpTo}

-- ---- where it ends

module _ {F A M E : Type 0} (g : Mut F A (Result VisitControl E)) (Shows : A → M → Type 0) where
  -- f is called on the members in front, and answers `Continue`; then on the last, and gives this
  -- answer. The rest are left out.
  pub record EndsOn (f : F) (members front : List M) (last : M) (answer : Result VisitControl E)
      (f' : F) : Type 0 where
    pub rest : List M
    pub is : members ≡ front ++ last ∷ rest
    pub state : F
    pub calls : Answers g Shows (Ok Continue) f front state
    pub call : CalledOn g Shows state last answer f'

  -- It ends on some member with this answer, and this holds of those in front and that one.
  abbrev pub EndsWithin :
      (List M → M → Type 0) → F → List M → Result VisitControl E → F → Type 0
  EndsWithin Ended f members answer f' =
      (front : List M) × (last : M) × EndsOn f members front last answer f' × Ended front last

  -- By what a visitor answers: it went through all members, and then the one holds, or its closure
  -- ended it on one of them, and then the other. Of a refusal nothing is said.
  abbrev pub Ends : Type 0 → (List M → M → Type 0) → Result (Unit {0}) (Refusal E) → F → List M
      → F → Type 0
  Ends Through Ended (Ok done) f members f' =
      (Answers g Shows (Ok Continue) f members f' × Through)
      ⊎ EndsWithin Ended f members (Ok Stop) f'
  Ends Through Ended (Err (Callback e)) f members f' = EndsWithin Ended f members (Err e) f'
  Ends Through Ended (Err (Memory refused)) f members f' = ⊤

-- A pair is shown by a reference to its value alone.
abbrev pub ByPairValue : {V : Type 0} → Bor V × Unit {0} → List ℕ × V → Type 0
ByPairValue shown pair = ByValue shown pair.1

-- ---- what it has entered

module _ {V : Type 0} where
  -- The keys of these pairs meet an upper bound.
  abbrev pub MeetUpTo : Bound (List ℕ) → List (List ℕ × V) → Type 0
  MeetUpTo high pairs =
      All (λ pair. IsTrue (is_up_to_end (as_partial_cmp byte_order) high pair.0)) pairs

  -- A visit of a walk that has these paths left ends on the last of these pairs: it has entered at
  -- most those of the paths that meet an upper bound, whichever all of the pairs meet, and at least
  -- one for each pair, but for those that were at hand.
  pub record EntersUpTo (paths : List (List ℕ)) (at_hand : ℕ) (before after : Counts)
      (front : List (List ℕ × V)) (last : List ℕ × V) : Type 0 where
    pub at_most : (high : Bound (List ℕ)) → MeetUpTo high (front ++ last ∷ [])
        → CountsUpTo (count_by (is_up_to_end (as_partial_cmp byte_order) high) paths) 0 before
        after
    pub at_least : before.entered + (length front + 1) ≤ after.entered + at_hand

-- Making changes one after the other.
use Rattle.std.proofs.Common.{◌≡◌, ◌+◌, ◌≤◌, ℕ, cond, List, [], ◌∷◌, ◌++◌, is_some, length, sym, ap, subst, ◌∙◌, length-append, arith}
use Rattle.std.specs.Prelude.{Bool, Contains, ◌||◌, Option, Result, IsOk}
use Rattle.std.specs.Borrow.{Bor}
use Rattle.std.specs.Fn.{Called, Mut}
use Rattle.std.specs.declared.alloc.AllocError.{AllocError}
use Rattle.std.specs.FinMap as finite
use Rattle.std.proofs.lemmas.List.Elements.{Contains-append_right}
use Rattle.std.proofs.lemmas.List.Sums.{count_by-le-length, sum_by_push}
use Rattle.rart_maps.specs.FoundLaws.{KeysAscend}
use Rattle.rart_maps.specs.Lookups.{with_value}
use Rattle.rart_maps.specs.Versions.{HasRoom, Map, Version}
use Rattle.rart_maps.specs.Visits.{AnswersUpTo, CalledOn, Visit}
use Rattle.rart_maps.proofs.ElementLemmas.{Contains-here}
use Rattle.rart_maps.specs.ChangeLists.{Change, changes, takes_effect}
use Rattle.rart_maps.specs.ChangeVisits.{ByKeyChange}
use Rattle.rart_maps.proofs.ChangeLemmas.{changes-ascend, changes-from, patched-elsewhere}
use Rattle.rart_changes.specs.Patching.{IsPatched}
use Rattle.rart_changes.specs.Setting.{IsSetTo}
use Rattle.rart_changes.proofs.CallLemmas.{holds-of_all, holds-up_to}
use Rattle.rart_changes.proofs.SetKeyLemmas.{apart-before, patched-append}

module _ {V : Type 0} (start : Version V) where
  pub patched-start : (now : Version V) → now ≡ start → IsPatched start [] now
  patched-start now is =
      record {
        content = ap (λ v. v.content) is;
        number = let number = ap (λ v. v.number) is in omega (arith, number);
      }

  pub patched-next : (front : List (Change V)) (c : Change V) (now after : Version V)
      → ((d : Change V) → Contains front d → c.0 ≡ d.0 → ⊥)
      → IsPatched start front now → IsSetTo now c.0 c.2 after
      → IsPatched start (front ++ c ∷ []) after
  patched-next front c now after apart made set =
      let kept = ap (λ m. is_some (finite.get m c.0)) made.content
      ∙ ap is_some (patched-elsewhere front start.content c.0 apart) in
      let one = ap {B = ℕ} (λ there. cond (is_some c.2 || there) 1 0) kept in
      let more = sum_by_push (λ d. cond (takes_effect start.content d) 1 0) front c in
      let was = made.number in
      let number = set.number in
      record {
        content = set.content ∙ ap (λ m. with_value m c.0 c.2) made.content
            ∙ sym (patched-append start.content front (c ∷ []));
        number = omega (arith, one, more, was, number);
      }

  -- There is room for one more, while not all were made.
  pub room-next : (all front : List (Change V)) (c : Change V) (rest : List (Change V))
      (now : Version V) → all ≡ front ++ c ∷ rest → HasRoom start (length all)
      → now.number ≤ start.number + length front → HasRoom now 1
  room-next all front c rest now parts room few =
      let count = ap length parts ∙ length-append front (c ∷ rest) in
      omega (arith, count, room, few)

  pub few-patched : (front : List (Change V)) (now : Version V) → IsPatched start front now
      → now.number ≤ start.number + length front
  few-patched front now made =
      let most = count_by-le-length (takes_effect start.content) front in
      let number = made.number in
      omega (arith, most, number)

-- What a closure makes of a draft that gives each key that it is shown what the new map has there.
module _ {S K V : Type 0}
    (closure : Mut S (K × (Option (Bor V) × (Option (Bor V) × Unit {0}))) (Unit {0}))
    (bytes : K → List ℕ) (made : S → Result (Unit {0}) AllocError) (now : S → Version V)
    (side : S → Map V)
    (sets : (s : S) (a : K × (Option (Bor V) × (Option (Bor V) × Unit {0}))) (s' : S)
    → Called closure s a tt s' → IsOk (made s')
    → IsOk (made s) × IsSetTo (now s) (bytes a.0) (finite.get (side s) (bytes a.0)) (now s'))
    (keeps : (s : S) (a : K × (Option (Bor V) × (Option (Bor V) × Unit {0}))) (s' : S)
    → Called closure s a tt s' → side s' ≡ side s)
    (same : V → V → Bool) (old new : Map V) (start : Version V) where
  abbrev all : List (Change V)
  all = changes same old new

  -- These changes were made so far, unless memory was refused.
  pub record IsUnderWay (front : List (Change V)) (s : S) : Type 0 where
    pub patches : IsOk (made s) → IsPatched start front (now s)
    pub kept : side s ≡ new

  step : (front : List (Change V)) (c : Change V) (rest : List (Change V)) (s s' : S)
      → all ≡ front ++ c ∷ rest → IsUnderWay front s
      → CalledOn closure (ByKeyChange bytes) s c tt s' → IsUnderWay (front ++ c ∷ []) s'
  step front c rest s s' parts before called =
      let ascends = changes-ascend same old new in
      let there = subst (λ cs. Contains cs c) (sym parts)
      (Contains-append_right front (c ∷ rest) c (Contains-here c rest)) in
      let value = (λ i. finite.get (before.kept i) (called.2.0 i))
      ∙ (changes-from same old new c there).1 in
      record {
        patches = λ ok.
            let set = sets s called.0 s' called.1 ok in
            patched-next start front c (now s) (now s')
            (apart-before (λ d. d.0) front c rest (subst (KeysAscend (λ d. d.0)) parts ascends))
            (before.patches set.0)
            (subst (λ x. IsSetTo (now s) c.0 x (now s')) value
            (subst (λ w. IsSetTo (now s) w (finite.get (side s) (bytes called.0.0)) (now s'))
            called.2.0 set.1));
        kept = keeps s called.0 s' called.1 ∙ before.kept;
      }

  begun : (first : S) → now first ≡ start → side first ≡ new → IsUnderWay [] first
  begun first begins sided =
      record { patches = λ ok. patched-start start (now first) begins; kept = sided }

  pub patched-visit : (first s : S) → Visit closure (ByKeyChange bytes) first all s
      → now first ≡ start → side first ≡ new → IsOk (made s) → IsPatched start all (now s)
  patched-visit first s visit begins sided =
      (holds-of_all closure (ByKeyChange bytes) tt all IsUnderWay step first s
      (begun first begins sided) visit).patches

  pub patch-room : (first : S) (c : Change V) (rest : List (Change V)) (s : S)
      → AnswersUpTo closure (ByKeyChange bytes) tt first all (c ∷ rest) s
      → now first ≡ start → side first ≡ new → HasRoom start (length all) → IsOk (made s)
      → HasRoom (now s) 1
  patch-room first c rest s calls begins sided room ok =
      room-next start all calls.0 c rest (now s) calls.1 room
      (few-patched start calls.0 (now s)
      ((holds-up_to closure (ByKeyChange bytes) tt all IsUnderWay step (c ∷ rest) first s
      (begun first begins sided) calls).patches ok))

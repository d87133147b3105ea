-- Showing the changes at some keys, one after the other: the calls, and the counts.
use Rattle.std.proofs.Common.{◌≡◌, ◌+◌, ◌*◌, ◌≤◌, ℕ, suc, Bool, true, List, [], ◌∷◌, ◌++◌, Option, length, refl, sym, ap, subst, ◌∙◌, cond, arith}
use Rattle.std.specs.Prelude.{Some, None}
use Rattle.std.specs.Fn.{Mut}
use Rattle.std.specs.List.{cons_option}
use Rattle.std.specs.FinMap as finite
use Rattle.std.proofs.lemmas.List.Elements.{filter_map-append}
use Rattle.std.proofs.lemmas.List.Sums.{sum_by-cons}
use Rattle.std.proofs.Math.Nat.{mul-suc, suc-mul, zero-mul}
use Rattle.rart_maps.specs.Bounds.{lookup_bound}
use Rattle.rart_maps.specs.Versions.{Map}
use Rattle.rart_maps.specs.Visits.{AnswersUpTo}
use Rattle.rart_maps.proofs.VisitLemmas.{up_to-start}
use Rattle.rart_maps.specs.ChangeLists.{change_of, differ}
use Rattle.rart_versioned.specs.Counts.{Counts, CountsUpTo}
use Rattle.rart_changes.specs.ChangeVisits.{changes_at, lookups_bound}

module _ {V : Type 0} (same : V → V → Bool) (old new : Map V) where
  -- Of one key there is a change where the maps differ.
  pub change-there : (w : List ℕ) (x y : Option V) → finite.get old w ≡ x → finite.get new w ≡ y
      → differ same x y ≡ true → changes_at same old new (w ∷ []) ≡ (w, x, y) ∷ []
  change-there w x y before after apart =
      (λ i. cons_option (change_of same w (before i) (after i)) [])
      ∙ ap (λ t. cons_option (cond t (Some (w, x, y)) None) []) apart

  pub changes_at-cons : (w : List ℕ) (ws : List (List ℕ)) → changes_at same old new (w ∷ ws)
      ≡ changes_at same old new (w ∷ []) ++ changes_at same old new ws
  changes_at-cons w ws =
      filter_map-append (λ v. change_of same v (finite.get old v) (finite.get new v))
      (w ∷ []) ws

pub nothing-left : {A : Type 0} (xs : List A) → length xs ≡ 0 → xs ≡ []
nothing-left [] none = refl
nothing-left (x ∷ xs) none = absurd (omega (arith, none))

-- Before the first call all members are left.
pub up_to-all : {F A R X : Type 0} (g : Mut F A R) (Shows : A → X → Type 0) {answer : R} (f : F)
    (members left : List X) → left ≡ members → AnswersUpTo g Shows answer f members left f
up_to-all g Shows {answer} f members left is =
    subst (λ xs. AnswersUpTo g Shows answer f members xs f) (sym is)
    (up_to-start g Shows answer f members)

-- With these keys left of all, how many nodes were entered at most, and at least.
pub record AreCounted (maps least : ℕ) (all left : List (List ℕ)) (start now : Counts)
    : Type 0 where
  pub most : now.entered + lookups_bound maps left ≤ start.entered + lookups_bound maps all
  pub few : start.entered + length all * least ≤ now.entered + length left * least
  pub grows : start.entered ≤ now.entered
  pub made : now.made ≡ start.made

pub counted-next : {maps least : ℕ} {all left : List (List ℕ)} {start now after : Counts}
    (w : List ℕ) (rest : List (List ℕ)) → left ≡ w ∷ rest
    → AreCounted maps least all left start now
    → CountsUpTo (maps * lookup_bound w) 0 now after → now.entered + least ≤ after.entered
    → AreCounted maps least all rest start after
counted-next {maps} {least} {left = left} w rest comes before counted more_entered =
    let bound = ap (lookups_bound maps) comes ∙ sum_by-cons (λ v. maps * lookup_bound v) w rest in
    let fewest = ap (λ keys. length keys * least) comes ∙ suc-mul (length rest) least in
    let most = before.most in
    let few = before.few in
    let grows = before.grows in
    let made = before.made in
    let more = counted.entered_grows in
    let at_most = counted.entered_at_most in
    let kept = counted.made_grows in
    let none = counted.made_at_most in
    record {
      most = omega (arith, bound, most, at_most);
      few = omega (arith, fewest, few, more_entered);
      grows = omega (arith, grows, more);
      made = omega (arith, made, kept, none);
    }

pub counted-end : {maps least : ℕ} {all left : List (List ℕ)} {start now : Counts}
    → AreCounted maps least all left start now → CountsUpTo (lookups_bound maps all) 0 start now
counted-end before =
    let most = before.most in
    let grows = before.grows in
    let made = before.made in
    record {
      entered_grows = grows;
      entered_at_most = omega (arith, most);
      made_grows = omega (arith, made);
      made_at_most = omega (arith, made);
    }

pub counted-least : {maps least : ℕ} {all left : List (List ℕ)} {start now : Counts} → left ≡ []
    → AreCounted maps least all left start now
    → start.entered + length all * least ≤ now.entered
counted-least {least = least} {left = left} none before =
    let over = ap (λ keys. length keys * least) none ∙ zero-mul least in
    let few = before.few in
    omega (arith, over, few)

-- One for each key, and then so many for each, are one more for each.
pub counted-each : (many one each start mid after : ℕ) → each ≡ suc one
    → start + many ≤ mid → mid + many * one ≤ after → start + many * each ≤ after
counted-each many one each start mid after is listed shown =
    let whole = ap (λ n. many * n) is ∙ mul-suc many one in omega (arith, listed, shown, whole)

pub counted-start : (maps least : ℕ) {all left : List (List ℕ)} {start : Counts} → left ≡ all
    → AreCounted maps least all left start start
counted-start maps least {all} {left} {start} is =
    let bound = ap (lookups_bound maps) is in
    let fewest = ap (λ keys. length keys * least) is in
    record {
      most = omega (arith, bound);
      few = omega (arith, fewest);
      grows = omega arith;
      made = refl;
    }

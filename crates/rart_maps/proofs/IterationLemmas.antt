-- Loops over an iterator: what was taken and what is still to come.
use Rattle.std.proofs.Common.{◌≡◌, List, [], ◌∷◌, ◌++◌, ℕ, Option, Some, refl, sym, ap, subst, ◌∙◌, append_assoc, append-nil, ⊎_elim}
use Rattle.std.specs.Prelude.{Ok}
use Rattle.std.specs.Borrow.{Bor}
use Rattle.std.proofs.lemmas.Option.{same_Some, none-some}
use Rattle.rart_maps.specs.Iterations.{ByKey, ByReference, IsOver, IsTakenFrom, NextGives}

module _ {X : Type 0} where
  -- At first nothing was taken.
  pub taken-none : (members : List X) → IsTakenFrom members [] (Some members)
  taken-none members = (members, refl, refl)

  taken-over : (members taken rest : List X) (left : Option (List X)) → left ≡ Some rest →
      taken ++ rest ≡ members → IsOver left → taken ≡ members
  taken-over members taken rest left is all over =
      ⊎_elim
      (λ none. absurd (none-some rest (sym none ∙ is)))
      (λ ends.
      let nothing = same_Some rest [] (sym is ∙ ends) in
      sym (append-nil taken) ∙ ap (λ more. taken ++ more) (sym nothing) ∙ all)
      over

  -- Where nothing is to come all were.
  pub taken-all : (members taken : List X) (left : Option (List X)) →
      IsTakenFrom members taken left → IsOver left → taken ≡ members
  taken-all members taken left from over =
      taken-over members taken from.0 left from.1 from.2 over

  -- One more was taken.
  taken-more : (members taken rest others : List X) (x : X) (before : Option (List X)) →
      before ≡ Some rest → taken ++ rest ≡ members → before ≡ Some (x ∷ others) →
      (taken ++ x ∷ []) ++ others ≡ members
  taken-more members taken rest others x before is all gives =
      let same = same_Some rest (x ∷ others) (sym is ∙ gives) in
      append_assoc taken (x ∷ []) others ∙ ap (λ more. taken ++ more) (sym same) ∙ all

  pub taken-next : {A : Type 0} (Shows : A → X → Type 0) (members taken : List X)
      (before after : Option (List X)) (item : A) → IsTakenFrom members taken before →
      (gives : NextGives Shows before (Some (Ok item)) after) →
      IsTakenFrom members (taken ++ gives.0 ∷ []) after
  taken-next Shows members taken before after item from gives = (
    gives.1,
    gives.4,
    taken-more members taken from.0 gives.1 gives.0 before from.1 from.2 gives.2,
  )

module _ {V : Type 0} where
  -- One pair more, by its key and a reference to its value.
  pub taken-pair : {K : Type 0} (bytes : K → List ℕ) (members taken : List (List ℕ × V))
      (before after : Option (List (List ℕ × V))) (item : K × Bor V) →
      IsTakenFrom members taken before →
      NextGives (ByKey bytes) before (Some (Ok item)) after →
      IsTakenFrom members (taken ++ (bytes item.0, item.1.now) ∷ []) after
  taken-pair bytes members taken before after item from gives =
      let same : ◌≡◌ {A = List ℕ × V} gives.0 (bytes item.0, item.1.now) =
      λ i. (sym gives.3.0 i, sym gives.3.1 i) in
      subst (λ pair. IsTakenFrom members (taken ++ pair ∷ []) after) same
      (taken-next (ByKey bytes) members taken before after item from gives)

  -- One value more, by a reference.
  pub taken-value : (members taken : List V) (before after : Option (List V)) (item : Bor V) →
      IsTakenFrom members taken before →
      NextGives ByReference before (Some (Ok item)) after →
      IsTakenFrom members (taken ++ item.now ∷ []) after
  taken-value members taken before after item from gives =
      subst (λ value. IsTakenFrom members (taken ++ value ∷ []) after) (sym gives.3)
      (taken-next ByReference members taken before after item from gives)

use Rattle.std.proofs.Common.{◌≡◌, ℕ, List, [], ◌∷◌, ⊎_elim, inl, refl, ap, arith, subst, sym, ◌∙◌}
use Rattle.std.specs.Prelude.{codes, slice_get}
use Rattle.std.proofs.lemmas.Option.{same_Some}
use Rattle.rart_maps.specs.Order.{IsBefore}
use Rattle.rart_maps.specs.Disorders.{IsOutOfOrderAt}
use Rattle.rart_maps.proofs.laws.worked.worked_disorders.Goals as goal

in-order : ¬ IsOutOfOrderAt 1 ((codes "a", 1) ∷ (codes "b", 2) ∷ [])
in-order found =
    let pairs : List (List ℕ × ℕ) = (codes "a", 1) ∷ (codes "b", 2) ∷ [] in
    let place = found.3 in
    let zero : found.0 ≡ 0 = omega (arith, place) in
    let one : (codes "a", 1) ≡ found.1 =
    same_Some (codes "a", 1) found.1 (sym (ap (slice_get pairs) zero) ∙ found.4) in
    let two : (codes "b", 2) ≡ found.2 = same_Some (codes "b", 2) found.2 found.5 in
    found.6 (subst (λ key. IsBefore key found.2.0) (ap (λ (pair : List ℕ × ℕ). pair.0) one)
    (subst (IsBefore (codes "a")) (ap (λ (pair : List ℕ × ℕ). pair.0) two) (inl (omega arith))))

pub returns : goal.returns
returns c = (
  (
    0,
    (codes "b", 1),
    (codes "a", 2),
    refl,
    refl,
    refl,
    λ before. ⊎_elim (λ less. omega (arith, less)) (λ same. let is = same.0 in omega (arith, is))
        before,
  ),
  (
    0,
    (codes "a", 1),
    (codes "a", 2),
    refl,
    refl,
    refl,
    λ before. ⊎_elim (λ less. omega (arith, less)) (λ same. same.1) before,
  ),
  in-order,
  λ first. let place = first.3 in omega (arith, place),
)

-- A node with one child.
use Rattle.std.proofs.Common.{◌≡◌, ℕ, List, [], ◌∷◌, length, Some, None, Result, Ok, Err, refl, sym, ap, ◌∙◌, arith}
use Rattle.std.specs.Result.{IfOk}
use Rattle.std.proofs.lemmas.Option.{none-some, same_Some}
use Rattle.rart_below.specs.Children.{children_from, first_of, IsAscending}
use Rattle.rart_below.proofs.MoveLemmas.{children_from-zero}
use Rattle.rart_node.specs.Shape.{Shape, HasOnly}

module _ {X : Type 0} where
  only-entry : (es : List (ℕ × X)) → length es ≡ 1 → (e : ℕ × X) × (es ≡ e ∷ [])
  only-entry [] one = absurd (omega (arith, one))
  only-entry (e ∷ []) one = (e, refl)
  only-entry (e ∷ f ∷ es) one = absurd (omega (arith, one))

  pub one-ascending : (es : List (ℕ × X)) → length es ≡ 1 → IsAscending es
  one-ascending es one = rw (only-entry es one).1 refl

  first-one : (es : List (ℕ × X)) (one : length es ≡ 1)
      → first_of (children_from 0 es) ≡ Some (only-entry es one).0
  first-one es one = ap first_of (children_from-zero es ∙ (only-entry es one).1)

  pub one-first : (es : List (ℕ × X)) → length es ≡ 1 → None ≡ first_of (children_from 0 es) → ⊥
  one-first es one none = none-some (only-entry es one).0 (none ∙ first-one es one)

  pub one-only : (es : List (ℕ × X)) (e : ℕ × X) → length es ≡ 1
      → Some e ≡ first_of (children_from 0 es) → es ≡ e ∷ []
  one-only es e one is =
      let same = same_Some (only-entry es one).0 e (sym (is ∙ first-one es one)) in
      (only-entry es one).1 ∙ ap (λ z. z ∷ []) same

pub if-ok : {A E : Type 0} {P Q : A → Type 0} (result : Result A E) → ((a : A) → P a → Q a)
    → IfOk result P → IfOk result Q
if-ok (Ok a) goes holds = goes a holds
if-ok (Err e) goes holds = tt

module _ {V : Type 0} where
  -- two that are each the only child are one
  pub only-child : (s child other : Shape V) (byte next : ℕ) → HasOnly byte child s
      → HasOnly next other s → child ≡ other
  only-child s child other byte next one two =
      ap (λ z. z.1) (same_Some (byte, child) (next, other) (ap first_of (sym one ∙ two)))

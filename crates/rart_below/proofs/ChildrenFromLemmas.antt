-- The entries from a byte on.
use Rattle.std.proofs.Common.{◌≡◌, ℕ, ◌+◌, ◌≤◌, inl, inr, List, [], ◌∷◌, true, Some, None, refl, sym, ap, subst, ◌∙◌, arith}
use Rattle.std.specs.Prelude.{nat_le}
use Rattle.std.proofs.lemmas.Bool.{cases_lt}
use Rattle.std.proofs.lemmas.Bool.Decides.{nat_tests}
use Rattle.std.proofs.lemmas.Option.{none-some, same_Some}
use Rattle.rart_below.specs.Children.{children_from, first_of, IsAscending, TakesFirst}
use Rattle.rart_below.proofs.AscendingLemmas.{ascending_parts, children_from-kept, children_from-passed, children_from-below}

module _ {X : Type 0} where
  pub from-here : (n : ℕ) (e : ℕ × X) (es : List (ℕ × X)) → n ≤ e.0
      → children_from n (e ∷ es) ≡ e ∷ children_from n es
  from-here n e es h = let kept : nat_le n e.0 ≡ true = grind (arith, nat_tests) in rw kept refl

  -- the first entry from a byte on is not below it
  first-above : (n : ℕ) (es : List (ℕ × X)) (e : ℕ × X) → first_of (children_from n es) ≡ Some e
      → n ≤ e.0
  first-above n [] e h = absurd (none-some e h)
  first-above n (x ∷ es) e h =
      elim (cases_lt x.0 n) [
        | inl less ↦ first-above n es e (sym (ap first_of (children_from-passed n x es less)) ∙ h)
        | inr more ↦ let is =
            ap (λ z. z.0) (same_Some x e (sym (children_from-kept n x es more) ∙ h)) in
            omega (arith, is, more)
      ]

  -- behind the first entry come those from the next byte on
  pub from-next : (n : ℕ) (es : List (ℕ × X)) (e : ℕ × X) → IsAscending es
      → first_of (children_from n es) ≡ Some e → children_from n es ≡ e ∷ children_from (e.0 + 1) es
  from-next n [] e s h = absurd (none-some e h)
  from-next n (x ∷ es) e s h =
      let sorted = ascending_parts x es s in
      elim (cases_lt x.0 n) [
        | inl less ↦
            let rest = sym (ap first_of (children_from-passed n x es less)) ∙ h in
            let above = first-above n es e rest in
            children_from-passed n x es less ∙ from-next n es e sorted.1 rest
            ∙ ap (λ l. e ∷ l) (sym (children_from-passed (e.0 + 1) x es
            (omega (arith, above, less))))
        | inr more ↦
            let is = same_Some x e (sym (children_from-kept n x es more) ∙ h) in
            let next = children_from-passed (x.0 + 1) x es (omega arith)
            ∙ children_from-below (x.0 + 1) x.0 es (omega arith) sorted.0 in
            from-here n x es more ∙ ap (λ l. x ∷ l)
            (children_from-below n x.0 es (omega (arith, more)) sorted.0)
            ∙ subst (λ z. x ∷ es ≡ z ∷ children_from (z.0 + 1) (x ∷ es)) is
            (ap (λ l. x ∷ l) (sym next))
      ]

  -- the first child from a byte on is taken, and those from the next byte on are left
  pub takes_first : (n byte : ℕ) (child : X) (es : List (ℕ × X)) → IsAscending es
      → Some (byte, child) ≡ first_of (children_from n es)
      → TakesFirst (children_from n es) (Some child) (children_from (byte + 1) es)
  takes_first n byte child es sorted is = (byte, from-next n es (byte, child) sorted (sym is))

  none_first : (es : List (ℕ × X)) → None ≡ first_of es → es ≡ []
  none_first [] is = refl
  none_first (e ∷ es) is = absurd (none-some e is)

  -- there is none to take
  pub takes_none : (n : ℕ) (es : List (ℕ × X)) → None ≡ first_of (children_from n es)
      → TakesFirst (children_from n es) None (children_from n es)
  takes_none n es is = (none_first (children_from n es) is, none_first (children_from n es) is)

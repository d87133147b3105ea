-- The children under the bytes that are still ahead, each with a weight.
use Rattle.std.proofs.Common.{◌≡◌, ◌+◌, ◌≤◌, ℕ, Bool, true, false, not, ◌&&◌, cond, List, [], ◌∷◌, Some, refl, sym, ap, subst, ◌∙◌, arith}
use Rattle.std.specs.Prelude.{◌==◌, sum_by}
use Rattle.std.specs.Cmp.{unsigned_tied}
use Rattle.std.proofs.lemmas.Bool.{eqb-true}
use Rattle.std.proofs.lemmas.List.Sums.{sum_by-cons}
use Rattle.std.proofs.lemmas.Option.{none-some}
use Rattle.rart_below.specs.ByteSets.{has_byte}
use Rattle.rart_below.specs.Children.{child_at}
use Rattle.rart_below.specs.declared.byte_set.ByteSet.{ByteSet}
use Rattle.rart_node.proofs.PrefixRestLemmas.{eqb-sym}

module _ {C : Type 0} (weight : ℕ → ℕ) where
  abbrev one_weight : ByteSet → ℕ × C → ℕ
  one_weight ahead child = cond (has_byte ahead child.0) (weight child.0) 0

  -- the weights of the children whose byte is ahead, in sum
  abbrev pub weigh : ByteSet → List (ℕ × C) → ℕ
  weigh ahead children = sum_by (one_weight ahead) children

  abbrev pub weigh_all : List (ℕ × C) → ℕ
  weigh_all children = sum_by (λ child. weight child.0) children

  pub weigh-all : (ahead : ByteSet) (children : List (ℕ × C))
      → weigh ahead children ≤ weigh_all children
  weigh-all ahead [] = omega arith
  weigh-all ahead (child ∷ children) =
      let rest = weigh-all ahead children in
      let front = sum_by-cons (one_weight ahead) child children in
      let all = sum_by-cons (λ (child : ℕ × C). weight child.0) child children in
      let P : Bool → Type 0 = λ t. cond t (weight child.0) 0 ≤ weight child.0 in
      let both : (t : Bool) → P t = elim [ true ↦ omega arith | false ↦ omega arith ] in
      let less = both (has_byte ahead child.0) in
      omega (arith, rest, front, all, less)

  module _ (ahead after : ByteSet) (byte : ℕ)
      (taken : (other : ℕ)
      → has_byte after other ≡ (not (other == byte) && has_byte ahead other)) where
    one-less : (child : ℕ × C) → one_weight after child ≤ one_weight ahead child
    one-less child =
        let P : Bool → Type 0 = λ t. cond (not t && has_byte ahead child.0) (weight child.0) 0
        ≤ one_weight ahead child in
        let both : (t : Bool) → P t = elim [ true ↦ omega arith | false ↦ omega arith ] in
        subst (λ t. cond t (weight child.0) 0 ≤ one_weight ahead child) (sym (taken child.0))
        (both (child.0 == byte))

    weigh-less : (children : List (ℕ × C)) → weigh after children ≤ weigh ahead children
    weigh-less [] = omega arith
    weigh-less (child ∷ children) =
        let rest = weigh-less children in
        let front = sum_by-cons (one_weight ahead) child children in
        let back = sum_by-cons (one_weight after) child children in
        let less = one-less child in
        omega (arith, rest, front, back, less)

    -- With its byte taken, the weight of a child is no longer ahead.
    pub weigh-taken : (x : C) (children : List (ℕ × C)) → has_byte ahead byte ≡ true
        → child_at byte children ≡ Some x
        → weigh after children + weight byte ≤ weigh ahead children
    weigh-taken x [] has here = absurd (none-some x here)
    weigh-taken x (child ∷ children) has here =
        let front = sum_by-cons (one_weight ahead) child children in
        let back = sum_by-cons (one_weight after) child children in
        let P : Bool → Type 0 = λ t. (byte == child.0) ≡ t
        → cond t (Some child.1) (child_at byte children) ≡ Some x
        → weigh after (child ∷ children) + weight byte ≤ weigh ahead (child ∷ children) in
        let both : (t : Bool) → P t = elim [
          | true ↦ (λ same _.
              let is = eqb-true byte child.0 same in
              let rest = weigh-less children in
              let all : one_weight ahead child ≡ weight byte =
              (λ i. cond (has_byte ahead (sym is i)) (weight (sym is i)) 0)
              ∙ ap (λ t. cond t (weight byte) 0) has in
              let none : one_weight after child ≡ 0 =
              ap (λ t. cond t (weight child.0) 0) (taken child.0
              ∙ ap (λ t. not t && has_byte ahead child.0) (eqb-sym child.0 byte ∙ same)) in
              omega (arith, front, back, rest, all, none))
          | false ↦ (λ differs there.
              let rest = weigh-taken x children has there in
              let less = one-less child in
              omega (arith, front, back, rest, less))
        ] in
        both (byte == child.0) refl (rw (unsigned_tied byte child.0) at here)

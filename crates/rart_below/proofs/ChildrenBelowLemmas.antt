-- The entries whose byte is below a number.
use Rattle.std.proofs.Common.{◌≡◌, ℕ, suc, ◌<◌, ◌≤◌, inl, inr, List, [], ◌∷◌, ◌++◌, Bool, true, false, Some, None, refl, sym, ap, subst, ◌∙◌, arith}
use Rattle.std.specs.Prelude.{nat_lt, is_some}
use Rattle.std.specs.Ordering.{nat_cmp, eq_by_cmp}
use Rattle.std.proofs.lemmas.Bool.{cases_lt, cases_order}
use Rattle.std.proofs.lemmas.Bool.Decides.{nat_tests}
use Rattle.std.proofs.lemmas.Option.{none-some, same_Some}
use Rattle.rart_below.specs.ByteSets.{IsGreatestBelow}
use Rattle.rart_below.specs.Children.{child_at, children_below, IsAscending, TakesLast}
use Rattle.rart_below.specs.Laws.{IsBelow, below_from}
use Rattle.rart_below.proofs.LeastByteLemmas.{not-some, some}
use Rattle.rart_below.proofs.AscendingLemmas.{absent_later, ascending_parts, below_lower, below_parts, child_at-below, child_at-here, child_at-later}

module _ {X : Type 0} where
  pub below-kept : (n : ℕ) (e : ℕ × X) (es : List (ℕ × X)) → e.0 < n
      → children_below n (e ∷ es) ≡ e ∷ children_below n es
  below-kept n e es lt = let kept : nat_lt e.0 n ≡ true = grind (arith, nat_tests) in rw kept refl

  pub below-passed : (n : ℕ) (e : ℕ × X) (es : List (ℕ × X)) → n ≤ e.0
      → children_below n (e ∷ es) ≡ children_below n es
  below-passed n e es le =
      let passed : nat_lt e.0 n ≡ false = grind (arith, nat_tests) in rw passed refl

  -- all are at the number or behind it
  pub below-none : (n m : ℕ) (es : List (ℕ × X)) → n ≤ suc m → IsBelow m es
      → children_below n es ≡ []
  below-none n m [] le below = refl
  below-none n m (e ∷ es) le below =
      let parts = below_parts m e es below in
      below-passed n e es (omega (arith, parts.0, le)) ∙ below-none n m es le parts.1

  -- no byte below the number has a child
  pub none_below : (n : ℕ) (es : List (ℕ × X))
      → ((byte : ℕ) → byte < n → child_at byte es ≡ None) → children_below n es ≡ []
  none_below n [] none = refl
  none_below n (e ∷ es) none =
      elim (cases_lt e.0 n) [
        | inl less ↦ absurd (none-some e.1
            (sym (none e.0 less) ∙ child_at-here e.0 e.0 e.1 es refl))
        | inr more ↦ below-passed n e es more ∙ none_below n es (λ byte lt.
            absent_later (eq_by_cmp nat_cmp byte e.0) e.1 (child_at byte es) (none byte lt))
      ]

  -- no byte from the number on has a child
  pub all_below : (n : ℕ) (es : List (ℕ × X))
      → ((byte : ℕ) → n ≤ byte → child_at byte es ≡ None) → children_below n es ≡ es
  all_below n [] none = refl
  all_below n (e ∷ es) none =
      elim (cases_lt e.0 n) [
        | inl less ↦ below-kept n e es less
            ∙ ap (λ (rest : List (ℕ × X)). e ∷ rest) (all_below n es (λ byte le.
            absent_later (eq_by_cmp nat_cmp byte e.0) e.1 (child_at byte es) (none byte le)))
        | inr more ↦ absurd (none-some e.1
            (sym (none e.0 more) ∙ child_at-here e.0 e.0 e.1 es refl))
      ]

  -- none is between two numbers
  none_between : (n m : ℕ) (es : List (ℕ × X)) → IsBelow m es → IsAscending es
      → ((byte : ℕ) → m < byte → byte < n → child_at byte es ≡ None) → children_below n es ≡ []
  none_between n m [] below order none = refl
  none_between n m (e ∷ es) below order none =
      elim (cases_lt e.0 n) [
        | inl less ↦ absurd (none-some e.1
            (sym (none e.0 (below_parts m e es below).0 less) ∙ child_at-here e.0 e.0 e.1 es refl))
        | inr more ↦ below-passed n e es more
            ∙ below-none n e.0 es (omega (arith, more)) (ascending_parts e es order).0
      ]

  -- the child of the greatest byte below the number is the last
  pub last_below : (n byte : ℕ) (child : X) (es : List (ℕ × X)) → IsAscending es → byte < n
      → child_at byte es ≡ Some child
      → ((later : ℕ) → byte < later → later < n → child_at later es ≡ None)
      → children_below n es ≡ children_below byte es ++ (byte, child) ∷ []
  last_below n byte child [] order lt at none = absurd (none-some child at)
  last_below n byte child (e ∷ es) order lt at none =
      let sorted = ascending_parts e es order in
      elim (cases_order e.0 byte) [
        | inl same ↦
            let is : e.1 ≡ child = same_Some e.1 child (sym (child_at-here byte e.0 e.1 es same) ∙ at) in
            let entry : e ≡ (byte, child) = λ i. (same i, is i) in
            let later : children_below n es ≡ [] =
            none_between n e.0 es sorted.0 sorted.1 (λ next over less.
            sym (child_at-later next e.0 e.1 es over) ∙ none next (omega (arith, same, over)) less) in
            below-kept n e es (omega (arith, same, lt))
            ∙ ap (λ (rest : List (ℕ × X)). e ∷ rest) later
            ∙ ap (λ (first : ℕ × X). first ∷ []) entry
            ∙ ap (λ (rest : List (ℕ × X)). rest ++ (byte, child) ∷ [])
            (sym (below-passed byte e es (omega (arith, same))
            ∙ below-none byte e.0 es (omega (arith, same)) sorted.0))
        | inr (inl less) ↦
            let rest = last_below n byte child es sorted.1 lt
            (sym (child_at-later byte e.0 e.1 es less) ∙ at)
            (λ later over under. sym (child_at-later later e.0 e.1 es (omega (arith, less, over)))
            ∙ none later over under) in
            below-kept n e es (omega (arith, less, lt))
            ∙ ap (λ (rest : List (ℕ × X)). e ∷ rest) rest
            ∙ ap (λ (front : List (ℕ × X)). front ++ (byte, child) ∷ []) (sym (below-kept byte e es less))
        | inr (inr more) ↦
            let under =
            below_from byte e es more (below_lower byte e.0 es (omega (arith, more)) sorted.0) in
            absurd (none-some child (sym (child_at-below byte byte (e ∷ es) (omega arith) under)
            ∙ at))
      ]

  -- a child of the greatest byte below the number is taken, and those below that byte are left
  module _ (n : ℕ) (holds : ℕ → Bool) (es : List (ℕ × X))
      (each : (byte : ℕ) → byte < 256 → holds byte ≡ is_some (child_at byte es))
      (past : (byte : ℕ) → 256 ≤ byte → child_at byte es ≡ None) where
    missing : (byte : ℕ) → holds byte ≡ false → child_at byte es ≡ None
    missing byte none = elim (cases_lt byte 256) [
      | inl low ↦ not-some (child_at byte es) (sym (each byte low) ∙ none)
      | inr high ↦ past byte high
    ]

    pub takes_none_below : IsGreatestBelow n holds None
        → TakesLast (children_below n es) None (children_below n es)
    takes_none_below none =
        let empty = none_below n es (λ byte lt. missing byte (none byte lt)) in (empty, empty)

    pub takes_last_below : (greatest : ℕ) → greatest < 256 → IsAscending es
        → IsGreatestBelow n holds (Some greatest)
        → TakesLast (children_below n es) (child_at greatest es) (children_below greatest es)
    takes_last_below greatest low order found =
        let has = some (child_at greatest es) (sym (each greatest low) ∙ found.1) in
        subst (λ o. TakesLast (children_below n es) o (children_below greatest es)) (sym has.1) (
          greatest,
          last_below n greatest has.0 es order found.0 has.1
              (λ later over under. missing later (found.2 later over under)),
        )

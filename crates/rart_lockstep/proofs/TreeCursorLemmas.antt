-- A cursor in either of two trees: what their prefixes have in common.
use Rattle.std.proofs.Common.{◌≡◌, ◌<◌, inl, inr, ℕ, suc, true, false, cond, List, [], ◌∷◌, length, refl, sym, ap, ◌∙◌, arith}
use Rattle.std.specs.Prelude.{nat_lt, Some}
use Rattle.std.proofs.lemmas.Bool.{false≢true}
use Rattle.rart_below.specs.Bytes.{common_length}
use Rattle.rart_node.specs.Shape.{Shape, node, prefix_of}
use Rattle.rart_node.proofs.PrefixRestLemmas.{eqb-sym, common-within}
use Rattle.rart_lockstep.specs.PairCursors.{CommonBytes}
use Rattle.rart_lockstep.specs.TreeCursors.{behind_bytes}

pub common_length-swaps : (u w : List ℕ) → common_length u w ≡ common_length w u
common_length-swaps [] [] = refl
common_length-swaps [] (c ∷ w) = refl
common_length-swaps (b ∷ u) [] = refl
common_length-swaps (b ∷ u) (c ∷ w) =
    (λ i. cond (eqb-sym b c i) (suc (common_length-swaps u w i)) 0)

not-lower : (n most : ℕ) → nat_lt n most ≡ false → n < most → ⊥
not-lower n most is lower = let e : nat_lt n most ≡ true = grind (arith, lower) in
    false≢true (sym is ∙ e)

module _ {V : Type 0} where
  -- With no byte passed, the whole prefix is left.
  pub whole-prefix : (s : Shape V) (from : ℕ) → from ≡ 0
      → prefix_of (behind_bytes from s) ≡ prefix_of s
  whole-prefix (node prefix value width forest) from none =
      ap (λ n. prefix_of (behind_bytes n (node prefix value width forest))) none

  -- One of the prefixes ends behind what both have in common.
  module _ (s t : Shape V) (count : ℕ) (is : count ≡ common_length (prefix_of s) (prefix_of t))
    where
      pub common-ends_left : nat_lt count (length (prefix_of s)) ≡ false
          → CommonBytes s t (Some count)
      common-ends_left ends =
          let within = (common-within (prefix_of s) (prefix_of t)).0 in
          let not = not-lower count (length (prefix_of s)) ends in
          (is, inl (grind (arith, is, within, not)))

      pub common-ends_right : nat_lt count (length (prefix_of t)) ≡ false
          → CommonBytes s t (Some count)
      common-ends_right ends =
          let within = (common-within (prefix_of s) (prefix_of t)).1 in
          let not = not-lower count (length (prefix_of t)) ends in
          (is, inr (grind (arith, is, within, not)))

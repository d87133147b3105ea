-- Some of the children of a node: they are trees, and have short keys.
use Rattle.std.proofs.Common.{◌≡◌, ℕ, Bool, true, false, cond, List, [], ◌∷◌, Option, Some, sym, subst}
use Rattle.std.specs.Prelude.{nat_le, ◌==◌}
use Rattle.std.specs.Cmp.{unsigned_tied}
use Rattle.std.proofs.lemmas.Option.{same_Some, none-some}
use Rattle.rart_below.specs.Children.{child_at, children_from}
use Rattle.rart_node.specs.Shape.{Shape}
use Rattle.rart_node.specs.Trees.{pairs_of}
use Rattle.rart_node.specs.PairsBehind.{behind_path, pairs_of_all, AreTrees, AreShort}
use Rattle.rart_node.proofs.BehindLemmas.{behind-append, short-append, short-front, short-back, short-none}

module _ {V : Type 0} where
  from-trees : (least : ℕ) (children : List (ℕ × Shape V)) → AreTrees children
      → AreTrees (children_from least children)
  from-trees least [] trees = tt
  from-trees least (child ∷ children) trees =
      let rest = from-trees least children trees.1 in
      elim (nat_le least child.0) as (λ t.
      AreTrees (cond t (child ∷ children_from least children) (children_from least children)))
      [ true ↦ (trees.0, rest) | false ↦ rest ]

  pub later-trees : (goes_on : Bool) (least : ℕ) (children : List (ℕ × Shape V)) → AreTrees children
      → AreTrees (cond goes_on (children_from least children) [])
  later-trees true least children trees = from-trees least children trees
  later-trees false least children trees = tt

  module _ (greatest : Option ℕ) (path : List ℕ) where
    split : (child : ℕ × Shape V) (children : List (ℕ × Shape V))
        → AreShort greatest (behind_path path (pairs_of_all (child ∷ children)))
        → AreShort greatest (behind_path path (pairs_of child.1))
        × AreShort greatest (behind_path path (pairs_of_all children))
    split child children short =
        let parts =
        subst (AreShort greatest) (behind-append path (pairs_of child.1)
        (pairs_of_all children)) short in (
          short-front greatest (behind_path path (pairs_of child.1))
              (behind_path path (pairs_of_all children)) parts,
          short-back greatest (behind_path path (pairs_of child.1))
              (behind_path path (pairs_of_all children)) parts,
        )

    from-short : (least : ℕ) (children : List (ℕ × Shape V))
        → AreShort greatest (behind_path path (pairs_of_all children))
        → AreShort greatest (behind_path path (pairs_of_all (children_from least children)))
    from-short least [] short = short
    from-short least (child ∷ children) short =
        let parts = split child children short in
        let rest = from-short least children parts.1 in
        let more =
        subst (AreShort greatest) (sym
        (behind-append path (pairs_of child.1) (pairs_of_all (children_from least children))))
        (short-append greatest (behind_path path (pairs_of child.1))
        (behind_path path (pairs_of_all (children_from least children))) parts.0 rest) in
        elim (nat_le least child.0) as (λ t.
        AreShort greatest (behind_path path
        (pairs_of_all (cond t (child ∷ children_from least children)
        (children_from least children))))) [ true ↦ more | false ↦ rest ]

    pub later-short : (goes_on : Bool) (least : ℕ) (children : List (ℕ × Shape V))
        → AreShort greatest (behind_path path (pairs_of_all children))
        → AreShort greatest (behind_path path
        (pairs_of_all (cond goes_on (children_from least children) [])))
    later-short true least children short = from-short least children short
    later-short false least children short = short-none V greatest

    pub child-short : (byte : ℕ) (children : List (ℕ × Shape V)) (child : Shape V)
        → child_at byte children ≡ Some child
        → AreShort greatest (behind_path path (pairs_of_all children))
        → AreShort greatest (behind_path path (pairs_of child))
    child-short byte [] child here short = absurd (none-some child here)
    child-short byte (first ∷ children) child here short =
        let parts = split first children short in
        let P : Bool → Type 0 = λ t. cond t (Some first.1) (child_at byte children) ≡ Some child
        → AreShort greatest (behind_path path (pairs_of child)) in
        let both : (t : Bool) → P t = elim [
          | true ↦ (λ is. subst (λ z. AreShort greatest (behind_path path (pairs_of z)))
              (same_Some first.1 child is) parts.0)
          | false ↦ (λ is. child-short byte children child is parts.1)
        ] in
        both (byte == first.0) (rw (unsigned_tied byte first.0) at here)

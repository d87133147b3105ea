-- The next steps of a way down two trees: to the children where one prefix has ended, or both.
use Rattle.std.proofs.Common.{◌≡◌, ◌⊎◌, ⊎_elim, ℕ, List, [], ◌∷◌, Option, Some, slice_get, refl, sym, ap, ◌∙◌}
use Rattle.std.specs.List.{cons_option}
use Rattle.std.specs.Option.{option_map}
use Rattle.rart_below.specs.Children.{child_at}
use Rattle.rart_node.specs.Shape.{Shape, node, IsAscending, prefix_of, children_of, entries_of, with_prefix}
use Rattle.rart_lockstep.specs.Branches.{first_byte}
use Rattle.rart_lockstep.specs.Children.{common_children}
use Rattle.rart_lockstep.specs.TreeCursors.{next_children}
use Rattle.rart_lockstep.proofs.ChildLemmas.{common-first, common-none}

module _ {V : Type 0} where
  pub children-with : (s : Shape V) (p : List ℕ) → children_of (with_prefix p s) ≡ children_of s
  children-with (node prefix value width forest) p = refl

  -- The right one goes on with a byte: the left one has ended, and its child under the byte is
  -- next.
  pub branch-left : (s t : Shape V) (b : ℕ) → IsAscending s
      → (prefix_of s ≡ []) ⊎ (prefix_of t ≡ []) → slice_get (prefix_of t) 0 ≡ Some b
      → common_children (next_children s) (next_children t)
      ≡ cons_option (option_map (λ child. (first_byte (prefix_of t), (child, t)))
      (child_at b (children_of s))) []
  branch-left s (node [] value width forest) b order ends first = cc
  branch-left (node (a ∷ p) other w below) (node (c ∷ q) value width forest) b order ends first =
      ⊎_elim (λ is. absurd (cons-nil a p is)) (λ is. absurd (cons-nil c q is)) ends
    where
      cons-nil : (b : ℕ) (w : List ℕ) → b ∷ w ≡ [] → ⊥
      cons-nil b w is = cc
  branch-left (node [] other w below) (node (c ∷ q) value width forest) b order ends first =
      let t : Shape V = node (c ∷ q) value width forest in
      let same : c ≡ b = cc in
      common-first (entries_of below) c t [] order refl
      ∙ ap (cons_option (option_map (λ child. (c, (child, t))) (child_at c (entries_of below))))
      (common-none (entries_of below))
      ∙ ap (λ byte. cons_option (option_map (λ child. (c, (child, t)))
      (child_at byte (entries_of below))) []) same

  abbrev to_left : Shape V → Option (Shape V) → List (ℕ × (Shape V × Shape V))
  to_left t found =
      cons_option (option_map (λ child. (first_byte (prefix_of t), (child, t))) found) []

  -- what is found under the byte, as the calls know it
  pub step-left : (n t : Shape V) (p rest : List ℕ) (b : ℕ) (found : Option (Shape V))
      → IsAscending (with_prefix p n) → (p ≡ []) ⊎ (prefix_of t ≡ []) → rest ≡ prefix_of t
      → Some b ≡ slice_get rest 0 → found ≡ child_at b (children_of n)
      → to_left t found ≡ common_children (next_children (with_prefix p n)) (next_children t)
  step-left (node q value width forest) t p rest b found order ends is first here =
      let first_of : slice_get (prefix_of t) 0 ≡ Some b =
      ap (λ w. slice_get w 0) (sym is) ∙ sym first in
      ap (to_left t) here
      ∙ sym (branch-left (node p value width forest) t b order ends first_of)

-- Which keys of a tree begin a string, one node at a time.
use Rattle.std.proofs.Common.{◌≡◌, ℕ, Bool, true, false, cond, ◌&&◌, List, [], ◌∷◌, ◌++◌, Option, Some, None, slice_get, refl, arith, sym, ap, ◌∙◌}
use Rattle.std.specs.Prelude.{◌==◌}
use Rattle.std.proofs.lemmas.Bool.{ne_eqb}
use Rattle.std.proofs.lemmas.List.{append-nil}
use Rattle.std.proofs.lemmas.Option.{same_Some, none-some}
use Rattle.rart_below.specs.Bytes.{begins}
use Rattle.rart_below.specs.Children.{child_at}
use Rattle.rart_node.specs.Shape.{Shape, prefix_of, value_of, children_of}
use Rattle.rart_node.specs.Trees.{strip_prefix, IsTree, own_pair, pairs_of}
use Rattle.rart_node.proofs.PrefixRestLemmas.{strip_prefix-is, eqb-sym}
use Rattle.rart_node.specs.PairsBehind.{behind_path}
use Rattle.rart_node.proofs.GatherLemmas.{keeping, keeping-append, keeping-behind, keeping-begun, keeping-children, keeping-either, keeping-same, gathered, gathered_all, gathered-is, kept_at, pairs-gathered, AreBegun, tree-ascending, tree-begun}
use Rattle.rart_node.proofs.AlongLemmas.{begins-along, own_pair-ends}

-- A string that leaves p before its end begins with no string that p begins.
begins-left : (p w key : List ℕ) → strip_prefix p w ≡ None → begins (p ++ key) w ≡ false
begins-left [] w key left = absurd (none-some w (sym left))
begins-left (b ∷ p) [] key left = refl
begins-left (b ∷ p) (c ∷ w) key left =
    let P : Bool → Type 0 = λ t. cond t (strip_prefix p w) None ≡ None
    → (t && begins (p ++ key) w) ≡ false in
    let both : (t : Bool) → P t = elim [
      | true ↦ begins-left p w key
      | false ↦ λ _. refl
    ] in
    rw (eqb-sym b c) (both (c == b) left)

module _ {V : Type 0} where
  -- the pairs of a tree whose key begins the string
  abbrev pub matches_of : List ℕ → Shape V → List (List ℕ × V)
  matches_of w s = keeping (λ key. begins key w) (pairs_of s)

  -- those of a child, if there is one
  abbrev pub matches_at : List ℕ → Option (Shape V) → List (List ℕ × V)
  matches_at w None = []
  matches_at w (Some child) = matches_of w child

  -- what a node has of its own and in its children, below its prefix
  abbrev inside : Shape V → List (List ℕ × V)
  inside s = own_pair (value_of s) ++ gathered_all own_pair (children_of s)

  matches_of-is : (s : Shape V) (w : List ℕ) →
      matches_of w s
      ≡ behind_path (prefix_of s) (keeping (λ key. begins (prefix_of s ++ key) w) (inside s))
  matches_of-is s w =
      ap (keeping (λ key. begins key w)) (pairs-gathered s ∙ gathered-is own_pair s)
      ∙ keeping-behind (λ key. begins key w) (prefix_of s) (inside s)

  -- A string that leaves the prefix of a node.
  pub matches_of-left : (s : Shape V) (w : List ℕ) → strip_prefix (prefix_of s) w ≡ None →
      matches_of w s ≡ []
  matches_of-left s w left =
      let none = keeping-either (λ key. begins (prefix_of s ++ key) w) false (inside s)
      (λ key. begins-left (prefix_of s) w key left) in
      matches_of-is s w ∙ ap (behind_path (prefix_of s)) none

  -- A string that has the whole prefix: the node's own key begins it.
  matches_of-whole : (s : Shape V) (w rest : List ℕ) → strip_prefix (prefix_of s) w ≡ Some rest →
      matches_of w s
      ≡ behind_path (prefix_of s) (own_pair (value_of s)
      ++ keeping (λ key. begins key rest) (gathered_all own_pair (children_of s)))
  matches_of-whole s w rest is =
      let along : (key : List ℕ) → begins (prefix_of s ++ key) w ≡ begins key rest =
      λ key. ap (begins (prefix_of s ++ key)) (strip_prefix-is (prefix_of s) w rest is)
      ∙ begins-along (prefix_of s) key rest in
      let test = λ (key : List ℕ). begins key rest in
      matches_of-is s w
      ∙ ap (behind_path (prefix_of s)) (
      keeping-same (λ key. begins (prefix_of s ++ key) w) test (inside s) along
      ∙ keeping-append test (own_pair (value_of s)) (gathered_all own_pair (children_of s))
      ∙ ap (λ own. own ++ keeping test (gathered_all own_pair (children_of s)))
      (own_pair-ends (value_of s) test true refl))

  none-longer : (children : List (ℕ × Shape V)) → AreBegun children →
      keeping (λ key. begins key []) (gathered_all own_pair children) ≡ []
  none-longer [] begun = refl
  none-longer (child ∷ children) begun =
      let test = λ (key : List ℕ). begins key [] in
      keeping-append test (gathered own_pair child.1) (gathered_all own_pair children)
      ∙ ap (λ rest. keeping test (gathered own_pair child.1) ++ rest) (none-longer children begun.1)
      ∙ append-nil (keeping test (gathered own_pair child.1))
      ∙ keeping-begun own_pair test false child.0 child.1 begun.0 (λ w. refl)

  -- The string ends with the prefix.
  pub matches_of-end : (s : Shape V) (w rest : List ℕ) → IsTree s →
      strip_prefix (prefix_of s) w ≡ Some rest → rest ≡ [] →
      matches_of w s ≡ behind_path (prefix_of s) (own_pair (value_of s))
  matches_of-end s w rest tree is end =
      matches_of-whole s w [] (is ∙ ap Some end)
      ∙ ap (λ below. behind_path (prefix_of s) (own_pair (value_of s) ++ below))
      (none-longer (children_of s) (tree-begun s tree))
      ∙ ap (behind_path (prefix_of s)) (append-nil (own_pair (value_of s)))

  kept-child : (rest : List ℕ) (o : Option (Shape V)) →
      kept_at own_pair (λ key. begins key rest) o ≡ matches_at rest o
  kept-child rest None = refl
  kept-child rest (Some child) = ap (keeping (λ key. begins key rest)) (sym (pairs-gathered child))

  in-child : (children : List (ℕ × Shape V)) (byte : ℕ) (left : List ℕ) (s : Shape V) →
      children ≡ children_of s → IsTree s →
      keeping (λ key. begins key (byte ∷ left)) (gathered_all own_pair children)
      ≡ matches_at (byte ∷ left) (child_at byte children)
  in-child children byte left s is tree =
      let test = λ (key : List ℕ). begins key (byte ∷ left) in
      rw is (
      keeping-children own_pair test false byte
      (λ c w less. rw (ne_eqb c byte (λ same. omega (arith, same, less))) refl)
      (λ c w more. rw (ne_eqb c byte (λ same. omega (arith, same, more))) refl)
      (children_of s) (tree-ascending s tree) (tree-begun s tree)
      ∙ append-nil (kept_at own_pair test (child_at byte (children_of s)))
      ∙ kept-child (byte ∷ left) (child_at byte (children_of s)))

  -- The string goes on: to the child under its next byte, if there is one.
  pub matches_of-deeper : (s : Shape V) (w rest : List ℕ) (byte : ℕ) → IsTree s →
      strip_prefix (prefix_of s) w ≡ Some rest → slice_get rest 0 ≡ Some byte →
      matches_of w s
      ≡ behind_path (prefix_of s) (own_pair (value_of s)
      ++ matches_at rest (child_at byte (children_of s)))
  matches_of-deeper s w [] byte tree is next = absurd (none-some byte next)
  matches_of-deeper s w (c ∷ left) byte tree is next =
      matches_of-whole s w (c ∷ left) is
      ∙ ap (λ below. behind_path (prefix_of s) (own_pair (value_of s) ++ below)) (
      in-child (children_of s) c left s refl tree
      ∙ ap (λ b. matches_at (c ∷ left) (child_at b (children_of s))) (same_Some c byte next))

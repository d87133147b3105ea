-- A node without value over one child: a node that was cut is one, and one that is to be merged.
use Rattle.std.proofs.Common.{◌≡◌, ℕ, List, [], ◌∷◌, Option, Some, None, cond, Bool, true, false, refl, sym, ap, subst, ◌∙◌}
use Rattle.std.specs.Prelude.{◌==◌}
use Rattle.std.specs.Option.{option_and_then}
use Rattle.rart_node.specs.Shape.{Shape, Forest, node, bare, grown, prefix_of, value_of, entries_of, forest_of, HasOnly, merged}
use Rattle.rart_node.specs.Trees.{strip_prefix, BeginsWith, found, IsTree, IsOrdered, AreBranches}
use Rattle.rart_node.proofs.PrefixRestLemmas.{behind-append}
use Rattle.rart_node.proofs.PairLemmas.{found-empty, found-other}
use Rattle.rart_node.proofs.InsertionLemmas.{inside, forest_of-entries_of}

module _ {V : Type 0} where
  pub only-child : (byte : ℕ) (child : Shape V) (q : List ℕ) → BeginsWith byte (prefix_of child)
      → inside None (grown byte child bare) q ≡ found child q
  only-child byte child [] begins = sym (found-empty child byte begins)
  only-child byte child (c ∷ q) begins =
      let P : Bool → Type 0 =
      λ t. (c == byte) ≡ t → cond t (found child (c ∷ q)) None ≡ found child (c ∷ q) in
      let both : (t : Bool) → P t =
      elim [
        | true ↦ (λ same. refl)
        | false ↦
            (λ differs. sym (found-other child byte c q begins differs))
      ] in
      both (c == byte) refl

  pub along : (o : Option (List ℕ)) (p : List ℕ) (value : Option V) (width byte : ℕ)
      (forest : Forest V)
      → BeginsWith byte p
      → option_and_then (inside None (grown byte (node p value width forest) bare)) o
      ≡ option_and_then (inside value forest) (option_and_then (strip_prefix p) o)
  along None p value width byte forest begins = refl
  along (Some rest) p value width byte forest begins =
      only-child byte (node p value width forest) rest begins

  only-forest : (forest : Forest V) (byte : ℕ) (child : Shape V)
      → entries_of forest ≡ (byte, child) ∷ [] → forest ≡ grown byte child bare
  only-forest forest byte child only = sym (forest_of-entries_of forest) ∙ ap forest_of only

  merged-one : (prefix : List ℕ) (width byte : ℕ) (child : Shape V) (q : List ℕ)
      → BeginsWith byte (prefix_of child)
      → found (merged prefix child) q ≡ found (node prefix None width (grown byte child bare)) q
  merged-one prefix width byte (node below value of_width forest) q begins =
      ap (option_and_then (inside value forest)) (behind-append prefix below q)
      ∙ sym (along (strip_prefix prefix q) below value of_width byte forest begins)

  -- merged with its only child, a node without value has what it had
  pub merged-found : (s child : Shape V) (byte : ℕ) (q : List ℕ) → IsOrdered s → value_of s ≡ None
      → HasOnly byte child s → found (merged (prefix_of s) child) q ≡ found s q
  merged-found (node prefix value width forest) child byte q order none only =
      let is = only-forest forest byte child only in
      merged-one prefix width byte child q (subst AreBranches is order.1).0
      ∙ (λ i. found (node prefix (sym none i) width (sym is i)) q)

  merged-one-tree : (prefix : List ℕ) (child : Shape V) → IsTree child
      → IsTree (merged prefix child)
  merged-one-tree prefix (node below value width forest) tree = tree

  pub merged-tree : (s child : Shape V) (byte : ℕ) → IsOrdered s → HasOnly byte child s
      → IsTree (merged (prefix_of s) child)
  merged-tree (node prefix value width forest) child byte order only =
      merged-one-tree prefix child
      (subst AreBranches (only-forest forest byte child only) order.1).1

  pub merged-first : (prefix : List ℕ) (child : Shape V) (byte : ℕ) → BeginsWith byte prefix
      → BeginsWith byte (prefix_of (merged prefix child))
  merged-first [] child byte begins = absurd begins
  merged-first (b ∷ prefix) (node below value width forest) byte begins = begins

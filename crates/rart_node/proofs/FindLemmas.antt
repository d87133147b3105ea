-- How the value of a string is found, one node at a time.
use Rattle.std.proofs.Common.{◌≡◌, ℕ, ◌<◌, ◌≤◌, max, List, ◌∷◌, Some, None, length, drop, cond, Bool, true, false, refl, arith, sym, subst}
use Rattle.std.specs.Prelude.{◌==◌}
use Rattle.std.specs.Option.{option_and_then}
use Rattle.std.specs.Cmp.{unsigned_tied}
use Rattle.std.proofs.lemmas.Bool.{eqb-true, false≢true}
use Rattle.std.proofs.lemmas.Option.{same_Some, none-some}
use Rattle.rart_below.specs.Bytes.{common_length}
use Rattle.rart_below.specs.Children.{child_at}
use Rattle.rart_node.specs.Shape.{Shape, Forest, node, bare, grown, prefix_of, value_of, children_of, entries_of, height, height_below, IsAscending}
use Rattle.rart_node.specs.Trees.{BeginsWith, found, found_below, IsTree, IsOrdered, AreBranches}
use Rattle.rart_node.proofs.PrefixRestLemmas.{strip_prefix-whole}

module _ {V : Type 0} where
  -- Below the children a string that is not empty has what the child under its first byte has.
  pub found-below : (forest : Forest V) (byte : ℕ) (q : List ℕ)
      → found_below forest (byte ∷ q)
      ≡ option_and_then (λ child. found child (byte ∷ q)) (child_at byte (entries_of forest))
  found-below bare byte q = refl
  found-below (grown b child forest) byte q =
      let P : Bool → Type 0 =
      λ t. cond t (found child (byte ∷ q)) (found_below forest (byte ∷ q))
      ≡ option_and_then (λ s. found s (byte ∷ q))
      (cond t (Some child) (child_at byte (entries_of forest))) in
      let both : (t : Bool) → P t = elim [ true ↦ refl | false ↦ found-below forest byte q ] in
      rw (unsigned_tied byte b) (both (byte == b))

  pub found-child : (s : Shape V) (q : List ℕ) (byte : ℕ) (rest : List ℕ)
      → length (prefix_of s) ≤ common_length (prefix_of s) q
      → drop (common_length (prefix_of s) q) q ≡ byte ∷ rest
      → found s q ≡ option_and_then (λ child. found child (byte ∷ rest))
      (child_at byte (children_of s))
  found-child (node prefix value width forest) q byte rest whole next =
      rw (strip_prefix-whole prefix q whole, next) (found-below forest byte rest)

  -- what is known of a child
  pub record IsBranch (byte : ℕ) (child : Shape V) (above : Shape V) : Type 0 where
    pub tree : IsTree child
    pub begins : BeginsWith byte (prefix_of child)
    pub lower : height child < height above

  branch-below : (forest : Forest V) (byte : ℕ) (child : Shape V) → AreBranches forest
      → child_at byte (entries_of forest) ≡ Some child
      → IsTree child × BeginsWith byte (prefix_of child) × (height child ≤ height_below forest)
  branch-below bare byte child branches here = absurd (none-some _ here)
  branch-below (grown b other forest) byte child branches here =
      let Q : Shape V → Type 0 =
      λ s. IsTree s × BeginsWith byte (prefix_of s)
      × (height s ≤ max (height other) (height_below forest)) in
      let P : Bool → Type 0 =
      λ t. (byte == b) ≡ t → cond t (Some other) (child_at byte (entries_of forest))
      ≡ Some child → Q child in
      let both : (t : Bool) → P t = elim [
        | true ↦ (λ same is. subst Q (same_Some other child is) (
          branches.1,
          subst (λ z. BeginsWith z (prefix_of other))
              (sym (eqb-true byte b same)) branches.0,
          omega arith,
        ))
        | false ↦ (λ differs is. let rest = branch-below forest byte child branches.2 is in
            (rest.0, rest.1, let le = rest.2 in omega (arith, le)))
      ] in
      both (byte == b) refl (rw (unsigned_tied byte b) at here)

  pub branch : (s : Shape V) (byte : ℕ) (child : Shape V) → IsOrdered s
      → child_at byte (children_of s) ≡ Some child → IsBranch byte child s
  branch (node prefix value width forest) byte child ordered here =
      let known = branch-below forest byte child ordered.1 here in
      record { tree = known.0; begins = known.1; lower = let le = known.2 in omega (arith, le) }

  pub ordered : (s : Shape V) → IsTree s → IsOrdered s
  ordered (node prefix value width forest) tree = (tree.0, tree.1)

  pub ascending : (s : Shape V) → IsOrdered s → IsAscending s
  ascending (node prefix value width forest) ordered = ordered.0

  -- a value or two children at least: so a value or a child
  pub tree-some : (s : Shape V) → IsTree s → value_of s ≡ None → 0 < length (children_of s)
  tree-some (node prefix (Some value) width forest) tree none = absurd (none-some value (sym none))
  tree-some (node prefix None width bare) tree none = absurd (false≢true tree.2)
  tree-some (node prefix None width (grown byte child forest)) tree none = omega arith

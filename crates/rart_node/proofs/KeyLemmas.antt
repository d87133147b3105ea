-- A tree has a key, and a pair.
use Rattle.std.proofs.Common.{◌≡◌, ℕ, List, [], ◌∷◌, ◌++◌, map, Some, None, IsSome, is_some, Bool, true, false, refl, sym, ap, ◌∙◌}
use Rattle.std.specs.Prelude.{◌==◌}
use Rattle.std.proofs.lemmas.Bool.{false≢true}
use Rattle.rart_node.specs.Shape.{Shape, Forest, node, bare, grown, prefix_of}
use Rattle.rart_node.specs.Trees.{BeginsWith, found, IsTree, pairs_of, pairs_below}
use Rattle.rart_node.proofs.PrefixRestLemmas.{strip_prefix-own}
use Rattle.rart_node.proofs.PairLemmas.{found-empty, found-other}

module _ {V : Type 0} where
  pub record HasKey (s : Shape V) : Type 0 where
    pub key : List ℕ
    pub there : IsSome (found s key)

  key-below : (prefix : List ℕ) (width byte : ℕ) (child : Shape V) (forest : Forest V)
      (key : List ℕ) → IsSome (found child key) → BeginsWith byte (prefix_of child)
      → HasKey (node prefix None width (grown byte child forest))
  key-below prefix width byte child forest [] there begins =
      absurd (false≢true (ap is_some (sym (found-empty child byte begins)) ∙ there))
  key-below prefix width byte child forest (c ∷ key) there begins =
      let P : Bool → Type 0 =
      λ t. (c == byte) ≡ t → HasKey (node prefix None width (grown byte child forest)) in
      let both : (t : Bool) → P t = elim [
        | true ↦ (λ same. record {
          key = prefix ++ (c ∷ key);
          there = rw (strip_prefix-own prefix (c ∷ key), same) there;
        })
        | false ↦ (λ differs. absurd (false≢true
            (ap is_some (sym (found-other child byte c key begins differs)) ∙ there)))
      ] in
      both (c == byte) refl

  pub tree-has-key : (s : Shape V) → IsTree s → HasKey s
  tree-has-key (node prefix (Some value) width forest) tree =
      record { key = prefix ++ []; there = rw (strip_prefix-own prefix []) refl }
  tree-has-key (node prefix None width bare) tree = absurd (false≢true tree.2)
  tree-has-key (node prefix None width (grown byte child forest)) tree =
      let below = tree-has-key child tree.1.1 in
      key-below prefix width byte child forest below.key below.there tree.1.0

  -- The first pair of a tree, whose key begins with the prefix.
  pub tree-has-pair : (s : Shape V) → IsTree s → (key : List ℕ) × (value : V)
      × (rest : List (List ℕ × V)) × (pairs_of s ≡ (prefix_of s ++ key, value) ∷ rest)
  tree-has-pair (node prefix (Some value) width forest) tree =
      ([], value, map (λ pair. (prefix ++ pair.0, pair.1)) (pairs_below forest), refl)
  tree-has-pair (node prefix None width bare) tree = absurd (false≢true tree.2)
  tree-has-pair (node prefix None width (grown byte child forest)) tree =
      let below = tree-has-pair child tree.1.1 in (
        prefix_of child ++ below.0,
        below.1,
        map (λ pair. (prefix ++ pair.0, pair.1)) (below.2 ++ pairs_below forest),
        ap (λ pairs. map (λ pair. (prefix ++ pair.0, pair.1)) (pairs ++ pairs_below forest))
            below.3,
      )

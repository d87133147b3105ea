-- The pairs of a tree have the values that are found in it.
use Rattle.std.proofs.Common.{◌≡◌, ◌≤◌, ℕ, List, [], ◌∷◌, ◌++◌, Option, Some, None, map, cond, Bool, true, false, refl, sym, ap, subst, ◌∙◌}
use Rattle.std.proofs.Math.Nat.{le_refl}
use Rattle.std.specs.Prelude.{◌==◌}
use Rattle.std.specs.Option.{option_or, option_and_then}
use Rattle.std.specs.Ordering.{eq_by_cmp}
use Rattle.std.proofs.lemmas.Bool.{eqb-true}
use Rattle.std.proofs.lemmas.Map.Text.{is_eq-slice_cmp}
use Rattle.std.specs.FinMap.Entries.{find}
use Rattle.rart_below.specs.Bytes.{byte_order}
use Rattle.rart_below.specs.Children as children
use Rattle.rart_below.specs.Children.{child_at}
use Rattle.rart_below.proofs.AscendingLemmas.{child_at-below, ascending_parts}
use Rattle.rart_node.specs.Shape.{Shape, Forest, node, bare, grown, prefix_of, entries_of}
use Rattle.rart_node.specs.Trees.{strip_prefix, BeginsWith, at_end, own_pair, found, found_below, pairs_of, pairs_below, IsTree, AreBranches}
use Rattle.rart_node.proofs.PrefixRestLemmas.{is_left, bytes_eq-strip_prefix}
use Rattle.rart_node.proofs.FindLemmas.{found-below}

module _ {V : Type 0} where
  or-none : (o : Option V) → option_or o None ≡ o
  or-none None = refl
  or-none (Some value) = refl

  find-append : (q : List ℕ) (front back : List (List ℕ × V))
      → find byte_order q (front ++ back)
      ≡ option_or (find byte_order q front) (find byte_order q back)
  find-append q [] back = refl
  find-append q (pair ∷ front) back =
      let P : Bool → Type 0 =
      λ t. cond t (Some pair.1) (find byte_order q (front ++ back))
      ≡ option_or (cond t (Some pair.1) (find byte_order q front)) (find byte_order q back) in
      let both : (t : Bool) → P t = elim [ true ↦ refl | false ↦ find-append q front back ] in
      both (eq_by_cmp byte_order q pair.0)

  abbrev nothing : List ℕ → Option V
  nothing rest = None

  find-none : (o : Option (List ℕ)) → None ≡ option_and_then nothing o
  find-none None = refl
  find-none (Some rest) = refl

  find-step : (o : Option (List ℕ)) (key : List ℕ) (value : V) (pairs : List (List ℕ × V))
      (later : Option V) → later ≡ option_and_then (λ rest. find byte_order rest pairs) o
      → cond (is_left o key) (Some value) later
      ≡ option_and_then (λ rest. find byte_order rest ((key, value) ∷ pairs)) o
  find-step None key value pairs later e = e
  find-step (Some rest) key value pairs later e = rw (e, is_eq-slice_cmp rest key) refl

  -- the pairs behind a prefix
  find-behind : (p q : List ℕ) (pairs : List (List ℕ × V))
      → find byte_order q (map (λ pair. (p ++ pair.0, pair.1)) pairs)
      ≡ option_and_then (λ rest. find byte_order rest pairs) (strip_prefix p q)
  find-behind p q [] = find-none (strip_prefix p q)
  find-behind p q (pair ∷ pairs) =
      rw (is_eq-slice_cmp q (p ++ pair.0), bytes_eq-strip_prefix p q pair.0)
      (find-step (strip_prefix p q) pair.0 pair.1 pairs _ (find-behind p q pairs))

  find-own : (value : Option V) (q : List ℕ)
      → find byte_order q (own_pair value) ≡ at_end q value None
  find-own None [] = refl
  find-own None (b ∷ q) = refl
  find-own (Some value) [] = refl
  find-own (Some value) (b ∷ q) = refl

  alike : (o : Option (List ℕ)) (f g : List ℕ → Option V) → ((rest : List ℕ) → f rest ≡ g rest)
      → option_and_then f o ≡ option_and_then g o
  alike None f g same = refl
  alike (Some rest) f g same = same rest

  pub found-empty : (s : Shape V) (byte : ℕ) → BeginsWith byte (prefix_of s) → found s [] ≡ None
  found-empty (node [] value width forest) byte begins = absurd begins
  found-empty (node (b ∷ prefix) value width forest) byte begins = refl

  pub found-other : (s : Shape V) (byte c : ℕ) (q : List ℕ) → BeginsWith byte (prefix_of s)
      → (c == byte) ≡ false → found s (c ∷ q) ≡ None
  found-other (node [] value width forest) byte c q begins differs = absurd begins
  found-other (node (b ∷ prefix) value width forest) byte c q begins differs =
      let apart : (c == b) ≡ false = subst (λ z. (c == z) ≡ false) (sym begins) differs in
      rw apart refl

  own-or-below : (value : Option V) (forest : Forest V) (q : List ℕ)
      → option_or (at_end q value None) (at_end q None (found_below forest q))
      ≡ at_end q value (found_below forest q)
  own-or-below value forest [] = or-none value
  own-or-below value forest (b ∷ q) = refl

  mutual
    pub find-pairs : (s : Shape V) (q : List ℕ) → IsTree s
        → find byte_order q (pairs_of s) ≡ found s q
    find-pairs (node prefix value width forest) q tree =
        find-behind prefix q (own_pair value ++ pairs_below forest)
        ∙ alike (strip_prefix prefix q) _ _
        (λ rest. find-append rest (own_pair value) (pairs_below forest)
        ∙ ap (λ o. option_or o (find byte_order rest (pairs_below forest))) (find-own value rest)
        ∙ ap (option_or (at_end rest value None)) (find-below forest rest tree.0 tree.1)
        ∙ own-or-below value forest rest)

    find-below : (forest : Forest V) (q : List ℕ) → children.IsAscending (entries_of forest)
        → AreBranches forest → find byte_order q (pairs_below forest)
        ≡ at_end q None (found_below forest q)
    find-below bare [] ascending branches = refl
    find-below bare (c ∷ q) ascending branches = refl
    find-below (grown b child forest) [] ascending branches =
        let later = ascending_parts (b, child) (entries_of forest) ascending in
        find-append [] (pairs_of child) (pairs_below forest)
        ∙ ap (λ o. option_or o (find byte_order [] (pairs_below forest)))
        (find-pairs child [] branches.1 ∙ found-empty child b branches.0)
        ∙ find-below forest [] later.1 branches.2
    find-below (grown b child forest) (c ∷ q) ascending branches =
        let later = ascending_parts (b, child) (entries_of forest) ascending in
        let rest = find-below forest (c ∷ q) later.1 branches.2 in
        let P : Bool → Type 0 =
        λ t. (c == b) ≡ t → option_or (found child (c ∷ q)) (found_below forest (c ∷ q))
        ≡ cond t (found child (c ∷ q)) (found_below forest (c ∷ q)) in
        let both : (t : Bool) → P t = elim [
          | true ↦ (λ same. let missed =
              child_at-below c b (entries_of forest)
              (subst (λ z. z ≤ b) (sym (eqb-true c b same)) (le_refl b)) later.0 in
              ap (option_or (found child (c ∷ q)))
              (found-below forest c q ∙ ap (option_and_then (λ s. found s (c ∷ q))) missed)
              ∙ or-none (found child (c ∷ q)))
          | false ↦ (λ differs. ap (λ o. option_or o (found_below forest (c ∷ q)))
              (found-other child b c q branches.0 differs))
        ] in
        find-append (c ∷ q) (pairs_of child) (pairs_below forest)
        ∙ ap (λ o. option_or o (find byte_order (c ∷ q) (pairs_below forest)))
        (find-pairs child (c ∷ q) branches.1)
        ∙ ap (option_or (found child (c ∷ q))) rest
        ∙ both (c == b) refl

-- What two trees have in common, by what their prefixes leave and by their children.
use Rattle.std.proofs.Common.{◌≡◌, ◌≢◌, inl, inr, ℕ, List, [], ◌∷◌, ◌++◌, Option, Some, None, refl, sym, ap, subst, ◌∙◌, arith}
use Rattle.std.specs.List.{filter_map, cons_option}
use Rattle.std.specs.Option.{option_map, option_and_then}
use Rattle.std.proofs.lemmas.Bool.{ne_eqb, cases_eq}
use Rattle.std.proofs.lemmas.List.{append-nil, append_assoc, map-append}
use Rattle.std.proofs.lemmas.List.Elements.{filter_map-append}
use Rattle.rart_below.specs.Children.{child_at, IsAscending}
use Rattle.rart_below.proofs.AscendingLemmas.{ascending_parts, child_at-here, child_at-below}
use Rattle.rart_node.specs.Shape.{Shape, Forest, node, bare, grown, prefix_of, value_of, children_of, entries_of, with_prefix}
use Rattle.rart_node.specs.Trees.{strip_prefix, BeginsWith, at_end, own_pair, found, found_below, pairs_of, pairs_below, IsTree, AreBranches}
use Rattle.rart_node.proofs.FindLemmas.{found-below}
use Rattle.rart_node.proofs.PairLemmas.{found-empty, found-other}
use Rattle.rart_node.proofs.PrefixRestLemmas.{behind-append, strip_prefix-own}
use Rattle.rart_node.specs.PairsBehind.{behind_path}
use Rattle.rart_node.proofs.BehindLemmas.{behind-behind, behind-none}
use Rattle.rart_lockstep.specs.Children.{common_children}
use Rattle.rart_lockstep.specs.CommonPairs.{common_pairs}
use Rattle.rart_lockstep.specs.Entries.{own_entry, behind_key}
use Rattle.rart_lockstep.proofs.ChildLemmas.{child_at-other}

module _ {V : Type 0} where
  -- what two trees have in common, where there are both
  abbrev pub common_in : Option (Shape V) → Option (Shape V) → List (List ℕ × V × V)
  common_in None right = []
  common_in (Some left) None = []
  common_in (Some left) (Some right) = common_pairs left right

  -- what the two trees of each pair have in common, one pair behind the other
  abbrev pub common_of_all : List (ℕ × (Shape V × Shape V)) → List (List ℕ × V × V)
  common_of_all [] = []
  common_of_all (pair ∷ pairs) = common_pairs pair.1.0 pair.1.1 ++ common_of_all pairs

  -- each key for which there is another value, with both
  abbrev met : (List ℕ → Option V) → List (List ℕ × V) → List (List ℕ × V × V)
  met other pairs = filter_map (λ pair. option_map (λ x. (pair.0, pair.1, x)) (other pair.0)) pairs

  met-append : (other : List ℕ → Option V) (front back : List (List ℕ × V))
      → met other (front ++ back) ≡ met other front ++ met other back
  met-append other front back =
      filter_map-append {X = List ℕ × V} {Y = List ℕ × V × V}
      (λ pair. option_map (λ x. (pair.0, pair.1, x)) (other pair.0)) front back

  met-behind : (other : List ℕ → Option V) (path : List ℕ) (pairs : List (List ℕ × V))
      → met other (behind_path path pairs)
      ≡ behind_key path (met (λ key. other (path ++ key)) pairs)
  met-behind other path [] = refl
  met-behind other path (pair ∷ pairs) =
      elim (other (path ++ pair.0))
      as (λ o. cons_option (option_map (λ x. (path ++ pair.0, pair.1, x)) o)
      (met other (behind_path path pairs))
      ≡ behind_key path (cons_option (option_map (λ x. (pair.0, pair.1, x)) o)
      (met (λ key. other (path ++ key)) pairs))) [
        | None ↦ met-behind other path pairs
        | Some x ↦ ap (λ rest. (path ++ pair.0, pair.1, x) ∷ rest) (met-behind other path pairs)
      ]

  met-none : (other : List ℕ → Option V) (pairs : List (List ℕ × V))
      → ((key : List ℕ) → other key ≡ None) → met other pairs ≡ []
  met-none other [] none = refl
  met-none other (pair ∷ pairs) none =
      ap (λ o. cons_option (option_map (λ x. (pair.0, pair.1, x)) o) (met other pairs))
      (none pair.0) ∙ met-none other pairs none

  met-same : (other also : List ℕ → Option V) (pairs : List (List ℕ × V))
      → ((key : List ℕ) → other key ≡ also key) → met other pairs ≡ met also pairs
  met-same other also pairs same = λ i. met (λ key. same key i) pairs

  -- Of a tree whose keys begin with a byte, only what there is for such strings matters.
  met-begun : (s : Shape V) (byte : ℕ) (other also : List ℕ → Option V)
      → BeginsWith byte (prefix_of s) → ((w : List ℕ) → other (byte ∷ w) ≡ also (byte ∷ w))
      → met other (pairs_of s) ≡ met also (pairs_of s)
  met-begun (node [] value width forest) byte other also begins same = absurd begins
  met-begun (node (b ∷ prefix) value width forest) byte other also begins same =
      let inside = own_pair value ++ pairs_below forest in
      let alike : (key : List ℕ) → other (b ∷ (prefix ++ key)) ≡ also (b ∷ (prefix ++ key)) =
      λ key. subst (λ c. other (c ∷ (prefix ++ key)) ≡ also (c ∷ (prefix ++ key))) (sym begins)
      (same (prefix ++ key)) in
      met-behind other (b ∷ prefix) inside
      ∙ ap (behind_key (b ∷ prefix))
      (met-same (λ key. other (b ∷ (prefix ++ key))) (λ key. also (b ∷ (prefix ++ key))) inside
      alike)
      ∙ sym (met-behind also (b ∷ prefix) inside)

  -- ---- entries behind bytes
  pub key-append : (path : List ℕ) (front back : List (List ℕ × V × V))
      → behind_key path (front ++ back) ≡ behind_key path front ++ behind_key path back
  key-append path front back =
      map-append {A = List ℕ × V × V} (λ entry. (path ++ entry.0, entry.1, entry.2)) front back

  pub key-key : (path more : List ℕ) (entries : List (List ℕ × V × V))
      → behind_key path (behind_key more entries) ≡ behind_key (path ++ more) entries
  key-key path more [] = refl
  key-key path more (entry ∷ entries) = let key = sym (append_assoc path more entry.0) in
      λ i. (key i, entry.1, entry.2) ∷ key-key path more entries i

  pub key-none : (entries : List (List ℕ × V × V)) → behind_key [] entries ≡ entries
  key-none [] = refl
  key-none (entry ∷ entries) = ap (λ rest. entry ∷ rest) (key-none entries)

  -- ---- prefixes that begin alike
  found-matched : (t : Shape V) (u q : List ℕ) (key : List ℕ)
      → found (with_prefix (u ++ q) t) (u ++ key) ≡ found (with_prefix q t) key
  found-matched (node prefix value width forest) u q key =
      ap (option_and_then (λ rest. at_end rest value (found_below forest rest)))
      (behind-append u q (u ++ key)
      ∙ ap (option_and_then (strip_prefix q)) (strip_prefix-own u key))

  pub pairs-matched : (s : Shape V) (u p : List ℕ)
      → pairs_of (with_prefix (u ++ p) s) ≡ behind_path u (pairs_of (with_prefix p s))
  pairs-matched (node prefix value width forest) u p =
      sym (behind-behind u p (own_pair value ++ pairs_below forest))

  pub with_prefix-is : (s : Shape V) (p : List ℕ) → prefix_of s ≡ p → s ≡ with_prefix p s
  with_prefix-is (node prefix value width forest) p is = ap (λ z. node z value width forest) is

  -- What both prefixes begin with stands before each key.
  pub common_pairs-matched : (s t : Shape V) (u p q : List ℕ) → prefix_of s ≡ u ++ p
      → prefix_of t ≡ u ++ q
      → common_pairs s t ≡ behind_key u (common_pairs (with_prefix p s) (with_prefix q t))
  common_pairs-matched s t u p q left right =
      (λ i. common_pairs (with_prefix-is s (u ++ p) left i) (with_prefix-is t (u ++ q) right i))
      ∙ ap (met (found (with_prefix (u ++ q) t))) (pairs-matched s u p)
      ∙ met-behind (found (with_prefix (u ++ q) t)) u (pairs_of (with_prefix p s))
      ∙ ap (behind_key u)
      (met-same (λ key. found (with_prefix (u ++ q) t) (u ++ key)) (found (with_prefix q t))
      (pairs_of (with_prefix p s)) (found-matched t u q))

  -- Where the prefixes go on with different bytes, nothing is in common.
  pub common_pairs-mismatch : (s t : Shape V) (b c : ℕ) → BeginsWith b (prefix_of s)
      → BeginsWith c (prefix_of t) → b ≢ c → common_pairs s t ≡ []
  common_pairs-mismatch s t b c left right differ =
      met-begun s b (found t) (λ key. None) left
      (λ w. found-other t c b w right (ne_eqb b c differ))
      ∙ met-none (λ key. None) (pairs_of s) (λ key. refl)

  -- ---- one prefix ends
  in_common-some : (s : Shape V) (o : Option (Shape V))
      → met (λ key. option_and_then (λ child. found child key) o) (pairs_of s)
      ≡ common_in (Some s) o
  in_common-some s None = met-none (λ key. None) (pairs_of s) (λ key. refl)
  in_common-some s (Some t) = refl

  found-inside : (t : Shape V) (b : ℕ) (w : List ℕ) → prefix_of t ≡ []
      → found t (b ∷ w)
      ≡ option_and_then (λ child. found child (b ∷ w)) (child_at b (children_of t))
  found-inside (node [] value width forest) b w end = found-below forest b w
  found-inside (node (c ∷ prefix) value width forest) b w end = cc

  -- Where the right prefix has ended and the left one goes on with a byte, what is in common lies
  -- in the right child under it.
  pub common_pairs-right_ends : (s t : Shape V) (b : ℕ) → BeginsWith b (prefix_of s)
      → prefix_of t ≡ [] → common_pairs s t ≡ common_in (Some s) (child_at b (children_of t))
  common_pairs-right_ends s t b begins end =
      met-begun s b (found t)
      (λ key. option_and_then (λ child. found child key) (child_at b (children_of t))) begins
      (λ w. found-inside t b w end)
      ∙ in_common-some s (child_at b (children_of t))

  -- There is another value only for strings that begin with the byte.
  met-below : (forest : Forest V) (byte : ℕ) (t : Shape V) → IsAscending (entries_of forest)
      → AreBranches forest → BeginsWith byte (prefix_of t)
      → met (found t) (pairs_below forest)
      ≡ common_in (child_at byte (entries_of forest)) (Some t)
  met-below bare byte t ascending branches begins = refl
  met-below (grown b child forest) byte t ascending branches begins =
      let order = ascending_parts (b, child) (entries_of forest) ascending in
      let more = met-below forest byte t order.1 branches.2 begins in
      let parts = met-append (found t) (pairs_of child) (pairs_below forest) in
      elim (cases_eq b byte) [
        | inl same ↦
            let none =
            child_at-below byte b (entries_of forest) (omega (arith, same)) order.0 in
            parts
            ∙ ap (λ rest. met (found t) (pairs_of child) ++ rest)
            (more ∙ ap (λ o. common_in o (Some t)) none)
            ∙ append-nil (met (found t) (pairs_of child))
            ∙ ap (λ o. common_in o (Some t))
            (sym (child_at-here byte b child (entries_of forest) same))
        | inr differ ↦
            parts
            ∙ ap (λ first. first ++ met (found t) (pairs_below forest))
            (common_pairs-mismatch child t b byte branches.0 begins differ)
            ∙ more
            ∙ ap (λ o. common_in o (Some t))
            (sym (child_at-other byte b child (entries_of forest) differ))
      ]

  met-own : (value : Option V) (t : Shape V) → found t [] ≡ None
      → met (found t) (own_pair value) ≡ []
  met-own None t none = refl
  met-own (Some value) t none =
      ap (λ o. cons_option (option_map (λ x. ([], value, x)) o) []) none

  -- Where the left prefix has ended and the right one goes on with a byte, what is in common lies
  -- in the left child under it.
  pub common_pairs-left_ends : (s t : Shape V) (b : ℕ) → IsTree s → prefix_of s ≡ []
      → BeginsWith b (prefix_of t)
      → common_pairs s t ≡ common_in (child_at b (children_of s)) (Some t)
  common_pairs-left_ends (node (c ∷ prefix) value width forest) t b tree end begins = cc
  common_pairs-left_ends (node [] value width forest) t b tree end begins =
      ap (met (found t)) (behind-none (own_pair value ++ pairs_below forest))
      ∙ met-append (found t) (own_pair value) (pairs_below forest)
      ∙ ap (λ own. own ++ met (found t) (pairs_below forest))
      (met-own value t (found-empty t b begins))
      ∙ met-below forest b t tree.0 tree.1 begins

  -- ---- both prefixes end
  met-both : (value : Option V) (t : Shape V) → prefix_of t ≡ []
      → met (found t) (own_pair value) ≡ own_entry [] value (value_of t)
  met-both value (node (c ∷ prefix) other width forest) end = cc
  met-both None (node [] other width forest) end = refl
  met-both (Some value) (node [] None width forest) end = refl
  met-both (Some value) (node [] (Some other) width forest) end = refl

  all-next : (byte : ℕ) (child : Shape V) (o : Option (Shape V))
      (pairs : List (ℕ × (Shape V × Shape V)))
      → common_of_all (cons_option (option_map (λ other. (byte, (child, other))) o) pairs)
      ≡ common_in (Some child) o ++ common_of_all pairs
  all-next byte child None pairs = refl
  all-next byte child (Some other) pairs = refl

  met-all : (forest : Forest V) (t : Shape V) → AreBranches forest → prefix_of t ≡ []
      → met (found t) (pairs_below forest)
      ≡ common_of_all (common_children (entries_of forest) (children_of t))
  met-all bare t branches end = refl
  met-all (grown b child forest) t branches end =
      met-append (found t) (pairs_of child) (pairs_below forest)
      ∙ (λ i. common_pairs-right_ends child t b branches.0 end i
      ++ met-all forest t branches.2 end i)
      ∙ sym (all-next b child (child_at b (children_of t))
      (common_children (entries_of forest) (children_of t)))

  -- Then what is in common is the entry of the empty string, where both have a value, and what the
  -- children under the same bytes have in common.
  pub common_pairs-both_end : (s t : Shape V) → IsTree s → prefix_of s ≡ [] → prefix_of t ≡ []
      → common_pairs s t ≡ own_entry [] (value_of s) (value_of t)
      ++ common_of_all (common_children (children_of s) (children_of t))
  common_pairs-both_end (node (c ∷ prefix) value width forest) t tree end also = cc
  common_pairs-both_end (node [] value width forest) t tree end also =
      ap (met (found t)) (behind-none (own_pair value ++ pairs_below forest))
      ∙ met-append (found t) (own_pair value) (pairs_below forest)
      ∙ (λ i. met-both value t also i ++ met-all forest t tree.1 also i)

-- What a walk over a tree goes over, in the words of the version that is shown.
use Rattle.std.proofs.Common.{◌≡◌, ◌≤◌, ◌∷◌, ◌++◌, ℕ, List, [], Option, Some, None, length, refl, arith, sym, ap, subst, ◌∙◌}
use Rattle.std.specs.Option.{option_map}
use Rattle.std.proofs.lemmas.List.Elements.{All-nil, All-head, All-tail}
use Rattle.rart_below.specs.Bytes.{IsAdmitted}
use Rattle.rart_node.specs.Shape.{Shape, prefix_of, value_of, children_of}
use Rattle.rart_node.specs.Trees.{found, pairs_of}
use Rattle.rart_walks.specs.Walks.{AreShort}
use Rattle.rart_walks.specs.Frames.{behind_path, pairs_of_all, pending_pair}
use Rattle.rart_node.proofs.BehindLemmas.{behind-none, pairs-entered}
use Rattle.std.specs.declared.ops.Bound.{Bound}
use Rattle.std.specs.declared.ops.Bound.TheVariants.{Unbounded}
use Rattle.rart_maps.specs.Pairs.{pairs, within}
use Rattle.rart_maps.specs.Versions.{Map, Version, value_at}
use Rattle.rart_maps.proofs.ElementLemmas.{All-from_contains}
use Rattle.rart_maps.proofs.RangeLemmas.{from, up_to, within-from}
use Rattle.rart_versioned.specs.TreeWalks.{AreAdmitted, KeepsKeys}
use Rattle.rart_versioned.specs.Roots.{found_in, map_of, pairs_in, IsSound}
use Rattle.rart_versioned.proofs.KeyLengthLemmas.{pair-length, admitted-pairs}
use Rattle.rart_versioned.proofs.VersionMapLemmas.{get-found, pairs-map}
use Rattle.rart_versioned.proofs.SoundLemmas.{tree-in}

module _ {V : Type 0} where
  admitted-in : (most : Option ℕ) (count : ℕ) (o : Option (Shape V)) → IsSound most count o →
      AreAdmitted most (pairs_in o)
  admitted-in most count None sound =
      All-nil (λ (pair : List ℕ × V). IsAdmitted most (length pair.0))
  admitted-in most count (Some root) sound = admitted-pairs most count root sound

  -- The keys below a sound root are short enough for a key path that keeps any key.
  pub short-kept : (most : Option ℕ) (count : ℕ) (root : Shape V) →
      IsSound most count (Some root) → (greatest : Option ℕ) → KeepsKeys greatest →
      AreShort greatest (pairs_of root)
  short-kept most count root sound None keeps = tt
  short-kept most count root sound (Some greatest) keeps =
      All-from_contains (λ (pair : List ℕ × V). length pair.0 ≤ greatest) (pairs_of root)
      (λ pair there. keeps (length pair.0) (pair-length most count root sound pair there).1)

  -- ---- of the first of some pairs, and of the others
  module _ (most : Option ℕ) (pair : List ℕ × V) (rest list : List (List ℕ × V))
      (is : list ≡ pair ∷ rest) (admitted : AreAdmitted most list) where
    pub first-admitted : IsAdmitted most (length pair.0)
    first-admitted =
        All-head (λ (pair : List ℕ × V). IsAdmitted most (length pair.0)) pair rest
        (subst (AreAdmitted most) is admitted)

    pub rest-admitted : AreAdmitted most rest
    rest-admitted =
        All-tail (λ (pair : List ℕ × V). IsAdmitted most (length pair.0)) pair rest
        (subst (AreAdmitted most) is admitted)

-- ---- of a node without children
no-more : {A : Type 0} (xs : List A) → length xs ≤ 0 → xs ≡ []
no-more [] few = refl
no-more (x ∷ xs) few = absurd (omega (arith, few))

module _ {V : Type 0} where
  pub lone-pair : (s : Shape V) (value : V) → value_of s ≡ Some value →
      length (children_of s) ≤ 0 → pairs_of s ≡ (prefix_of s, value) ∷ []
  lone-pair s value is few =
      let below = behind_path (prefix_of s) (pairs_of_all (children_of s)) in
      sym (behind-none (pairs_of s))
      ∙ pairs-entered [] s
      ∙ ap (λ own. pending_pair (prefix_of s) own ++ below) is
      ∙ ap (λ children. (prefix_of s, value) ∷ behind_path (prefix_of s) (pairs_of_all children))
      (no-more (children_of s) few)

-- ---- of a tree with this root, or the lack of one
module _ {A V : Type 0} (shape : A → Shape V) (most : Option ℕ) (count : ℕ) (inside : Option A)
    (v : Version V) (sound : IsSound most count (option_map shape inside))
    (shows : record { content = map_of (option_map shape inside); number = count } ≡ v) where
  pub content-pairs : pairs v.content ≡ pairs_in (option_map shape inside)
  content-pairs =
      ap (λ (z : Version V). pairs z.content) (sym shows)
      ∙ pairs-map (option_map shape inside) (tree-in most count (option_map shape inside) sound)

  pub content-admitted : AreAdmitted most (pairs v.content)
  content-admitted =
      subst (AreAdmitted most) (sym content-pairs)
      (admitted-in most count (option_map shape inside) sound)

  pub no-pairs : inside ≡ None → pairs v.content ≡ []
  no-pairs is = content-pairs ∙ ap (λ root. pairs_in (option_map shape root)) is

  pub value-found : (w : List ℕ) → value_at v w ≡ found_in (option_map shape inside) w
  value-found w =
      ap (λ (z : Version V). value_at z w) (sym shows)
      ∙ get-found (option_map shape inside) w
      (tree-in most count (option_map shape inside) sound)

  module _ (root : A) (is : inside ≡ Some root) where
    pub root-value : (w : List ℕ) → found (shape root) w ≡ value_at v w
    root-value w = sym (value-found w ∙ ap (λ root. found_in (option_map shape root) w) is)

    pub root-sound : IsSound most count (Some (shape root))
    root-sound = subst (λ root. IsSound most count (option_map shape root)) is sound

    pub root-pairs : pairs v.content ≡ pairs_of (shape root)
    root-pairs = content-pairs ∙ ap (λ root. pairs_in (option_map shape root)) is

    pub root-short : (greatest : Option ℕ) → KeepsKeys greatest →
        AreShort greatest (pairs_of (shape root))
    root-short = short-kept most count (shape root) root-sound

-- ---- of the pairs from a lower bound on
up_to-all : {V : Type 0} (list : List (List ℕ × V)) → up_to Unbounded list ≡ list
up_to-all [] = refl
up_to-all (pair ∷ list) = ap (λ rest. pair ∷ rest) (up_to-all list)

pub within-from_low : {V : Type 0} (m : Map V) (low : Bound (List ℕ)) →
    within m low Unbounded ≡ from low (pairs m)
within-from_low m low = within-from m low Unbounded ∙ up_to-all (from low (pairs m))

-- The pairs of a tree ascend strictly by key.
use Rattle.std.proofs.Common.{◌≡◌, ◌<◌, ℕ, List, [], ◌∷◌, ◌++◌, Option, Some, None, map, true, ◌&&◌, refl, arith, ap, sym, ◌∙◌}
use Rattle.std.specs.Prelude.{⊤}
use Rattle.std.specs.declared.cmp.Ordering.TheVariants.{Less, Equal}
use Rattle.std.specs.Ordering.{ordering_then, is_lt}
use Rattle.std.specs.Cmp.{nat_cmp_is}
use Rattle.std.specs.FinMap.Entries.{is_sorted, below_all}
use Rattle.std.proofs.lemmas.Bool.{and_parts, and_from}
use Rattle.rart_below.specs.Bytes.{byte_order}
use Rattle.rart_below.specs.Children as children
use Rattle.rart_below.specs.Laws.{IsBelow}
use Rattle.rart_below.proofs.AscendingLemmas.{below_parts, ascending_parts}
use Rattle.rart_node.specs.Shape.{Shape, Forest, node, bare, grown, prefix_of, entries_of}
use Rattle.rart_node.specs.Trees.{BeginsWith, own_pair, pairs_of, pairs_below, IsTree, AreBranches}

-- The string begins with a byte above this one.
abbrev BeginsAbove : ℕ → List ℕ → Type 0
BeginsAbove byte [] = ⊥
BeginsAbove byte (b ∷ w) = byte < b

before-above : (byte : ℕ) (w u : List ℕ) → BeginsWith byte w → BeginsAbove byte u
    → is_lt (byte_order w u) ≡ true
before-above byte [] u begins above = absurd begins
before-above byte (b ∷ w) [] begins above = absurd above
before-above byte (b ∷ w) (c ∷ u) begins above =
    let lt : b < c = omega (arith, begins, above) in
    ap (λ r. is_lt (ordering_then r (byte_order w u))) (sym (nat_cmp_is b c Less lt))

order-behind : (p u w : List ℕ) → byte_order (p ++ u) (p ++ w) ≡ byte_order u w
order-behind [] u w = refl
order-behind (b ∷ p) u w =
    ap (λ r. ordering_then r (byte_order (p ++ u) (p ++ w))) (sym (nat_cmp_is b b Equal refl))
    ∙ order-behind p u w

begins-above : (least byte : ℕ) → least < byte → (w : List ℕ) → BeginsWith byte w
    → BeginsAbove least w
begins-above least byte lt [] begins = absurd begins
begins-above least byte lt (b ∷ w) begins = omega (arith, lt, begins)

-- The string has a byte.
abbrev IsSomeString : List ℕ → Type 0
IsSomeString [] = ⊥
IsSomeString (b ∷ w) = ⊤

some-string : (byte : ℕ) (w : List ℕ) → BeginsWith byte w → IsSomeString w
some-string byte [] begins = begins
some-string byte (b ∷ w) begins = tt

before-some : (w : List ℕ) → IsSomeString w → is_lt (byte_order [] w) ≡ true
before-some [] some = absurd some
before-some (b ∷ w) some = refl

module _ {V : Type 0} where
  -- Each key of the list is such a string.
  abbrev EachKey : (List ℕ → Type 0) → List (List ℕ × V) → Type 0
  EachKey P [] = ⊤
  EachKey P (pair ∷ pairs) = P pair.0 × EachKey P pairs

  each-append : (P : List ℕ → Type 0) (front back : List (List ℕ × V)) → EachKey P front
      → EachKey P back → EachKey P (front ++ back)
  each-append P [] back each later = later
  each-append P (pair ∷ front) back each later = (each.0, each-append P front back each.1 later)

  each-weaker : (P Q : List ℕ → Type 0) → ((w : List ℕ) → P w → Q w) → (pairs : List (List ℕ × V))
      → EachKey P pairs → EachKey Q pairs
  each-weaker P Q weaker [] each = tt
  each-weaker P Q weaker (pair ∷ pairs) each =
      (weaker pair.0 each.0, each-weaker P Q weaker pairs each.1)

  each-behind : (P : List ℕ → Type 0) (p : List ℕ) (pairs : List (List ℕ × V))
      → ((w : List ℕ) → P (p ++ w)) → EachKey P (map (λ pair. (p ++ pair.0, pair.1)) pairs)
  each-behind P p [] all = tt
  each-behind P p (pair ∷ pairs) all = (all pair.0, each-behind P p pairs all)

  below-each : (P : List ℕ → Type 0) (key : List ℕ) (pairs : List (List ℕ × V))
      → ((w : List ℕ) → P w → is_lt (byte_order key w) ≡ true) → EachKey P pairs
      → below_all byte_order key pairs ≡ true
  below-each P key [] before each = refl
  below-each P key (pair ∷ pairs) before each =
      and_from (is_lt (byte_order key pair.0)) (below_all byte_order key pairs)
      (before pair.0 each.0) (below-each P key pairs before each.1)

  below-append : (key : List ℕ) (front back : List (List ℕ × V))
      → below_all byte_order key front ≡ true → below_all byte_order key back ≡ true
      → below_all byte_order key (front ++ back) ≡ true
  below-append key [] back below later = later
  below-append key (pair ∷ front) back below later =
      let parts =
      and_parts (is_lt (byte_order key pair.0)) (below_all byte_order key front) below in
      and_from (is_lt (byte_order key pair.0)) (below_all byte_order key (front ++ back)) parts.0
      (below-append key front back parts.1 later)

  sorted-append : (front back : List (List ℕ × V)) → is_sorted byte_order front ≡ true
      → is_sorted byte_order back ≡ true → EachKey (λ w. below_all byte_order w back ≡ true) front
      → is_sorted byte_order (front ++ back) ≡ true
  sorted-append [] back sorted later each = later
  sorted-append (pair ∷ front) back sorted later each =
      let parts =
      and_parts (below_all byte_order pair.0 front) (is_sorted byte_order front) sorted in
      and_from (below_all byte_order pair.0 (front ++ back)) (is_sorted byte_order (front ++ back))
      (below-append pair.0 front back parts.0 each.0)
      (sorted-append front back parts.1 later each.1)

  below-behind : (p key : List ℕ) (pairs : List (List ℕ × V))
      → below_all byte_order (p ++ key) (map (λ pair. (p ++ pair.0, pair.1)) pairs)
      ≡ below_all byte_order key pairs
  below-behind p key [] = refl
  below-behind p key (pair ∷ pairs) =
      λ i. is_lt (order-behind p key pair.0 i) && below-behind p key pairs i

  pub sorted-behind : (p : List ℕ) (pairs : List (List ℕ × V))
      → is_sorted byte_order (map (λ pair. (p ++ pair.0, pair.1)) pairs)
      ≡ is_sorted byte_order pairs
  sorted-behind p [] = refl
  sorted-behind p (pair ∷ pairs) = λ i. below-behind p pair.0 pairs i && sorted-behind p pairs i

  -- the keys of a child begin with its byte, those of all children behind a byte with bytes above
  -- it
  keys-begin : (s : Shape V) (byte : ℕ) → BeginsWith byte (prefix_of s)
      → EachKey (BeginsWith byte) (pairs_of s)
  keys-begin (node [] value width forest) byte begins = absurd begins
  keys-begin (node (b ∷ prefix) value width forest) byte begins =
      each-behind (BeginsWith byte) (b ∷ prefix) (own_pair value ++ pairs_below forest)
      (λ w. begins)

  keys-above : (forest : Forest V) (least : ℕ) → IsBelow least (entries_of forest)
      → AreBranches forest → EachKey (BeginsAbove least) (pairs_below forest)
  keys-above bare least below branches = tt
  keys-above (grown byte child forest) least below branches =
      let parts = below_parts least (byte, child) (entries_of forest) below in
      each-append (BeginsAbove least) (pairs_of child) (pairs_below forest)
      (each-weaker (BeginsWith byte) (BeginsAbove least) (begins-above least byte parts.0)
      (pairs_of child) (keys-begin child byte branches.0))
      (keys-above forest least parts.1 branches.2)

  keys-some : (forest : Forest V) → AreBranches forest → EachKey IsSomeString (pairs_below forest)
  keys-some bare branches = tt
  keys-some (grown byte child forest) branches =
      each-append IsSomeString (pairs_of child) (pairs_below forest)
      (each-weaker (BeginsWith byte) IsSomeString (some-string byte) (pairs_of child)
      (keys-begin child byte branches.0))
      (keys-some forest branches.2)

  sorted-own : (value : Option V) (pairs : List (List ℕ × V)) → EachKey IsSomeString pairs
      → is_sorted byte_order pairs ≡ true → is_sorted byte_order (own_pair value ++ pairs) ≡ true
  sorted-own None pairs some sorted = sorted
  sorted-own (Some value) pairs some sorted =
      and_from (below_all byte_order [] pairs) (is_sorted byte_order pairs)
      (below-each IsSomeString [] pairs before-some some) sorted

  mutual
    pub sorted-pairs : (s : Shape V) → IsTree s → is_sorted byte_order (pairs_of s) ≡ true
    sorted-pairs (node prefix value width forest) tree =
        sorted-behind prefix (own_pair value ++ pairs_below forest)
        ∙ sorted-own value (pairs_below forest) (keys-some forest tree.1)
        (sorted-below forest tree.0 tree.1)

    sorted-below : (forest : Forest V) → children.IsAscending (entries_of forest)
        → AreBranches forest → is_sorted byte_order (pairs_below forest) ≡ true
    sorted-below bare ascending branches = refl
    sorted-below (grown byte child forest) ascending branches =
        let later = ascending_parts (byte, child) (entries_of forest) ascending in
        let above = keys-above forest byte later.0 branches.2 in
        sorted-append (pairs_of child) (pairs_below forest) (sorted-pairs child branches.1)
        (sorted-below forest later.1 branches.2)
        (each-weaker (BeginsWith byte) (λ w. below_all byte_order w (pairs_below forest) ≡ true)
        (λ w begins. below-each (BeginsAbove byte) w (pairs_below forest)
        (λ u higher. before-above byte w u begins higher) above) (pairs_of child)
        (keys-begin child byte branches.0))

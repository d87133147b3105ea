-- What a test of keys keeps of the pairs of a tree, or of the paths of its nodes, one node at a
-- time.
use Rattle.std.proofs.Common.{◌≡◌, ◌<◌, ℕ, suc, Bool, true, false, cond, inl, inr, List, [], ◌∷◌, ◌++◌, Option, Some, None, filter, refl, arith, sym, ap, subst, ◌∙◌}
use Rattle.std.specs.Prelude.{⊤}
use Rattle.std.proofs.lemmas.Bool.{cases_order}
use Rattle.std.proofs.lemmas.List.Elements.{filter-append}
use Rattle.rart_below.specs.Children.{child_at, children_from, IsAscending}
use Rattle.rart_below.specs.Laws.{IsBelow, below_from}
use Rattle.rart_below.proofs.AscendingLemmas.{below_parts, below_lower, ascending_parts, child_at-later, child_at-here, child_at-below, children_from-passed, children_from-below}
use Rattle.rart_node.specs.Shape.{Shape, Forest, node, bare, grown, prefix_of, value_of, children_of, entries_of}
use Rattle.rart_node.specs.Trees.{BeginsWith, IsTree, AreBranches, own_pair, pairs_of, pairs_below}
use Rattle.rart_node.specs.PairsBehind.{behind_path, pairs_of_all}

module _ {A : Type 0} where
  abbrev pub keeping : (List ℕ → Bool) → List (List ℕ × A) → List (List ℕ × A)
  keeping test pairs = filter (λ pair. test pair.0) pairs

  pub keeping-behind : (test : List ℕ → Bool) (path : List ℕ) (pairs : List (List ℕ × A))
      → keeping test (behind_path path pairs)
      ≡ behind_path path (keeping (λ key. test (path ++ key)) pairs)
  keeping-behind test path [] = refl
  keeping-behind test path (pair ∷ pairs) =
      let first : List ℕ × A = (path ++ pair.0, pair.1) in
      ap (λ rest. cond (test (path ++ pair.0)) (first ∷ rest) rest) (keeping-behind test path pairs)
      ∙ elim (test (path ++ pair.0))
      as (λ t. cond t (first ∷ behind_path path (keeping (λ key. test (path ++ key)) pairs))
      (behind_path path (keeping (λ key. test (path ++ key)) pairs))
      ≡ behind_path path (cond t (pair ∷ keeping (λ key. test (path ++ key)) pairs)
      (keeping (λ key. test (path ++ key)) pairs))) [ true ↦ refl | false ↦ refl ]

  -- the test is the same for each key
  pub keeping-either : (test : List ℕ → Bool) (keep : Bool) (pairs : List (List ℕ × A))
      → ((key : List ℕ) → test key ≡ keep) → keeping test pairs ≡ cond keep pairs []
  keeping-either test true [] each = refl
  keeping-either test false [] each = refl
  keeping-either test true (pair ∷ pairs) each =
      rw each (ap (λ rest. pair ∷ rest) (keeping-either test true pairs each))
  keeping-either test false (pair ∷ pairs) each = rw each (keeping-either test false pairs each)

  pub keeping-same : (test other : List ℕ → Bool) (pairs : List (List ℕ × A))
      → ((key : List ℕ) → test key ≡ other key) → keeping test pairs ≡ keeping other pairs
  keeping-same test other [] each = refl
  keeping-same test other (pair ∷ pairs) each = let e : test pair.0 ≡ other pair.0 = each pair.0 in
      rw e (ap (λ rest. cond (other pair.0) (pair ∷ rest) rest)
      (keeping-same test other pairs each))

  pub keeping-append : (test : List ℕ → Bool) (front back : List (List ℕ × A))
      → keeping test (front ++ back) ≡ keeping test front ++ keeping test back
  keeping-append test front back = filter-append (λ (pair : List ℕ × A). test pair.0) front back

  pub behind-either : (keep : Bool) (path : List ℕ) (pairs : List (List ℕ × A))
      → behind_path path (cond keep pairs []) ≡ cond keep (behind_path path pairs) []
  behind-either true path pairs = refl
  behind-either false path pairs = refl

  abbrev nothing : List (List ℕ × A)
  nothing = []

  pub either-none : (keep : Bool) → nothing ≡ cond keep nothing nothing
  either-none true = refl
  either-none false = refl

  pub either-append : (keep : Bool) (front back : List (List ℕ × A))
      → cond keep front [] ++ cond keep back [] ≡ cond keep (front ++ back) []
  either-append true front back = refl
  either-append false front back = refl

module _ {V : Type 0} where
  -- The prefix of each child begins with its byte.
  abbrev pub AreBegun : List (ℕ × Shape V) → Type 0
  AreBegun [] = ⊤
  AreBegun (child ∷ children) = BeginsWith child.0 (prefix_of child.1) × AreBegun children

  branches-begun : (forest : Forest V) → AreBranches forest → AreBegun (entries_of forest)
  branches-begun bare branches = tt
  branches-begun (grown byte child forest) branches = (branches.0, branches-begun forest branches.2)

  pub tree-begun : (s : Shape V) → IsTree s → AreBegun (children_of s)
  tree-begun (node prefix value width forest) tree = branches-begun forest tree.1

  pub tree-ascending : (s : Shape V) → IsTree s → IsAscending (children_of s)
  tree-ascending (node prefix value width forest) tree = tree.0

-- `own` is what a node itself has, below its prefix
module _ {V A : Type 0} (own : Option V → List (List ℕ × A)) where
  abbrev mutual
    pub gathered : Shape V → List (List ℕ × A)
    gathered (node prefix value width forest) =
        behind_path prefix (own value ++ gathered_below forest)

    pub gathered_below : Forest V → List (List ℕ × A)
    gathered_below bare = []
    gathered_below (grown byte child forest) = gathered child ++ gathered_below forest

  abbrev pub gathered_all : List (ℕ × Shape V) → List (List ℕ × A)
  gathered_all [] = []
  gathered_all (child ∷ children) = gathered child.1 ++ gathered_all children

  gathered-entries : (forest : Forest V) → gathered_below forest ≡ gathered_all (entries_of forest)
  gathered-entries bare = refl
  gathered-entries (grown byte child forest) =
      ap (λ rest. gathered child ++ rest) (gathered-entries forest)

  pub gathered-is : (s : Shape V)
      → gathered s ≡ behind_path (prefix_of s) (own (value_of s) ++ gathered_all (children_of s))
  gathered-is (node prefix value width forest) =
      ap (λ below. behind_path prefix (own value ++ below)) (gathered-entries forest)

  -- a test that is the same for each key that begins with the byte
  pub keeping-begun : (test : List ℕ → Bool) (keep : Bool) (byte : ℕ) (s : Shape V)
      → BeginsWith byte (prefix_of s) → ((w : List ℕ) → test (byte ∷ w) ≡ keep)
      → keeping test (gathered s) ≡ cond keep (gathered s) []
  keeping-begun test keep byte (node [] value width forest) begins each = absurd begins
  keeping-begun test keep byte (node (b ∷ prefix) value width forest) begins each =
      let inside = own value ++ gathered_below forest in
      keeping-behind test (b ∷ prefix) inside
      ∙ ap (behind_path (b ∷ prefix))
      (keeping-either (λ key. test (b ∷ (prefix ++ key))) keep inside
      (λ key. subst (λ z. test (z ∷ (prefix ++ key)) ≡ keep) (sym begins) (each (prefix ++ key))))
      ∙ behind-either keep (b ∷ prefix) inside

  -- a test that keeps each key with a byte
  pub keeping-inside : (test : List ℕ → Bool) → ((b : ℕ) (w : List ℕ) → test (b ∷ w) ≡ true)
      → (children : List (ℕ × Shape V)) → AreBegun children
      → keeping test (gathered_all children) ≡ gathered_all children
  keeping-inside test each [] begun = refl
  keeping-inside test each (child ∷ children) begun =
      keeping-append test (gathered child.1) (gathered_all children)
      ∙ ap (λ rest. keeping test (gathered child.1) ++ rest)
      (keeping-inside test each children begun.1)
      ∙ ap (λ first. first ++ gathered_all children)
      (keeping-begun test true child.0 child.1 begun.0 (each child.0))

  -- what is kept of a child, if there is one
  abbrev pub kept_at : (List ℕ → Bool) → Option (Shape V) → List (List ℕ × A)
  kept_at test None = []
  kept_at test (Some child) = keeping test (gathered child)

  -- a test that keeps no key below a byte, and all above it or none
  module _ (test : List ℕ → Bool) (keep : Bool) (byte : ℕ) (lower : (c : ℕ) (w : List ℕ) → c < byte
      → test (c ∷ w) ≡ false) (upper : (c : ℕ) (w : List ℕ) → byte < c → test (c ∷ w) ≡ keep) where
    keeping-above : (children : List (ℕ × Shape V)) → IsBelow byte children → AreBegun children
        → keeping test (gathered_all children) ≡ cond keep (gathered_all children) []
    keeping-above [] above begun = either-none {A = A} keep
    keeping-above (child ∷ children) above begun =
        let parts = below_parts byte child children above in
        keeping-append test (gathered child.1) (gathered_all children)
        ∙ ap (λ rest. keeping test (gathered child.1) ++ rest)
        (keeping-above children parts.1 begun.1)
        ∙ ap (λ first. first ++ cond keep (gathered_all children) [])
        (keeping-begun test keep child.0 child.1 begun.0 (λ w. upper child.0 w parts.0))
        ∙ either-append keep (gathered child.1) (gathered_all children)

    pub keeping-children : (children : List (ℕ × Shape V)) → IsAscending children
        → AreBegun children
        → keeping test (gathered_all children) ≡ kept_at test (child_at byte children)
        ++ cond keep (gathered_all (children_from (suc byte) children)) []
    keeping-children [] ascending begun = either-none {A = A} keep
    keeping-children (child ∷ children) ascending begun =
        let order = ascending_parts child children ascending in
        let parts = keeping-append test (gathered child.1) (gathered_all children) in
        elim (cases_order child.0 byte) [
          | inl same ↦
              parts
              ∙ ap (λ rest. keeping test (gathered child.1) ++ rest)
              (keeping-above children (subst (λ z. IsBelow z children) same order.0) begun.1)
              ∙ ap (λ o. kept_at test o ++ cond keep (gathered_all children) [])
              (sym (child_at-here byte child.0 child.1 children same))
              ∙ ap (λ later. kept_at test (child_at byte (child ∷ children))
              ++ cond keep (gathered_all later) [])
              (sym (children_from-passed (suc byte) child children (omega (arith, same))
              ∙ children_from-below (suc byte) child.0 children (omega (arith, same)) order.0))
          | inr (inl less) ↦
              parts
              ∙ ap (λ first. first ++ keeping test (gathered_all children))
              (keeping-begun test false child.0 child.1 begun.0 (λ w. lower child.0 w less))
              ∙ keeping-children children order.1 begun.1
              ∙ ap (λ o. kept_at test o ++ cond keep
              (gathered_all (children_from (suc byte) children)) [])
              (sym (child_at-later byte child.0 child.1 children less))
              ∙ ap (λ later. kept_at test (child_at byte (child ∷ children))
              ++ cond keep (gathered_all later) [])
              (sym (children_from-passed (suc byte) child children (omega (arith, less))))
          | inr (inr more) ↦
              let below =
              below_from byte child children more
              (below_lower byte child.0 children (omega (arith, more)) order.0) in
              keeping-above (child ∷ children) below begun
              ∙ ap (λ later. cond keep (gathered_all later) [])
              (sym (children_from-below (suc byte) byte (child ∷ children) (omega arith) below))
              ∙ ap (λ o. kept_at test o ++ cond keep
              (gathered_all (children_from (suc byte) (child ∷ children))) [])
              (sym (child_at-below byte byte (child ∷ children) (omega arith) below))
        ]

-- the pairs of a tree are gathered from its nodes
module _ {V : Type 0} where
  mutual
    pub pairs-gathered : (s : Shape V) → pairs_of s ≡ gathered own_pair s
    pairs-gathered (node prefix value width forest) =
        ap (λ below. behind_path prefix (own_pair value ++ below)) (below-gathered forest)

    below-gathered : (forest : Forest V) → pairs_below forest ≡ gathered_below own_pair forest
    below-gathered bare = refl
    below-gathered (grown byte child forest) =
        λ i. pairs-gathered child i ++ below-gathered forest i

  pub all-gathered : (children : List (ℕ × Shape V))
      → pairs_of_all children ≡ gathered_all own_pair children
  all-gathered [] = refl
  all-gathered (child ∷ children) = λ i. pairs-gathered child.1 i ++ all-gathered children i

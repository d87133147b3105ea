-- Which keys of a tree meet a test that goes along two strings, one node at a time.
use Rattle.std.proofs.Common.{◌≡◌, ◌<◌, ℕ, suc, Bool, true, false, cond, List, [], ◌∷◌, ◌++◌, Option, Some, None, refl, arith, sym, ap, ◌∙◌}
use Rattle.std.specs.declared.cmp.Ordering.{Ordering}
use Rattle.std.specs.declared.cmp.Ordering.TheVariants.{Less, Equal, Greater}
use Rattle.std.specs.Ordering.{ordering_then}
use Rattle.std.specs.Cmp.{nat_cmp_is}
use Rattle.std.proofs.lemmas.Bool.{eq-eqb, ne_eqb}
use Rattle.std.proofs.lemmas.List.{append-nil, append_assoc}
use Rattle.rart_below.specs.Bytes.{begins, byte_order}
use Rattle.rart_below.specs.Children.{child_at, children_from}
use Rattle.rart_node.specs.PairsBehind.{behind_path}
use Rattle.rart_node.specs.Shape.{Shape, prefix_of, value_of, children_of}
use Rattle.rart_node.specs.Trees.{IsTree, own_pair}
use Rattle.rart_node.proofs.GatherLemmas.{keeping, keeping-behind, keeping-either, keeping-same, keeping-append, behind-either, gathered, gathered_all, gathered-is, kept_at, keeping-children, keeping-inside, tree-begun, tree-ascending}

-- A test of strings goes along two strings that begin alike, and is told by the first byte that
-- differs.
pub record GoesAlong (test : List ℕ → List ℕ → Bool) (more : Bool) : Type 0 where
  pub along : (p u w : List ℕ) → test (p ++ u) (p ++ w) ≡ test u w
  pub ended : (b : ℕ) (u : List ℕ) → test (b ∷ u) [] ≡ false
  pub lower : (b : ℕ) (u : List ℕ) (c : ℕ) (w : List ℕ) → c < b → test (b ∷ u) (c ∷ w) ≡ false
  pub upper : (b : ℕ) (u : List ℕ) (c : ℕ) (w : List ℕ) → b < c → test (b ∷ u) (c ∷ w) ≡ more
  pub inside : (b : ℕ) (w : List ℕ) → test [] (b ∷ w) ≡ true

pub begins-along : (p u w : List ℕ) → begins (p ++ u) (p ++ w) ≡ begins u w
begins-along [] u w = refl
begins-along (b ∷ p) u w = rw (eq-eqb b b refl) (begins-along p u w)

pub begins-goes : GoesAlong begins false
begins-goes = record {
  along = begins-along;
  ended = λ b u. refl;
  lower = λ b u c w less. rw (ne_eqb b c (omega (arith, less))) refl;
  upper = λ b u c w more. rw (ne_eqb b c (omega (arith, more))) refl;
  inside = λ b w. refl;
}

-- Behind a path strings are ordered as without it.
pub order-along : (p u w : List ℕ) → byte_order (p ++ u) (p ++ w) ≡ byte_order u w
order-along [] u w = refl
order-along (b ∷ p) u w =
    ap (λ r. ordering_then r (byte_order (p ++ u) (p ++ w))) (sym (nat_cmp_is b b Equal refl))
    ∙ order-along p u w

pub order-goes : (told : Ordering → Bool) → told Less ≡ true → told Greater ≡ false
    → GoesAlong (λ u w. told (byte_order u w)) true
order-goes told less greater = record {
  along = λ p u w. ap told (order-along p u w);
  ended = λ b u. greater;
  lower =
      λ b u c w lt. ap (λ r. told (ordering_then r (byte_order u w)))
      (sym (nat_cmp_is b c Greater lt)) ∙ greater;
  upper =
      λ b u c w lt. ap (λ r. told (ordering_then r (byte_order u w))) (sym (nat_cmp_is b c Less lt))
      ∙ less;
  inside = λ b w. less;
}

-- What a node has of its own stands at the empty string.
abbrev pub StandsAtEnd : {V A : Type 0} → (Option V → List (List ℕ × A)) → Type 0
StandsAtEnd {V} own = (value : Option V) (test : List ℕ → Bool) (keep : Bool) → test [] ≡ keep
    → keeping test (own value) ≡ cond keep (own value) []

pub own_pair-ends : {V : Type 0} → StandsAtEnd {V = V} own_pair
own_pair-ends None test true is = refl
own_pair-ends None test false is = refl
own_pair-ends (Some value) test true is = rw is refl
own_pair-ends (Some value) test false is = rw is refl

module _ {V A : Type 0} (own : Option V → List (List ℕ × A)) (at_end : StandsAtEnd own)
    (test : List ℕ → List ℕ → Bool) (more : Bool) (goes : GoesAlong test more) where
  -- the string goes on behind the node's prefix
  pub parted-below : (s : Shape V) (byte : ℕ) (left : List ℕ) → IsTree s
      → keeping (test (prefix_of s ++ (byte ∷ left))) (gathered own s)
      ≡ behind_path (prefix_of s) (kept_at own (test (byte ∷ left)) (child_at byte (children_of s))
      ++ cond more (gathered_all own (children_from (suc byte) (children_of s))) [])
  parted-below s byte left tree =
      let prefix = prefix_of s in
      let inside = own (value_of s) ++ gathered_all own (children_of s) in
      ap (keeping (test (prefix ++ (byte ∷ left)))) (gathered-is own s)
      ∙ keeping-behind (test (prefix ++ (byte ∷ left))) prefix inside
      ∙ ap (behind_path prefix) (
      keeping-same (λ key. test (prefix ++ (byte ∷ left)) (prefix ++ key))
      (test (byte ∷ left)) inside (λ key. goes.along prefix (byte ∷ left) key)
      ∙ keeping-append (test (byte ∷ left)) (own (value_of s)) (gathered_all own (children_of s))
      ∙ ap (λ first. first ++ keeping (test (byte ∷ left)) (gathered_all own (children_of s)))
      (at_end (value_of s) (test (byte ∷ left)) false (goes.ended byte left))
      ∙ keeping-children own (test (byte ∷ left)) more byte (goes.lower byte left)
      (goes.upper byte left) (children_of s) (tree-ascending s tree) (tree-begun s tree))

  -- the string leaves the node's prefix
  parted-either : (s : Shape V) (p : List ℕ) (b : ℕ) (q : List ℕ) (c : ℕ) (r : List ℕ) (keep : Bool)
      → prefix_of s ≡ p ++ (b ∷ q) → ((w : List ℕ) → test (c ∷ r) (b ∷ w) ≡ keep)
      → keeping (test (p ++ (c ∷ r))) (gathered own s) ≡ cond keep (gathered own s) []
  parted-either s p b q c r keep is each =
      let inside = own (value_of s) ++ gathered_all own (children_of s) in
      let whole = gathered-is own s in
      ap (keeping (test (p ++ (c ∷ r)))) whole
      ∙ keeping-behind (test (p ++ (c ∷ r))) (prefix_of s) inside
      ∙ ap (behind_path (prefix_of s))
      (keeping-either (λ key. test (p ++ (c ∷ r)) (prefix_of s ++ key)) keep inside
      (λ key. ap (λ z. test (p ++ (c ∷ r)) (z ++ key)) is
      ∙ ap (test (p ++ (c ∷ r))) (append_assoc p (b ∷ q) key)
      ∙ goes.along p (c ∷ r) (b ∷ (q ++ key)) ∙ each (q ++ key)))
      ∙ behind-either keep (prefix_of s) inside
      ∙ ap (λ z. cond keep z []) (sym whole)

  pub parted-lower : (s : Shape V) (p : List ℕ) (b : ℕ) (q : List ℕ) (c : ℕ) (r : List ℕ)
      → prefix_of s ≡ p ++ (b ∷ q) → b < c → keeping (test (p ++ (c ∷ r))) (gathered own s) ≡ []
  parted-lower s p b q c r is less =
      parted-either s p b q c r false is (λ w. goes.lower c r b w less)

  pub parted-upper : (s : Shape V) (p : List ℕ) (b : ℕ) (q : List ℕ) (c : ℕ) (r : List ℕ)
      → prefix_of s ≡ p ++ (b ∷ q) → c < b
      → keeping (test (p ++ (c ∷ r))) (gathered own s) ≡ cond more (gathered own s) []
  parted-upper s p b q c r is less =
      parted-either s p b q c r more is (λ w. goes.upper c r b w less)

  -- the string ends inside the node's prefix, or with it
  module _ (s : Shape V) (rest q : List ℕ) (is : prefix_of s ≡ rest ++ q) where
    inside-tests : (key : List ℕ) → test rest (prefix_of s ++ key) ≡ test [] (q ++ key)
    inside-tests key =
        ap (λ z. test rest (z ++ key)) is ∙ ap (test rest) (append_assoc rest q key)
        ∙ ap (λ u. test u (rest ++ (q ++ key))) (sym (append-nil rest))
        ∙ goes.along rest [] (q ++ key)

    pub parted-all : ((key : List ℕ) → test [] (q ++ key) ≡ true)
        → keeping (test rest) (gathered own s) ≡ gathered own s
    parted-all each =
        let inside = own (value_of s) ++ gathered_all own (children_of s) in
        ap (keeping (test rest)) (gathered-is own s)
        ∙ keeping-behind (test rest) (prefix_of s) inside
        ∙ ap (behind_path (prefix_of s))
        (keeping-either (λ key. test rest (prefix_of s ++ key)) true inside
        (λ key. inside-tests key ∙ each key))
        ∙ sym (gathered-is own s)

    -- all but the node's own, where the string itself is not meant
    pub parted-inside : IsTree s → q ≡ [] → test [] [] ≡ false
        → keeping (test rest) (gathered own s)
        ≡ behind_path (prefix_of s) (gathered_all own (children_of s))
    parted-inside tree end strict =
        let inside = own (value_of s) ++ gathered_all own (children_of s) in
        ap (keeping (test rest)) (gathered-is own s)
        ∙ keeping-behind (test rest) (prefix_of s) inside
        ∙ ap (behind_path (prefix_of s)) (
        keeping-same (λ key. test rest (prefix_of s ++ key)) (test []) inside
        (λ key. inside-tests key ∙ ap (λ z. test [] (z ++ key)) end)
        ∙ keeping-append (test []) (own (value_of s)) (gathered_all own (children_of s))
        ∙ ap (λ first. first ++ keeping (test []) (gathered_all own (children_of s)))
        (at_end (value_of s) (test []) false strict)
        ∙ keeping-inside own (test []) goes.inside (children_of s) (tree-begun s tree))

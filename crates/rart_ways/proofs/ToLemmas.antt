-- Which keys are up to a string, or before it, one node at a time.
use Rattle.std.proofs.Common.{◌≡◌, ◌<◌, ◌≤◌, ℕ, Bool, true, false, cond, inl, inr, List, [], ◌∷◌, ◌++◌, Some, None, length, refl, arith, sym, ap, subst, ◌∙◌}
use Rattle.std.specs.Cmp.{nat_cmp_is}
use Rattle.std.specs.Ordering.{ordering_then, is_le, is_lt}
use Rattle.std.specs.declared.cmp.Ordering.TheVariants.{Less, Greater}
use Rattle.std.proofs.lemmas.Bool.{cases_order}
use Rattle.std.proofs.lemmas.List.{append-nil, append_assoc, length-append}
use Rattle.rart_below.specs.Bytes.{byte_order}
use Rattle.rart_below.specs.Children.{child_at, children_below, IsAscending}
use Rattle.rart_below.specs.Laws.{IsBelow, below_from}
use Rattle.rart_below.proofs.AscendingLemmas.{ascending_parts, below_lower, below_parts, child_at-below, child_at-here, child_at-later}
use Rattle.rart_below.proofs.ChildrenBelowLemmas.{below-kept, below-none, below-passed}
use Rattle.rart_node.specs.Shape.{Shape, prefix_of, value_of, children_of}
use Rattle.rart_node.specs.Trees.{IsTree, own_pair, pairs_of}
use Rattle.rart_node.specs.PairsBehind.{behind_path, pairs_of_all, pending_pair}
use Rattle.rart_node.proofs.PartingLemmas.{IsFront, PartsAt}
use Rattle.rart_node.proofs.GatherLemmas.{AreBegun, keeping, keeping-append, keeping-begun, keeping-behind, keeping-either, keeping-same, kept_at, behind-either, gathered, gathered_all, gathered-is, pairs-gathered, all-gathered, tree-ascending, tree-begun}
use Rattle.rart_node.proofs.AlongLemmas.{order-along}
use Rattle.rart_node.proofs.BehindLemmas.{behind-append}
use Rattle.rart_ways.specs.Besides.{is_to}
use Rattle.rart_ways.specs.declared.seeking.Edge.{Edge}
use Rattle.rart_ways.specs.declared.seeking.Edge.TheVariants.{Included, Excluded}

-- ---- the test, by the first byte that differs
to-along : (edge : Edge) (p u w : List ℕ) → is_to edge (p ++ u) (p ++ w) ≡ is_to edge u w
to-along Included p u w = ap is_le (order-along p w u)
to-along Excluded p u w = ap is_lt (order-along p w u)

to-lower : (edge : Edge) (b : ℕ) (u : List ℕ) (c : ℕ) (w : List ℕ) → c < b
    → is_to edge (b ∷ u) (c ∷ w) ≡ true
to-lower Included b u c w lt =
    ap (λ r. is_le (ordering_then r (byte_order w u))) (sym (nat_cmp_is c b Less lt))
to-lower Excluded b u c w lt =
    ap (λ r. is_lt (ordering_then r (byte_order w u))) (sym (nat_cmp_is c b Less lt))

to-upper : (edge : Edge) (b : ℕ) (u : List ℕ) (c : ℕ) (w : List ℕ) → b < c
    → is_to edge (b ∷ u) (c ∷ w) ≡ false
to-upper Included b u c w lt =
    ap (λ r. is_le (ordering_then r (byte_order w u))) (sym (nat_cmp_is c b Greater lt))
to-upper Excluded b u c w lt =
    ap (λ r. is_lt (ordering_then r (byte_order w u))) (sym (nat_cmp_is c b Greater lt))

to-shorter : (edge : Edge) (b : ℕ) (u : List ℕ) → is_to edge (b ∷ u) [] ≡ true
to-shorter Included b u = refl
to-shorter Excluded b u = refl

to-inside : (edge : Edge) (b : ℕ) (w : List ℕ) → is_to edge [] (b ∷ w) ≡ false
to-inside Included b w = refl
to-inside Excluded b w = refl

to-nothing : (w : List ℕ) → is_to Excluded [] w ≡ false
to-nothing [] = refl
to-nothing (b ∷ w) = refl

-- ---- a test that keeps each key below a byte, and none above it
module _ {V : Type 0} (test : List ℕ → Bool) (byte : ℕ)
    (lower : (c : ℕ) (w : List ℕ) → c < byte → test (c ∷ w) ≡ true)
    (upper : (c : ℕ) (w : List ℕ) → byte < c → test (c ∷ w) ≡ false) where
  none-above : (children : List (ℕ × Shape V)) → IsBelow byte children → AreBegun children
      → keeping test (gathered_all own_pair children) ≡ []
  none-above [] above begun = refl
  none-above (child ∷ children) above begun =
      let parts = below_parts byte child children above in
      keeping-append test (gathered own_pair child.1) (gathered_all own_pair children)
      ∙ ap (λ first. first ++ keeping test (gathered_all own_pair children))
      (keeping-begun own_pair test false child.0 child.1 begun.0 (λ w. upper child.0 w parts.0))
      ∙ none-above children parts.1 begun.1

  keeping-below : (children : List (ℕ × Shape V)) → IsAscending children → AreBegun children
      → keeping test (gathered_all own_pair children)
      ≡ gathered_all own_pair (children_below byte children)
      ++ kept_at own_pair test (child_at byte children)
  keeping-below [] ascending begun = refl
  keeping-below (child ∷ children) ascending begun =
      let order = ascending_parts child children ascending in
      let parts =
      keeping-append test (gathered own_pair child.1) (gathered_all own_pair children) in
      elim (cases_order child.0 byte) [
        | inl same ↦
            parts
            ∙ ap (λ rest. keeping test (gathered own_pair child.1) ++ rest)
            (none-above children (subst (λ z. IsBelow z children) same order.0) begun.1)
            ∙ append-nil (keeping test (gathered own_pair child.1))
            ∙ ap (kept_at own_pair test) (sym (child_at-here byte child.0 child.1 children same))
            ∙ ap (λ below. gathered_all own_pair below
            ++ kept_at own_pair test (child_at byte (child ∷ children)))
            (sym (below-passed byte child children (omega (arith, same))
            ∙ below-none byte child.0 children (omega (arith, same)) order.0))
        | inr (inl less) ↦
            parts
            ∙ ap (λ first. first ++ keeping test (gathered_all own_pair children))
            (keeping-begun own_pair test true child.0 child.1 begun.0 (λ w. lower child.0 w less))
            ∙ ap (λ rest. gathered own_pair child.1 ++ rest)
            (keeping-below children order.1 begun.1)
            ∙ sym (append_assoc (gathered own_pair child.1)
            (gathered_all own_pair (children_below byte children))
            (kept_at own_pair test (child_at byte children)))
            ∙ ap (λ below. gathered_all own_pair below
            ++ kept_at own_pair test (child_at byte children))
            (sym (below-kept byte child children less))
            ∙ ap (λ o. gathered_all own_pair (children_below byte (child ∷ children))
            ++ kept_at own_pair test o)
            (sym (child_at-later byte child.0 child.1 children less))
        | inr (inr more) ↦
            let below =
            below_from byte child children more
            (below_lower byte child.0 children (omega (arith, more)) order.0) in
            none-above (child ∷ children) below begun
            ∙ ap (λ o. kept_at own_pair test o)
            (sym (child_at-below byte byte (child ∷ children) (omega arith) below))
            ∙ ap (λ z. gathered_all own_pair z
            ++ kept_at own_pair test (child_at byte (child ∷ children)))
            (sym (below-none byte byte (child ∷ children) (omega arith) below))
      ]

module _ {V : Type 0} (edge : Edge) (s : Shape V) where
  abbrev reached : List ℕ → List (List ℕ × V)
  reached rest = keeping (is_to edge rest) (pairs_of s)

  abbrev inside : List (List ℕ × V)
  inside = own_pair (value_of s) ++ gathered_all own_pair (children_of s)

  -- the test is made behind the prefix
  reached-behind : (rest : List ℕ) → reached rest
      ≡ behind_path (prefix_of s) (keeping (λ key. is_to edge rest (prefix_of s ++ key)) inside)
  reached-behind rest =
      ap (keeping (is_to edge rest)) (pairs-gathered s ∙ gathered-is own_pair s)
      ∙ keeping-behind (is_to edge rest) (prefix_of s) inside

  -- it is the same for each key
  reached-either : (rest : List ℕ) (keep : Bool)
      → ((key : List ℕ) → is_to edge rest (prefix_of s ++ key) ≡ keep)
      → reached rest ≡ cond keep (pairs_of s) []
  reached-either rest keep each =
      reached-behind rest
      ∙ ap (behind_path (prefix_of s))
      (keeping-either (λ key. is_to edge rest (prefix_of s ++ key)) keep inside each)
      ∙ behind-either keep (prefix_of s) inside
      ∙ ap (λ z. cond keep z []) (sym (pairs-gathered s ∙ gathered-is own_pair s))

  behind-own : (path : List ℕ) (value : _)
      → behind_path path (own_pair {V = V} value) ≡ pending_pair path value
  behind-own path None = refl
  behind-own path (Some value) = ap (λ key. (key, value) ∷ []) (append-nil path)

  -- ---- the string leaves the prefix
  module _ (rest : List ℕ) (b c : ℕ) (parts : PartsAt (prefix_of s) rest b c) where
    leaves : (keep : Bool) → ((w : List ℕ) → is_to edge (c ∷ parts.left) (b ∷ w) ≡ keep)
        → reached rest ≡ cond keep (pairs_of s) []
    leaves keep each =
        reached-either rest keep (λ key.
        ap (λ z. is_to edge rest (z ++ key)) parts.is
        ∙ ap (λ z. is_to edge z ((parts.front ++ (b ∷ parts.more)) ++ key)) parts.also
        ∙ ap (is_to edge (parts.front ++ (c ∷ parts.left)))
        (append_assoc parts.front (b ∷ parts.more) key)
        ∙ to-along edge parts.front (c ∷ parts.left) (b ∷ (parts.more ++ key))
        ∙ each (parts.more ++ key))

    pub ends-before : c < b → reached rest ≡ []
    ends-before less = leaves false (λ w. to-upper edge c parts.left b w less)

    pub ends-behind : b ≤ c → reached rest ≡ pairs_of s
    ends-behind most =
        let differs = parts.differs in
        leaves true (λ w. to-lower edge c parts.left b w (omega (arith, most, differs)))

  -- ---- the string ends inside the prefix, or with it
  module _ (rest : List ℕ) (front : IsFront rest (prefix_of s)) where
    tests : (key : List ℕ) → is_to edge rest (prefix_of s ++ key) ≡ is_to edge [] (front.more ++ key)
    tests key =
        ap (λ z. is_to edge rest (z ++ key)) front.is
        ∙ ap (is_to edge rest) (append_assoc rest front.more key)
        ∙ ap (λ u. is_to edge u (rest ++ (front.more ++ key))) (sym (append-nil rest))
        ∙ to-along edge rest [] (front.more ++ key)

    beyond : (more : List ℕ) → front.more ≡ more → length rest < length (prefix_of s)
        → (key : List ℕ) → is_to edge [] (more ++ key) ≡ false
    beyond [] none less key =
        let same = ap length (front.is ∙ ap (λ z. rest ++ z) none ∙ append-nil rest) in
        absurd (omega (arith, less, same))
    beyond (b ∷ more) some less key = to-inside edge b (more ++ key)

    pub ends-inside-prefix : length rest < length (prefix_of s) → reached rest ≡ []
    ends-inside-prefix less =
        reached-either rest false (λ key. tests key ∙ beyond front.more refl less key)

    pub ends-strict : edge ≡ Excluded → reached rest ≡ []
    ends-strict strict =
        reached-either rest false (λ key. tests key
        ∙ ap (λ t. is_to t [] (front.more ++ key)) strict ∙ to-nothing (front.more ++ key))

    ended : (more : List ℕ) → front.more ≡ more → length rest ≡ length (prefix_of s) → more ≡ []
    ended [] is same = refl
    ended (b ∷ more) is same =
        let long = ap length (front.is ∙ ap (λ z. rest ++ z) is) ∙ length-append rest (b ∷ more) in
        absurd (omega (arith, long, same))

    -- the children are behind it
    none-below : (children : List (ℕ × Shape V)) → AreBegun children
        → keeping (is_to edge []) (gathered_all own_pair children) ≡ []
    none-below [] begun = refl
    none-below (child ∷ children) begun =
        keeping-append (is_to edge []) (gathered own_pair child.1) (gathered_all own_pair children)
        ∙ ap (λ first. first ++ keeping (is_to edge []) (gathered_all own_pair children))
        (keeping-begun own_pair (is_to edge []) false child.0 child.1 begun.0
        (to-inside edge child.0))
        ∙ none-below children begun.1

    own-kept : (value : _) → edge ≡ Included
        → keeping (is_to edge []) (own_pair {V = V} value) ≡ own_pair value
    own-kept None is = refl
    own-kept (Some value) is = ap (λ t. cond (is_to t [] []) (([], value) ∷ []) []) is

    pub ends-own : IsTree s → edge ≡ Included → length rest ≡ length (prefix_of s)
        → reached rest ≡ pending_pair (prefix_of s) (value_of s)
    ends-own tree is same =
        reached-behind rest
        ∙ ap (behind_path (prefix_of s)) (
        keeping-same (λ key. is_to edge rest (prefix_of s ++ key)) (is_to edge []) inside
        (λ key. tests key ∙ ap (λ z. is_to edge [] (z ++ key)) (ended front.more refl same))
        ∙ keeping-append (is_to edge []) (own_pair (value_of s))
        (gathered_all own_pair (children_of s))
        ∙ ap (λ first. first ++ keeping (is_to edge []) (gathered_all own_pair (children_of s)))
        (own-kept (value_of s) is)
        ∙ ap (λ rest. own_pair (value_of s) ++ rest)
        (none-below (children_of s) (tree-begun s tree))
        ∙ append-nil (own_pair (value_of s)))
        ∙ behind-own (prefix_of s) (value_of s)

  -- ---- the string goes on behind the prefix
  pub reached-below : (byte : ℕ) (more : List ℕ) → IsTree s
      → reached (prefix_of s ++ (byte ∷ more))
      ≡ (pending_pair (prefix_of s) (value_of s)
      ++ behind_path (prefix_of s) (pairs_of_all (children_below byte (children_of s))))
      ++ behind_path (prefix_of s)
      (kept_at own_pair (is_to edge (byte ∷ more)) (child_at byte (children_of s)))
  reached-below byte more tree =
      let prefix = prefix_of s in
      let test = is_to edge (byte ∷ more) in
      let below = gathered_all own_pair (children_below byte (children_of s)) in
      let last = kept_at own_pair test (child_at byte (children_of s)) in
      reached-behind (prefix ++ (byte ∷ more))
      ∙ ap (behind_path prefix) (
      keeping-same (λ key. is_to edge (prefix ++ (byte ∷ more)) (prefix ++ key)) test inside
      (λ key. to-along edge prefix (byte ∷ more) key)
      ∙ keeping-append test (own_pair (value_of s)) (gathered_all own_pair (children_of s))
      ∙ ap (λ first. first ++ keeping test (gathered_all own_pair (children_of s)))
      (own-all (value_of s))
      ∙ ap (λ rest. own_pair (value_of s) ++ rest)
      (keeping-below test byte (λ c w lt. to-lower edge byte more c w lt)
      (λ c w lt. to-upper edge byte more c w lt) (children_of s) (tree-ascending s tree)
      (tree-begun s tree)))
      ∙ behind-append prefix (own_pair (value_of s)) (below ++ last)
      ∙ ap (λ rest. behind_path prefix (own_pair (value_of s)) ++ rest)
      (behind-append prefix below last)
      ∙ sym (append_assoc (behind_path prefix (own_pair (value_of s))) (behind_path prefix below)
      (behind_path prefix last))
      ∙ ap (λ first. (first ++ behind_path prefix below) ++ behind_path prefix last)
      (behind-own prefix (value_of s))
      ∙ ap (λ z. (pending_pair prefix (value_of s) ++ behind_path prefix z)
      ++ behind_path prefix last)
      (sym (all-gathered (children_below byte (children_of s))))
    where
      own-all : (value : _) → keeping (is_to edge (byte ∷ more)) (own_pair {V = V} value)
          ≡ own_pair value
      own-all None = refl
      own-all (Some value) =
          ap (λ t. cond t (([], value) ∷ []) []) (to-shorter edge byte more)

-- Which keys of a tree are in the front part that a string picks, one node at a time.
use Rattle.std.proofs.Common.{◌≡◌, ◌<◌, ◌≤◌, ℕ, Bool, true, false, cond, ◌&&◌, inl, inr, List, [], ◌∷◌, ◌++◌, Option, filter, length, not, refl, arith, sym, ap, subst, ◌∙◌}
use Rattle.std.specs.Prelude.{◌==◌}
use Rattle.std.specs.declared.cmp.Ordering.TheVariants.{Less, Greater}
use Rattle.std.specs.Ordering.{ordering_then, is_le, is_lt}
use Rattle.std.specs.Cmp.{nat_cmp_is}
use Rattle.std.proofs.lemmas.Bool.{cases_order, eqb-false, eqb-true, ne_eqb}
use Rattle.std.proofs.lemmas.List.{append-nil, append_assoc, length-append}
use Rattle.rart_below.specs.Bytes.{begins, byte_order}
use Rattle.rart_below.specs.Children.{child_at, children_below, IsAscending}
use Rattle.rart_below.specs.Laws.{IsBelow, below_from}
use Rattle.rart_below.proofs.AscendingLemmas.{ascending_parts, below_lower, below_parts, child_at-below, child_at-here, child_at-later}
use Rattle.rart_below.proofs.ChildrenBelowLemmas.{below-kept, below-none, below-passed}
use Rattle.rart_node.specs.Shape.{Shape, prefix_of, value_of, children_of}
use Rattle.rart_node.specs.Trees.{IsTree, own_pair, pairs_of}
use Rattle.rart_walks.specs.declared.walk_back.path.Front.{Front}
use Rattle.rart_walks.specs.declared.walk_back.path.Front.TheVariants.{Under, UpTo, Before}
use Rattle.rart_walks.specs.Frames.{behind_path}
use Rattle.rart_walks.specs.Fronts.{at_end_of, has_lower, is_under, keeps, reached_pairs, reached_paths, reaches, stands_before}
use Rattle.rart_walks.specs.Walks.{paths_of}
use Rattle.rart_walks.proofs.CursorLemmas.{own_place, own_place-ends, keys_of, paths-are, paths-kept}
use Rattle.rart_node.proofs.PartingLemmas.{IsFront, PartsAt}
use Rattle.rart_node.proofs.GatherLemmas.{AreBegun, behind-either, either-append, either-none, gathered, gathered_all, gathered-is, keeping, keeping-append, keeping-begun, keeping-behind, keeping-either, keeping-same, kept_at, pairs-gathered, tree-ascending, tree-begun}
use Rattle.rart_node.proofs.AlongLemmas.{StandsAtEnd, begins-along, order-along, own_pair-ends}

-- A test of strings goes along two strings that begin alike, and is told by the first byte that
-- differs: what stands before passes or not, and what stands behind does not.
pub record SortsBack (test : List ℕ → List ℕ → Bool) (own lower inside : Bool) : Type 0 where
  pub along : (p u w : List ℕ) → test (p ++ u) (p ++ w) ≡ test u w
  pub ended : (b : ℕ) (u : List ℕ) → test (b ∷ u) [] ≡ own
  pub less : (b : ℕ) (u : List ℕ) (c : ℕ) (w : List ℕ) → c < b → test (b ∷ u) (c ∷ w) ≡ lower
  pub more : (b : ℕ) (u : List ℕ) (c : ℕ) (w : List ℕ) → b < c → test (b ∷ u) (c ∷ w) ≡ false
  pub past : (b : ℕ) (w : List ℕ) → test [] (b ∷ w) ≡ inside

begins-sorts : SortsBack begins false false true
begins-sorts = record {
  along = begins-along;
  ended = λ b u. refl;
  less = λ b u c w lt. rw (ne_eqb b c (omega (arith, lt))) refl;
  more = λ b u c w lt. rw (ne_eqb b c (omega (arith, lt))) refl;
  past = λ b w. refl;
}

before-sorts : SortsBack stands_before false true false
before-sorts = record {
  along = λ p u w i. is_lt (order-along p w u i) && not (begins-along p w u i);
  ended = λ b u. refl;
  less =
      λ b u c w lt i. is_lt (ordering_then (sym (nat_cmp_is c b Less lt) i) (byte_order w u))
      && not (ne_eqb c b (omega (arith, lt)) i && begins w u);
  more =
      λ b u c w lt i. is_lt (ordering_then (sym (nat_cmp_is c b Greater lt) i) (byte_order w u))
      && not (begins (c ∷ w) (b ∷ u));
  past = λ b w. refl;
}

pub keeps-sorts : (part : Front)
    → SortsBack (keeps part) (has_lower part) (has_lower part) (is_under part)
keeps-sorts Under = begins-sorts
keeps-sorts UpTo = record {
  along = λ p u w. ap is_le (order-along p w u);
  ended = λ b u. refl;
  less = λ b u c w lt.
      ap (λ r. is_le (ordering_then r (byte_order w u))) (sym (nat_cmp_is c b Less lt));
  more = λ b u c w lt.
      ap (λ r. is_le (ordering_then r (byte_order w u))) (sym (nat_cmp_is c b Greater lt));
  past = λ b w. refl;
}
keeps-sorts Before = record {
  along = λ p u w. ap is_lt (order-along p w u);
  ended = λ b u. refl;
  less = λ b u c w lt.
      ap (λ r. is_lt (ordering_then r (byte_order w u))) (sym (nat_cmp_is c b Less lt));
  more = λ b u c w lt.
      ap (λ r. is_lt (ordering_then r (byte_order w u))) (sym (nat_cmp_is c b Greater lt));
  past = λ b w. refl;
}

pub reaches-sorts : (part : Front)
    → SortsBack (reaches part) false (has_lower part) (is_under part)
reaches-sorts Under = begins-sorts
reaches-sorts UpTo = before-sorts
reaches-sorts Before = before-sorts

module _ {V A : Type 0} (own : Option V → List (List ℕ × A)) where
  -- ---- a test that keeps each key below a byte or none, and none above it
  module _ (test : List ℕ → Bool) (keep : Bool) (byte : ℕ)
      (lower : (c : ℕ) (w : List ℕ) → c < byte → test (c ∷ w) ≡ keep)
      (upper : (c : ℕ) (w : List ℕ) → byte < c → test (c ∷ w) ≡ false) where
    none-above : (children : List (ℕ × Shape V)) → IsBelow byte children → AreBegun children
        → keeping test (gathered_all own children) ≡ []
    none-above [] above begun = refl
    none-above (child ∷ children) above begun =
        let parts = below_parts byte child children above in
        keeping-append test (gathered own child.1) (gathered_all own children)
        ∙ ap (λ first. first ++ keeping test (gathered_all own children))
        (keeping-begun own test false child.0 child.1 begun.0 (λ w. upper child.0 w parts.0))
        ∙ none-above children parts.1 begun.1

    nothing-below : (children : List (ℕ × Shape V)) → children ≡ []
        → cond keep (gathered_all own children) [] ≡ []
    nothing-below children none =
        ap (λ z. cond keep (gathered_all own z) []) none ∙ sym (either-none {A = A} keep)

    keeping-below : (children : List (ℕ × Shape V)) → IsAscending children → AreBegun children
        → keeping test (gathered_all own children)
        ≡ cond keep (gathered_all own (children_below byte children)) []
        ++ kept_at own test (child_at byte children)
    keeping-below [] ascending begun = sym (append-nil _ ∙ sym (either-none {A = A} keep))
    keeping-below (child ∷ children) ascending begun =
        let order = ascending_parts child children ascending in
        let parts = keeping-append test (gathered own child.1) (gathered_all own children) in
        elim (cases_order child.0 byte) [
          | inl same ↦
              parts
              ∙ ap (λ rest. keeping test (gathered own child.1) ++ rest)
              (none-above children (subst (λ z. IsBelow z children) same order.0) begun.1)
              ∙ append-nil (keeping test (gathered own child.1))
              ∙ ap (kept_at own test) (sym (child_at-here byte child.0 child.1 children same))
              ∙ ap (λ below. below ++ kept_at own test (child_at byte (child ∷ children)))
              (sym (nothing-below (children_below byte (child ∷ children))
              (below-passed byte child children (omega (arith, same))
              ∙ below-none byte child.0 children (omega (arith, same)) order.0)))
          | inr (inl less) ↦
              parts
              ∙ ap (λ first. first ++ keeping test (gathered_all own children))
              (keeping-begun own test keep child.0 child.1 begun.0 (λ w. lower child.0 w less))
              ∙ ap (λ rest. cond keep (gathered own child.1) [] ++ rest)
              (keeping-below children order.1 begun.1)
              ∙ sym (append_assoc (cond keep (gathered own child.1) [])
              (cond keep (gathered_all own (children_below byte children)) [])
              (kept_at own test (child_at byte children)))
              ∙ ap (λ below. below ++ kept_at own test (child_at byte children))
              (either-append keep (gathered own child.1)
              (gathered_all own (children_below byte children)))
              ∙ ap (λ below. cond keep (gathered_all own below) []
              ++ kept_at own test (child_at byte children))
              (sym (below-kept byte child children less))
              ∙ ap (λ o. cond keep (gathered_all own (children_below byte (child ∷ children))) []
              ++ kept_at own test o)
              (sym (child_at-later byte child.0 child.1 children less))
          | inr (inr more) ↦
              let below =
              below_from byte child children more
              (below_lower byte child.0 children (omega (arith, more)) order.0) in
              none-above (child ∷ children) below begun
              ∙ ap (λ o. kept_at own test o)
              (sym (child_at-below byte byte (child ∷ children) (omega arith) below))
              ∙ ap (λ z. z ++ kept_at own test (child_at byte (child ∷ children)))
              (sym (nothing-below (children_below byte (child ∷ children))
              (below-none byte byte (child ∷ children) (omega arith) below)))
        ]

  -- ---- one node
  module _ (at_end : StandsAtEnd own) (test : List ℕ → List ℕ → Bool) (first lower inside : Bool)
      (sorts : SortsBack test first lower inside) (s : Shape V) where
    abbrev within : List (List ℕ × A)
    within = own (value_of s) ++ gathered_all own (children_of s)

    -- the string goes on behind the node's prefix
    pub parted-on : (byte : ℕ) (left : List ℕ) → IsTree s
        → keeping (test (prefix_of s ++ (byte ∷ left))) (gathered own s)
        ≡ behind_path (prefix_of s) ((cond first (own (value_of s)) []
        ++ cond lower (gathered_all own (children_below byte (children_of s))) [])
        ++ kept_at own (test (byte ∷ left)) (child_at byte (children_of s)))
    parted-on byte left tree =
        let prefix = prefix_of s in
        let below = cond lower (gathered_all own (children_below byte (children_of s))) [] in
        let last = kept_at own (test (byte ∷ left)) (child_at byte (children_of s)) in
        ap (keeping (test (prefix ++ (byte ∷ left)))) (gathered-is own s)
        ∙ keeping-behind (test (prefix ++ (byte ∷ left))) prefix within
        ∙ ap (behind_path prefix) (
        keeping-same (λ key. test (prefix ++ (byte ∷ left)) (prefix ++ key))
        (test (byte ∷ left)) within (λ key. sorts.along prefix (byte ∷ left) key)
        ∙ keeping-append (test (byte ∷ left)) (own (value_of s)) (gathered_all own (children_of s))
        ∙ ap (λ front. front ++ keeping (test (byte ∷ left)) (gathered_all own (children_of s)))
        (at_end (value_of s) (test (byte ∷ left)) first (sorts.ended byte left))
        ∙ ap (λ rest. cond first (own (value_of s)) [] ++ rest)
        (keeping-below (test (byte ∷ left)) lower byte (sorts.less byte left)
        (sorts.more byte left) (children_of s) (tree-ascending s tree) (tree-begun s tree))
        ∙ sym (append_assoc (cond first (own (value_of s)) []) below last))

    -- the test is the same for each key
    parted-same : (u : List ℕ) (keep : Bool) → ((key : List ℕ) → test u (prefix_of s ++ key) ≡ keep)
        → keeping (test u) (gathered own s) ≡ cond keep (gathered own s) []
    parted-same u keep each =
        ap (keeping (test u)) (gathered-is own s)
        ∙ keeping-behind (test u) (prefix_of s) within
        ∙ ap (behind_path (prefix_of s))
        (keeping-either (λ key. test u (prefix_of s ++ key)) keep within each)
        ∙ behind-either keep (prefix_of s) within
        ∙ ap (λ z. cond keep z []) (sym (gathered-is own s))

    -- the string leaves the node's prefix
    module _ (rest : List ℕ) (b c : ℕ) (parts : PartsAt (prefix_of s) rest b c) where
      leaves : (keep : Bool) → ((w : List ℕ) → test (c ∷ parts.left) (b ∷ w) ≡ keep)
          → keeping (test rest) (gathered own s) ≡ cond keep (gathered own s) []
      leaves keep each =
          parted-same rest keep (λ key.
          (λ i. test (parts.also i) (parts.is i ++ key))
          ∙ ap (test (parts.front ++ (c ∷ parts.left)))
          (append_assoc parts.front (b ∷ parts.more) key)
          ∙ sorts.along parts.front (c ∷ parts.left) (b ∷ (parts.more ++ key))
          ∙ each (parts.more ++ key))

      pub parted-before : b < c → keeping (test rest) (gathered own s)
          ≡ cond lower (gathered own s) []
      parted-before less = leaves lower (λ w. sorts.less c parts.left b w less)

      pub parted-behind : c ≤ b → keeping (test rest) (gathered own s) ≡ []
      parted-behind most =
          let differs = parts.differs in
          leaves false (λ w. sorts.more c parts.left b w (omega (arith, most, differs)))

    -- the string ends inside the node's prefix, or with it
    module _ (rest : List ℕ) (front : IsFront rest (prefix_of s)) where
      tests : (key : List ℕ) → test rest (prefix_of s ++ key) ≡ test [] (front.more ++ key)
      tests key =
          ap (λ z. test rest (z ++ key)) front.is
          ∙ ap (test rest) (append_assoc rest front.more key)
          ∙ ap (λ u. test u (rest ++ (front.more ++ key))) (sym (append-nil rest))
          ∙ sorts.along rest [] (front.more ++ key)

      pub parted-inside : (keep : Bool) → ((key : List ℕ) → test [] (front.more ++ key) ≡ keep)
          → keeping (test rest) (gathered own s) ≡ cond keep (gathered own s) []
      parted-inside keep each = parted-same rest keep (λ key. tests key ∙ each key)

      -- its own alone
      pub parted-own : IsTree s → front.more ≡ [] → test [] [] ≡ true → inside ≡ false
          → keeping (test rest) (gathered own s) ≡ behind_path (prefix_of s) (own (value_of s))
      parted-own tree end is none =
          ap (keeping (test rest)) (gathered-is own s)
          ∙ keeping-behind (test rest) (prefix_of s) within
          ∙ ap (behind_path (prefix_of s)) (
          keeping-same (λ key. test rest (prefix_of s ++ key)) (test []) within
          (λ key. tests key ∙ ap (λ z. test [] (z ++ key)) end)
          ∙ keeping-append (test []) (own (value_of s)) (gathered_all own (children_of s))
          ∙ ap (λ first. first ++ keeping (test []) (gathered_all own (children_of s)))
          (at_end (value_of s) (test []) true is)
          ∙ ap (λ rest. own (value_of s) ++ rest) (none-below (children_of s) (tree-begun s tree))
          ∙ append-nil (own (value_of s)))
        where
          none-below : (children : List (ℕ × Shape V)) → AreBegun children
              → keeping (test []) (gathered_all own children) ≡ []
          none-below [] begun = refl
          none-below (child ∷ children) begun =
              keeping-append (test []) (gathered own child.1) (gathered_all own children)
              ∙ ap (λ first. first ++ keeping (test []) (gathered_all own children))
              (keeping-begun own (test []) false child.0 child.1 begun.0
              (λ w. sorts.past child.0 w ∙ none))
              ∙ none-below children begun.1

-- ---- what is reached of a node at which the way ends
nothing-before : (w : List ℕ) → is_lt (byte_order w []) ≡ false
nothing-before [] = refl
nothing-before (b ∷ w) = refl

not-before : (w : List ℕ) → stands_before [] w ≡ false
not-before w = ap (λ t. t && not (begins w [])) (nothing-before w)

module _ {V : Type 0} (s : Shape V) (rest : List ℕ) where
  kept-gathered : (part : Front) → keeping (keeps part rest) (pairs_of s)
      ≡ keeping (keeps part rest) (gathered own_pair s)
  kept-gathered part = ap (keeping (keeps part rest)) (pairs-gathered s)

  module _ (front : IsFront rest (prefix_of s)) (tree : IsTree s) where
    ended : (more : List ℕ) → front.more ≡ more → (length rest == length (prefix_of s)) ≡ true
        → more ≡ []
    ended [] is same = refl
    ended (b ∷ more) is same =
        let long = ap length (front.is ∙ ap (λ z. rest ++ z) is) ∙ length-append rest (b ∷ more) in
        let equal = eqb-true (length rest) (length (prefix_of s)) same in
        absurd (omega (arith, long, equal))

    beyond : (more : List ℕ) → front.more ≡ more → (length rest == length (prefix_of s)) ≡ false
        → (key : List ℕ) → keeps UpTo [] (more ++ key) ≡ false
    beyond [] none differs key =
        absurd (eqb-false (length rest) (length (prefix_of s)) differs
        (sym (ap length (front.is ∙ ap (λ z. rest ++ z) none ∙ append-nil rest))))
    beyond (b ∷ more) some differs key = refl

    pub end-pairs : (part : Front) → keeping (keeps part rest) (pairs_of s)
        ≡ reached_pairs (at_end_of part (length rest == length (prefix_of s))) s
    end-pairs Under =
        kept-gathered Under
        ∙ parted-inside own_pair own_pair-ends (keeps Under) false false true (keeps-sorts Under) s
        rest front true (λ key. refl)
        ∙ sym (pairs-gathered s)
    end-pairs Before =
        kept-gathered Before
        ∙ parted-inside own_pair own_pair-ends (keeps Before) true true false (keeps-sorts Before) s
        rest front false (λ key. nothing-before (front.more ++ key))
    end-pairs UpTo =
        elim (length rest == length (prefix_of s))
        as (λ t. (length rest == length (prefix_of s)) ≡ t
        → keeping (keeps UpTo rest) (pairs_of s) ≡ reached_pairs (at_end_of UpTo t) s) [
          | true ↦ λ same.
              kept-gathered UpTo
              ∙ parted-own own_pair own_pair-ends (keeps UpTo) true true false (keeps-sorts UpTo) s
              rest front tree (ended front.more refl same) refl refl
          | false ↦ λ differs.
              kept-gathered UpTo
              ∙ parted-inside own_pair own_pair-ends (keeps UpTo) true true false (keeps-sorts UpTo)
              s rest front false (beyond front.more refl differs)
        ] refl

    pub end-paths : (part : Front) → filter (reaches part rest) (paths_of s)
        ≡ reached_paths (at_end_of part (length rest == length (prefix_of s))) s
    end-paths Under =
        paths-kept begins_rest s
        ∙ ap keys_of (parted-inside own_place own_place-ends (reaches Under) false false true
        (reaches-sorts Under) s rest front true (λ key. refl))
        ∙ sym (paths-are s)
      where
        begins_rest : List ℕ → Bool
        begins_rest path = begins rest path
    end-paths Before =
        paths-kept (stands_before rest) s
        ∙ ap keys_of (parted-inside own_place own_place-ends (reaches Before) false true false
        (reaches-sorts Before) s rest front false (λ key. not-before (front.more ++ key)))
    end-paths UpTo =
        paths-kept (stands_before rest) s
        ∙ ap keys_of (parted-inside own_place own_place-ends (reaches UpTo) false true false
        (reaches-sorts UpTo) s rest front false (λ key. not-before (front.more ++ key)))
        ∙ elim (length rest == length (prefix_of s))
        as (λ t. reached_paths (at_end_of UpTo false) s ≡ reached_paths (at_end_of UpTo t) s) [
          | true ↦ refl
          | false ↦ refl
        ]

  module _ (part : Front) (b c : ℕ) (parts : PartsAt (prefix_of s) rest b c) where
    pub parts-all : has_lower part ≡ true → b < c
        → (keeping (keeps part rest) (pairs_of s) ≡ pairs_of s)
        × (filter (reaches part rest) (paths_of s) ≡ paths_of s)
    parts-all has less = (
      kept-gathered part
          ∙ parted-before own_pair own_pair-ends (keeps part) (has_lower part) (has_lower part)
          (is_under part) (keeps-sorts part) s rest b c parts less
          ∙ ap (λ t. cond t (gathered own_pair s) []) has ∙ sym (pairs-gathered s),
      paths-kept (reaches part rest) s
          ∙ ap keys_of (parted-before own_place own_place-ends (reaches part) false (has_lower part)
          (is_under part) (reaches-sorts part) s rest b c parts less
          ∙ ap (λ t. cond t (gathered own_place s) []) has)
          ∙ sym (paths-are s),
    )

    parts-off : has_lower part ≡ false → b < c
        → (keeping (keeps part rest) (pairs_of s) ≡ [])
        × (filter (reaches part rest) (paths_of s) ≡ [])
    parts-off has less = (
      kept-gathered part
          ∙ parted-before own_pair own_pair-ends (keeps part) (has_lower part) (has_lower part)
          (is_under part) (keeps-sorts part) s rest b c parts less
          ∙ ap (λ t. cond t (gathered own_pair s) []) has,
      paths-kept (reaches part rest) s
          ∙ ap keys_of (parted-before own_place own_place-ends (reaches part) false (has_lower part)
          (is_under part) (reaches-sorts part) s rest b c parts less
          ∙ ap (λ t. cond t (gathered own_place s) []) has),
    )

    pub parts-none : c ≤ b → (keeping (keeps part rest) (pairs_of s) ≡ [])
        × (filter (reaches part rest) (paths_of s) ≡ [])
    parts-none most = (
      kept-gathered part
          ∙ parted-behind own_pair own_pair-ends (keeps part) (has_lower part) (has_lower part)
          (is_under part) (keeps-sorts part) s rest b c parts most,
      paths-kept (reaches part rest) s
          ∙ ap keys_of (parted-behind own_place own_place-ends (reaches part) false (has_lower part)
          (is_under part) (reaches-sorts part) s rest b c parts most),
    )

    -- a part that ends with the string has nothing here
    pub parts-lacks : has_lower part ≡ false
        → (keeping (keeps part rest) (pairs_of s) ≡ [])
        × (filter (reaches part rest) (paths_of s) ≡ [])
    parts-lacks has =
        elim (cases_order b c) [
          | inl same ↦ parts-none (omega (arith, same))
          | inr (inl less) ↦ parts-off has less
          | inr (inr more) ↦ parts-none (omega (arith, more))
        ]

-- ---- below no byte there is no child
pub below-zero : {C : Type 0} (children : List (ℕ × C)) → children_below 0 children ≡ []
below-zero [] = refl
below-zero (child ∷ children) =
    below-passed 0 child children (omega arith) ∙ below-zero children

-- What is picked from two trees, node by node.
use Rattle.std.proofs.Common.{◌≡◌, ◌⊎◌, ⊎_elim, ℕ, Bool, true, false, not, ◌&&◌, cond, List, [], ◌∷◌, ◌++◌, Option, Some, None, IsSome, is_some, length, refl, sym, ap, subst, ◌∙◌}
use Rattle.std.specs.Prelude.{◌==◌}
use Rattle.std.specs.Option.{option_and_then}
use Rattle.std.proofs.lemmas.Bool.{eqb-true, false≢true}
use Rattle.rart_below.specs.ByteSets.{has_byte}
use Rattle.rart_below.specs.Bytes.{IsAdmitted}
use Rattle.rart_below.specs.Children.{child_at, with_child, without_child}
use Rattle.rart_below.specs.declared.byte_set.ByteSet.{ByteSet}
use Rattle.rart_node.specs.Shape.{Shape, Forest, node, prefix_of, value_of, children_of, entries_of, with_deleted, with_replaced, entries_of-forest_of}
use Rattle.rart_node.specs.Trees.{strip_prefix, BeginsWith, found, found_below, IsTree, IsOrdered}
use Rattle.rart_node.proofs.FindLemmas.{found-below, branch}
use Rattle.rart_node.proofs.InsertionLemmas.{inside, ascending-with, branches-with}
use Rattle.rart_node.proofs.PrefixRestLemmas.{strip_prefix-is}
use Rattle.rart_ways.specs.Removals.{AreAdmitted}
use Rattle.rart_ways.proofs.GraftLemmas.{child_at-with, deleted-ordered}
use Rattle.rart_ways.proofs.RemovalLemmas.{child_at-without}
use Rattle.rart_lockstep.specs.TreeCursors.{next_children}
use Rattle.rart_algebra.specs.declared.made.Made.{Made}
use Rattle.rart_algebra.specs.declared.made.Made.TheVariants.{Same, Nothing, Node}
use Rattle.rart_algebra.specs.Parts.{with_made, shape_made, losing, IsSettled}
use Rattle.rart_algebra.specs.Picks.{Pick, Becomes, IsPickedOr}
use Rattle.rart_algebra.proofs.ReachLemmas.{look, found-next}

module _ {V : Type 0} (pick : Pick V) where
  -- Of the node s this is what is left now, with this for its value, as far as bytes were passed:
  -- what is picked from each child and from where the byte leads in t.
  pub record IsPickedUpTo (s t : Shape V) (own : Option V) (ahead : ByteSet) (now : Shape V)
      : Type 0 where
    pub order : IsOrdered now
    pub prefix : prefix_of now ≡ prefix_of s
    pub value : value_of now ≡ own
    pub kept : (byte : ℕ) → has_byte ahead byte ≡ true
        → child_at byte (children_of now) ≡ child_at byte (children_of s)
    pub passed : (byte : ℕ) → has_byte ahead byte ≡ false → (q : List ℕ)
        → look (byte ∷ q) (child_at byte (children_of now))
        ≡ pick (look (byte ∷ q) (child_at byte (children_of s))) (found t (byte ∷ q))

  -- ---- a node, from its value and its children
  inside-picked : (value value' : Option V) (forest forest' : Forest V) (t : Shape V)
      → value' ≡ pick value (found t [])
      → ((byte : ℕ) (q : List ℕ) → found_below forest' (byte ∷ q)
      ≡ pick (found_below forest (byte ∷ q)) (found t (byte ∷ q)))
      → (q : List ℕ) → inside value' forest' q ≡ pick (inside value forest q) (found t q)
  inside-picked value value' forest forest' t own below [] = own
  inside-picked value value' forest forest' t own below (byte ∷ q) = below byte q

  -- With what is picked of its value and below each byte, a node has what is picked, where nothing
  -- is picked that doesn't begin with its prefix.
  pub node-picked : (prefix : List ℕ) (value value' : Option V) (width width' : ℕ)
      (forest forest' : Forest V) (right t : Shape V)
      → ((q : List ℕ) → found right (prefix ++ q) ≡ found t q)
      → value' ≡ pick value (found t [])
      → ((byte : ℕ) (q : List ℕ) → found_below forest' (byte ∷ q)
      ≡ pick (found_below forest (byte ∷ q)) (found t (byte ∷ q)))
      → ((q : List ℕ) → strip_prefix prefix q ≡ None → pick None (found right q) ≡ None)
      → (q : List ℕ) → found (node prefix value' width' forest') q
      ≡ pick (found (node prefix value width forest) q) (found right q)
  node-picked prefix value value' width width' forest forest' right t leads own below outside q =
      elim (strip_prefix prefix q) as (λ o. strip_prefix prefix q ≡ o
      → option_and_then (inside value' forest') o
      ≡ pick (option_and_then (inside value forest) o) (found right q)) [
        | None ↦ λ is. sym (outside q is)
        | Some rest ↦ λ is.
            inside-picked value value' forest forest' t own below rest
            ∙ ap (pick (inside value forest rest))
            (sym (leads rest) ∙ ap (found right) (sym (strip_prefix-is prefix q rest is)))
      ] refl

  -- ---- the children, one after the other
  module _ (s t : Shape V) (own : Option V) where
    module _ (ahead after : ByteSet) (byte : ℕ)
        (taken : (other : ℕ)
        → has_byte after other ≡ (not (other == byte) && has_byte ahead other))
        (now : Shape V) (so_far : IsPickedUpTo s t own ahead now) where
      -- One more byte was passed, and this stands under it then.
      picked-next : (now' : Shape V) (new : Option (Shape V)) → IsOrdered now'
          → prefix_of now' ≡ prefix_of now → value_of now' ≡ value_of now
          → ((c : ℕ) → child_at c (children_of now')
          ≡ cond (c == byte) new (child_at c (children_of now)))
          → ((q : List ℕ) → look (byte ∷ q) new
          ≡ pick (look (byte ∷ q) (child_at byte (children_of s))) (found t (byte ∷ q)))
          → IsPickedUpTo s t own after now'
      picked-next now' new order prefix value at here = record {
        order = order;
        prefix = prefix ∙ so_far.prefix;
        value = value ∙ so_far.value;
        kept = λ c has.
            let P : Bool → Type 0 = λ b. (not b && has_byte ahead c) ≡ true
            → cond b new (child_at c (children_of now)) ≡ child_at c (children_of s) in
            let both : (b : Bool) → P b = elim [
              | true ↦ (λ never. absurd (false≢true never))
              | false ↦ (λ still. so_far.kept c still)
            ] in
            at c ∙ both (c == byte) (sym (taken c) ∙ has);
        passed = λ c gone q.
            let P : Bool → Type 0 = λ b. (c == byte) ≡ b → (not b && has_byte ahead c) ≡ false
            → look (c ∷ q) (cond b new (child_at c (children_of now)))
            ≡ pick (look (c ∷ q) (child_at c (children_of s))) (found t (c ∷ q)) in
            let both : (b : Bool) → P b = elim [
              | true ↦ (λ same _. subst (λ z. look (z ∷ q) new
                  ≡ pick (look (z ∷ q) (child_at z (children_of s))) (found t (z ∷ q)))
                  (sym (eqb-true c byte same)) (here q))
              | false ↦ (λ _ before. so_far.passed c before q)
            ] in
            ap (look (c ∷ q)) (at c) ∙ both (c == byte) refl (sym (taken c) ∙ gone);
      }

      -- the child itself, where it stays
      at-same : (c : ℕ) → child_at c (children_of now)
          ≡ cond (c == byte) (child_at byte (children_of now)) (child_at c (children_of now))
      at-same c =
          let P : Bool → Type 0 = λ b. (c == byte) ≡ b → child_at c (children_of now)
          ≡ cond b (child_at byte (children_of now)) (child_at c (children_of now)) in
          let both : (b : Bool) → P b = elim [
            | true ↦ (λ same. ap (λ z. child_at z (children_of now)) (eqb-true c byte same))
            | false ↦ (λ differs. refl)
          ] in
          both (c == byte) refl

      module _ (has : has_byte ahead byte ≡ true) where
        -- Nothing changes where what is picked is the child.
        pub picked-kept : ((q : List ℕ) → look (byte ∷ q) (child_at byte (children_of s))
            ≡ pick (look (byte ∷ q) (child_at byte (children_of s))) (found t (byte ∷ q)))
            → IsPickedUpTo s t own after now
        picked-kept here =
            picked-next now (child_at byte (children_of now)) so_far.order refl refl at-same
            (λ q. ap (look (byte ∷ q)) (so_far.kept byte has) ∙ here q)

        -- This has become of the child.
        module _ (child other : Shape V) (here : child_at byte (children_of s) ≡ Some child)
            (there : child_at byte (next_children t) ≡ Some other) (order : IsOrdered s)
            (first : BeginsWith byte (prefix_of other)) where
          picked-of : (q : List ℕ) → pick (found child (byte ∷ q)) (found other (byte ∷ q))
              ≡ pick (look (byte ∷ q) (child_at byte (children_of s))) (found t (byte ∷ q))
          picked-of q = λ i. pick (ap (look (byte ∷ q)) (sym here) i)
              ((ap (look (byte ∷ q)) (sym there) ∙ sym (found-next t byte q)) i)

          pub picked-made : {P : Type 0} (made : Made P V) → Becomes pick child other made
              → IsPickedUpTo s t own after (with_made byte made now)
          picked-made Same same =
              picked-kept (λ q. ap (look (byte ∷ q)) here ∙ sym (same (byte ∷ q)) ∙ picked-of q)
          picked-made Nothing gone =
              picked-next (with_deleted byte now) None (deleted-ordered now byte so_far.order)
              (prefix-deleted now) (value-deleted now) (at-deleted now)
              (λ q. sym (gone (byte ∷ q)) ∙ picked-of q)
            where
              prefix-deleted : (now : Shape V) → prefix_of (with_deleted byte now) ≡ prefix_of now
              prefix-deleted (node prefix value width forest) = refl

              value-deleted : (now : Shape V) → value_of (with_deleted byte now) ≡ value_of now
              value-deleted (node prefix value width forest) = refl

              at-deleted : (now : Shape V) (c : ℕ)
                  → child_at c (children_of (with_deleted byte now))
                  ≡ cond (c == byte) None (child_at c (children_of now))
              at-deleted (node prefix value width forest) c =
                  ap (child_at c) (entries_of-forest_of (without_child byte (entries_of forest)))
                  ∙ child_at-without (entries_of forest) byte c
          picked-made (Node new) picked =
              picked-next (with_replaced byte new.shape now) (Some new.shape)
              (ordered-replaced now so_far.order)
              (prefix-replaced now) (value-replaced now) (at-replaced now)
              (λ q. picked.finds (byte ∷ q) ∙ picked-of q)
            where
              begins : BeginsWith byte (prefix_of new.shape)
              begins = picked.first byte (branch s byte child order here).begins first

              prefix-replaced : (now : Shape V)
                  → prefix_of (with_replaced byte new.shape now) ≡ prefix_of now
              prefix-replaced (node prefix value width forest) = refl

              value-replaced : (now : Shape V)
                  → value_of (with_replaced byte new.shape now) ≡ value_of now
              value-replaced (node prefix value width forest) = refl

              ordered-replaced : (now : Shape V) → IsOrdered now
                  → IsOrdered (with_replaced byte new.shape now)
              ordered-replaced (node prefix value width forest) order = (
                ascending-with forest byte new.shape order.0,
                branches-with forest byte new.shape order.1 picked.tree begins,
              )

              at-replaced : (now : Shape V) (c : ℕ)
                  → child_at c (children_of (with_replaced byte new.shape now))
                  ≡ cond (c == byte) (Some new.shape) (child_at c (children_of now))
              at-replaced (node prefix value width forest) c =
                  ap (child_at c)
                  (entries_of-forest_of (with_child byte new.shape (entries_of forest)))
                  ∙ child_at-with (entries_of forest) byte c new.shape

  -- ---- all bytes were passed
  losing-is : (goes : Bool) (prefix : List ℕ) (value : Option V) (width : ℕ) (forest : Forest V)
      → losing goes (node prefix value width forest)
      ≡ node prefix (cond goes None value) width forest
  losing-is true prefix value width forest = refl
  losing-is false prefix value width forest = refl

  module _ (s t right now : Shape V) (own : Option V) (ahead : ByteSet) (goes : Bool)
      (so_far : IsPickedUpTo s t own ahead now)
      (all : (byte : ℕ) → has_byte ahead byte ≡ false)
      (leads : (q : List ℕ) → found right (prefix_of s ++ q) ≡ found t q)
      (value : cond goes None own ≡ pick (value_of s) (found t []))
      (outside : (q : List ℕ) → strip_prefix (prefix_of s) q ≡ None
      → pick None (found right q) ≡ None) where
    pub picked-all : (q : List ℕ)
        → found (losing goes now) q ≡ pick (found s q) (found right q)
    picked-all = picked-at s now so_far leads value outside
      where
        picked-at : (s now : Shape V) → IsPickedUpTo s t own ahead now
            → ((q : List ℕ) → found right (prefix_of s ++ q) ≡ found t q)
            → cond goes None own ≡ pick (value_of s) (found t [])
            → ((q : List ℕ) → strip_prefix (prefix_of s) q ≡ None
            → pick None (found right q) ≡ None)
            → (q : List ℕ) → found (losing goes now) q ≡ pick (found s q) (found right q)
        picked-at (node prefix value width forest) (node prefix' value' width' forest') so_far
            leads is outside q =
            ap (λ z. found z q) (losing-is goes prefix' value' width' forest')
            ∙ (λ i. found
            (node (so_far.prefix i) (cond goes None (so_far.value i)) width' forest') q)
            ∙ node-picked prefix value (cond goes None own) width width' forest forest' right t
            leads is
            (λ byte q. found-below forest' byte q ∙ so_far.passed byte (all byte) q
            ∙ ap (λ x. pick x (found t (byte ∷ q))) (sym (found-below forest byte q))) outside q

    pub prefix-losing : prefix_of (losing goes now) ≡ prefix_of s
    prefix-losing = same goes now ∙ so_far.prefix
      where
        same : (goes : Bool) (now : Shape V) → prefix_of (losing goes now) ≡ prefix_of now
        same true (node prefix value width forest) = refl
        same false (node prefix value width forest) = refl

    pub ordered-losing : IsOrdered (losing goes now)
    ordered-losing = still goes now so_far.order
      where
        still : (goes : Bool) (now : Shape V) → IsOrdered now → IsOrdered (losing goes now)
        still true (node prefix value width forest) order = order
        still false (node prefix value width forest) order = order

    -- As long as what may be picked are all keys.
    pub admitted-losing : (most : Option ℕ)
        → ((q : List ℕ) → IsSome (pick (found s q) (found right q)) → IsAdmitted most (length q))
        → AreAdmitted most (losing goes now)
    admitted-losing most admitted q there = admitted q (subst IsSome (picked-all q) there)

    -- Where the node has all that the left tree has, that is what becomes of this.
    pub becomes-settled : {P : Type 0} (left : Shape V) → ((q : List ℕ) → found s q ≡ found left q)
        → ((byte : ℕ) → BeginsWith byte (prefix_of left) → BeginsWith byte (prefix_of right)
        → BeginsWith byte (prefix_of s))
        → (made : Made P V) → IsSettled left (losing goes now) made → Becomes pick left right made
    becomes-settled left same first Same settled =
        λ q. ap (λ x. pick x (found right q)) (sym (same q)) ∙ sym (picked-all q)
        ∙ ap (λ z. found z q) settled
    becomes-settled left same first Nothing settled =
        λ q. ap (λ x. pick x (found right q)) (sym (same q)) ∙ sym (picked-all q) ∙ settled q
    becomes-settled left same first (Node after) settled = record {
      tree = settled.tree;
      finds = λ q. settled.finds q ∙ picked-all q ∙ ap (λ x. pick x (found right q)) (same q);
      first = λ byte begins also.
          settled.first byte
          (subst (BeginsWith byte) (sym prefix-losing) (first byte begins also));
    }

  -- ---- at the root
  pub picked-root : {P : Type 0} (left right : Shape V) (made : Made P V) → IsTree left
      → Becomes pick left right made → IsPickedOr pick left right (shape_made left made)
  picked-root left right Same tree same = record {
    tree = tree;
    finds = λ q. sym (same q);
    first = λ byte begins also. begins;
  }
  picked-root left right Nothing tree gone = gone
  picked-root left right (Node after) tree picked = picked

-- ---- where nothing is picked but from the left tree
module _ {V : Type 0} (pick : Pick V) (none : (other : Option V) → pick None other ≡ None) where
  -- Where the right tree has no key behind the left prefix, what is picked has no other.
  pub picked-apart : (s right : Shape V)
      → ((q : List ℕ) → found right (prefix_of s ++ q) ≡ None) → (q : List ℕ)
      → pick (found s q) (found right q) ≡ pick (found s q) None
  picked-apart (node prefix value width forest) right apart q =
      elim (strip_prefix prefix q) as (λ o. strip_prefix prefix q ≡ o
      → pick (option_and_then (inside value forest) o) (found right q)
      ≡ pick (option_and_then (inside value forest) o) None) [
        | None ↦ λ _. none (found right q) ∙ sym (none None)
        | Some rest ↦ λ is. ap (pick (inside value forest rest))
            (ap (found right) (strip_prefix-is prefix q rest is) ∙ apart rest)
      ] refl

  pub picked-was : (one other : Option V) → IsSome (pick one other) → IsSome one
  picked-was None other some = absurd (false≢true (sym (ap is_some (none other)) ∙ some))
  picked-was (Some x) other some = refl

  module _ (s t : Shape V) where
    -- Where one of the two has nothing, what is picked is what is left of the node.
    pub picked-start : (now : Shape V) (ahead : ByteSet) → IsOrdered now
        → prefix_of now ≡ prefix_of s → value_of now ≡ value_of s
        → ((byte : ℕ) → has_byte ahead byte ≡ true
        → child_at byte (children_of now) ≡ child_at byte (children_of s))
        → ((byte : ℕ) → has_byte ahead byte ≡ false → (q : List ℕ)
        → look (byte ∷ q) (child_at byte (children_of now))
        ≡ pick (look (byte ∷ q) (child_at byte (children_of s))) None)
        → ((byte : ℕ) → has_byte ahead byte ≡ false
        → (child_at byte (children_of s) ≡ None) ⊎ (child_at byte (next_children t) ≡ None))
        → IsPickedUpTo pick s t (value_of s) ahead now
    picked-start now ahead order prefix value kept alone apart = record {
      order = order;
      prefix = prefix;
      value = value;
      kept = kept;
      passed = λ byte gone q.
          let there = look (byte ∷ q) (child_at byte (children_of s)) in
          let other = found t (byte ∷ q) in
          alone byte gone q
          ∙ ⊎_elim
          (λ left.
          let is : there ≡ None = ap (look (byte ∷ q)) left in
          ap (λ x. pick x None) is ∙ none None ∙ sym (none other) ∙ ap (λ x. pick x other) (sym is))
          (λ right.
          let is : other ≡ None = found-next t byte q ∙ ap (look (byte ∷ q)) right in
          ap (pick there) (sym is))
          (apart byte gone);
    }

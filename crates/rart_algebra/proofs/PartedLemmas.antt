-- Where two trees stand behind what both prefixes begin with: the left node as it is there, cut
-- inside its prefix where that goes on, and the right one without these bytes.
use Rattle.std.proofs.Common.{◌≡◌, ◌<◌, ◌≤◌, ◌+◌, ◌⊎◌, inl, inr, ⊎_elim, ℕ, Bool, true, false, cond, List, [], ◌∷◌, ◌++◌, Option, Some, None, IsSome, is_some, length, zero, suc, take, drop, refl, sym, ap, subst, ◌∙◌, arith}
use Rattle.std.specs.Prelude.{◌==◌, ◌≢◌, slice_index_or}
use Rattle.std.specs.Option.{option_and_then}
use Rattle.std.specs.Cmp.{unsigned_tied}
use Rattle.std.proofs.lemmas.Bool.{cases_lt, eqb-true, eqb-false, eq-eqb, false≢true, ne_eqb}
use Rattle.std.proofs.lemmas.Option.{none-some, same_Some}
use Rattle.rart_below.specs.Bytes.{common_length}
use Rattle.rart_below.specs.Children.{child_at}
use Rattle.rart_below.proofs.AscendingLemmas.{ascending_parts, below_parts, child_at-here, child_at-later}
use Rattle.rart_lockstep.specs.Steps.{common_start}
use Rattle.rart_lockstep.specs.TreeCursors.{behind_bytes, next_children, value_here}
use Rattle.rart_lockstep.proofs.PairStepLemmas.{prefix-with, tree-with, height-with}
use Rattle.rart_node.specs.Counts.{Counts}
use Rattle.rart_node.specs.Shape.{Shape, node, bare, grown, prefix_of, value_of, children_of, entries_of, height, with_prefix}
use Rattle.rart_node.specs.Trees.{strip_prefix, BeginsWith, cut_at, found, IsTree, IsOrdered}
use Rattle.rart_node.proofs.FindLemmas.{branch, ordered}
use Rattle.rart_node.proofs.PrefixRestLemmas.{behind-append, begins-common, begins-drop, common-within, split-common}
use Rattle.rart_ways.proofs.CutNodeLemmas.{cut-found, cut-ordered}
use Rattle.rart_algebra.specs.Ahead.{IsChange, IsGone, IsPlace}
use Rattle.rart_algebra.specs.Gains.{HasMore}
use Rattle.rart_algebra.specs.Parts.{parted}
use Rattle.rart_algebra.proofs.CarriedLemmas.{changed-along, gone-along, next-begins, place-along}
use Rattle.rart_algebra.proofs.ReachLemmas.{look, child-first, found-next, found-with, key-begun, passed-none, place-further}

-- ---- where a tree goes on
module _ {C : Type 0} where
  -- There are children under two bytes.
  pub record TwoArms (children : List (ℕ × C)) : Type 0 where
    pub byte : ℕ
    pub next : ℕ
    pub differ : byte ≢ next
    pub has_one : IsSome (child_at byte children)
    pub has_other : IsSome (child_at next children)

  pub two-many : (children : List (ℕ × C)) → TwoArms children → 1 < length children
  two-many [] arms = absurd (false≢true arms.has_one)
  two-many (x ∷ []) arms =
      absurd (arms.differ (only arms.byte arms.has_one ∙ sym (only arms.next arms.has_other)))
    where
      only : (byte : ℕ) → IsSome (child_at byte (x ∷ [])) → byte ≡ x.0
      only byte some =
          let P : Bool → Type 0 = λ t. (byte == x.0) ≡ t → IsSome (cond t (Some x.1) None)
          → byte ≡ x.0 in
          let both : (t : Bool) → P t = elim [
            | true ↦ (λ same _. eqb-true byte x.0 same)
            | false ↦ (λ differs none. absurd (false≢true none))
          ] in
          both (byte == x.0) refl (rw (unsigned_tied byte x.0) at some)
  two-many (x ∷ y ∷ children) arms = omega arith

module _ {V : Type 0} where
  -- A tree has a value at its prefix's end, or goes on there in two ways.
  pub value-or-arms : (s : Shape V) → IsTree s → IsSome (value_of s) ⊎ TwoArms (children_of s)
  value-or-arms (node prefix (Some value) width forest) tree = inl refl
  value-or-arms (node prefix None width bare) tree = absurd (false≢true tree.2)
  value-or-arms (node prefix None width (grown b c bare)) tree = absurd (false≢true tree.2)
  value-or-arms (node prefix None width (grown b c (grown d e forest))) tree =
      let others : List (ℕ × Shape V) = (d, e) ∷ entries_of forest in
      let less = (below_parts b (d, e) (entries_of forest)
      (ascending_parts (b, c) others tree.0).0).0 in
      inr (record {
        byte = b;
        next = d;
        differ = λ is. omega (arith, less, is);
        has_one = ap is_some (child_at-here b b c others refl);
        has_other = ap is_some (child_at-later d b c others less
            ∙ child_at-here d d e (entries_of forest) refl);
      })

  -- It has a value where it stands, or goes on with another byte than this, where its prefix
  -- doesn't begin with this.
  pub record GoesOn (t : Shape V) (byte : ℕ) : Type 0 where
    pub next : ℕ
    pub differ : (next == byte) ≡ false
    pub other : Shape V
    pub there : child_at next (next_children t) ≡ Some other

  pub value-or-goes : (t : Shape V) (byte : ℕ) → IsTree t
      → (BeginsWith byte (prefix_of t) → ⊥) → IsSome (value_here t) ⊎ GoesOn t byte
  value-or-goes (node (c ∷ prefix) value width forest) byte tree apart = inr (record {
    next = c;
    differ = ne_eqb c byte apart;
    other = node (c ∷ prefix) value width forest;
    there = child_at-here c c (node (c ∷ prefix) value width forest) [] refl;
  })
  value-or-goes (node [] value width forest) byte tree apart =
      ⊎_elim (λ some. inl some) (λ arms. inr (other arms))
      (value-or-arms (node [] value width forest) tree)
    where
      here : (next : ℕ) → (next == byte) ≡ false → (o : Option (Shape V))
          → child_at next (entries_of forest) ≡ o → IsSome o
          → GoesOn (node [] value width forest) byte
      here next differs None is none = absurd (false≢true none)
      here next differs (Some other) is some =
          record { next = next; differ = differs; other = other; there = is }

      other : TwoArms (entries_of forest) → GoesOn (node [] value width forest) byte
      other arms =
          let P : Bool → Type 0 = λ t. (arms.byte == byte) ≡ t
          → GoesOn (node [] value width forest) byte in
          let both : (t : Bool) → P t = elim [
            | true ↦ (λ same. here arms.next
                (ne_eqb arms.next byte (λ is. arms.differ (eqb-true arms.byte byte same ∙ sym is)))
                (child_at arms.next (entries_of forest)) refl arms.has_other)
            | false ↦ (λ differs. here arms.byte differs
                (child_at arms.byte (entries_of forest)) refl arms.has_one)
          ] in
          both (arms.byte == byte) refl

  -- A tree has a key in each way in which it goes on.
  pub key-there : (t other : Shape V) (byte : ℕ) → IsTree t
      → child_at byte (next_children t) ≡ Some other
      → (q : List ℕ) × IsSome (found t (byte ∷ q))
  key-there t other byte tree there =
      let known = next-begins t other byte tree there in
      let key = key-begun other known.0 in
      let first = child-first other byte (prefix_of other ++ key.0) known.1 key.1 in (
        first.0,
        subst IsSome (sym (found-next t byte first.0 ∙ ap (look (byte ∷ first.0)) there))
            (subst (λ z. IsSome (found other z)) first.1 key.1),
      )

-- ---- the left node as it stands there
drop-none : (n : ℕ) (p : List ℕ) → n ≡ length p → drop n p ≡ []
drop-none zero [] is = refl
drop-none (suc n) [] is = refl
drop-none zero (b ∷ p) is = absurd (omega (arith, is))
drop-none (suc n) (b ∷ p) is = drop-none n p (omega (arith, is))

take-whole : (n : ℕ) (p : List ℕ) → n ≡ length p → take n p ≡ p
take-whole zero [] is = refl
take-whole (suc n) [] is = refl
take-whole zero (b ∷ p) is = absurd (omega (arith, is))
take-whole (suc n) (b ∷ p) is = ap (λ z. b ∷ z) (take-whole n p (omega (arith, is)))

module _ {V : Type 0} where
  -- What holds of a node that is cut, and of one that is not, holds of one that is parted.
  pub parted-by : (P : Shape V → Type 0) (n : ℕ) (s : Shape V) → n ≤ length (prefix_of s)
      → (n ≡ length (prefix_of s) → P s) → (n < length (prefix_of s) → P (cut_at n s))
      → P (parted n s)
  parted-by P n s within whole inside =
      let Q : Bool → Type 0 = λ t. (n == length (prefix_of s)) ≡ t → P (cond t s (cut_at n s)) in
      let both : (t : Bool) → Q t = elim [
        | true ↦ (λ same. whole (eqb-true n (length (prefix_of s)) same))
        | false ↦ (λ differs. inside (below n (length (prefix_of s)) within
            (eqb-false n (length (prefix_of s)) differs)))
      ] in
      both (n == length (prefix_of s)) refl
    where
      below : (a b : ℕ) → a ≤ b → a ≢ b → a < b
      below a b le differ = omega (arith, le, differ)

  -- The same where it is known which of the two it is.
  pub parted-whole : (n : ℕ) (s : Shape V) → n ≡ length (prefix_of s) → parted n s ≡ s
  parted-whole n s is = ap (λ t. cond t s (cut_at n s)) (eq-eqb n (length (prefix_of s)) is)

  module _ (left right : Shape V) where
    -- how many bytes both prefixes begin with, and the two trees there
    abbrev pub passed : ℕ
    passed = common_length (prefix_of left) (prefix_of right)

    abbrev pub left_there : Shape V
    left_there = parted passed left

    abbrev pub right_there : Shape V
    right_there = behind_bytes passed right

    -- the byte with which the left prefix goes on
    abbrev pub left_byte : ℕ
    left_byte = slice_index_or (prefix_of left) passed 0

  module _ (left right : Shape V) (tree : IsTree left) (also : IsTree right) where
    abbrev n : ℕ
    n = passed left right

    abbrev s : Shape V
    s = left_there left right

    abbrev t : Shape V
    t = right_there left right

    within : n ≤ length (prefix_of left)
    within = (common-within (prefix_of left) (prefix_of right)).0

    -- The left prefix ends there, or goes on.
    pub whole-or-inside : (n ≡ length (prefix_of left)) ⊎ (n < length (prefix_of left))
    whole-or-inside = elim (cases_lt n (length (prefix_of left))) [
      | inl less ↦ inr less
      | inr more ↦ inl (omega (arith, within, more))
    ]

    pub right-tree : IsTree t
    right-tree = tree-with right (drop n (prefix_of right)) also

    pub parted-found : (q : List ℕ) → found s q ≡ found left q
    parted-found q = parted-by (λ z. found z q ≡ found left q) n left within (λ whole. refl)
        (λ inside. cut-found left n q inside)

    pub parted-ordered : IsOrdered s
    parted-ordered = parted-by IsOrdered n left within (λ whole. ordered left tree)
        (λ inside. cut-ordered left n tree inside)

    pub parted-prefix : prefix_of s ≡ common_start (prefix_of left) (prefix_of right)
    parted-prefix = parted-by (λ z. prefix_of z ≡ take n (prefix_of left)) n left within
        (λ whole. sym (take-whole n (prefix_of left) whole)) (λ inside. cut-prefix left n)
      where
        cut-prefix : (s : Shape V) (n : ℕ) → prefix_of (cut_at n s) ≡ take n (prefix_of s)
        cut-prefix (node prefix value width forest) n = refl

    right-split : prefix_of right ≡ prefix_of s ++ drop n (prefix_of right)
    right-split = split-common (prefix_of left) (prefix_of right)
        ∙ ap (λ z. z ++ drop n (prefix_of right)) (sym parted-prefix)

    pub parted-leads : (q : List ℕ) → found right (prefix_of s ++ q) ≡ found t q
    parted-leads q = found-with right (prefix_of s) (drop n (prefix_of right)) q right-split

    -- No key of the right tree begins otherwise.
    pub parted-outside : (q : List ℕ) → strip_prefix (prefix_of s) q ≡ None
        → found right q ≡ None
    parted-outside q none =
        outside right (prefix_of s) (drop n (prefix_of right)) right-split none
      where
        outside : (r : Shape V) (u w : List ℕ) → prefix_of r ≡ u ++ w → strip_prefix u q ≡ None
            → found r q ≡ None
        outside (node prefix value width forest) u w is none =
            (λ i. found (node (is i) value width forest) q)
            ∙ ap (option_and_then (λ rest. found (node [] value width forest) rest))
            (behind-append u w q ∙ ap (option_and_then (strip_prefix w)) none)

    pub parted-first : (byte : ℕ) → BeginsWith byte (prefix_of left)
        → BeginsWith byte (prefix_of right) → BeginsWith byte (prefix_of s)
    parted-first byte begins other =
        subst (BeginsWith byte) (sym parted-prefix)
        (begins-common (prefix_of left) (prefix_of right) byte begins other)

    pub parted-place : IsPlace left right (prefix_of s)
    parted-place =
        subst (IsPlace left right) (sym parted-prefix)
        (place-further left right none left right none (passed-none left right none) tree also)
      where
        none : Counts
        none = record { entered = 0; made = 0 }

    -- What is ahead of the node that is parted is ahead of the left tree.
    pub left-some : (q : List ℕ) → IsSome (found s q) → IsSome (found left q)
    left-some q = subst IsSome (parted-found q)

    pub place-parted : (u : List ℕ) → IsPlace s right u → IsPlace left right u
    place-parted = place-along left right s right [] left-some (λ q some. some)

    pub gone-parted : (stays : Bool) (key : List ℕ) → IsGone stays s right key
        → IsGone stays left right key
    gone-parted = gone-along left right s right [] left-some (λ q some. some)

    pub change-parted : (stays : Bool) (key : List ℕ) → IsChange stays s right key
        → IsChange stays left right key
    change-parted = changed-along left right s right [] left-some (λ q some. some)
        (λ q some. sym (parted-found q))

    -- ---- where the left prefix goes on
    abbrev byte : ℕ
    byte = left_byte left right

    cut-child : (s : Shape V) (n : ℕ)
        → children_of (cut_at n s) ≡ (slice_index_or (prefix_of s) n 0, behind_bytes n s) ∷ []
    cut-child (node prefix value width forest) n = refl

    pub parted-next : children_of s ≡ next_children (behind_bytes n left)
    parted-next = parted-by (λ z. children_of z ≡ next_children (behind_bytes n left)) n left within
        (λ whole. sym (whole-next left n whole)) (λ inside. cut-child left n
        ∙ sym (inside-next left n inside))
      where
        ended : (x : Shape V) (p : List ℕ) → p ≡ []
            → next_children (with_prefix p x) ≡ children_of x
        ended (node prefix value width forest) p is =
            ap (λ z. next_children (node z value width forest)) is

        whole-next : (x : Shape V) (n : ℕ) → n ≡ length (prefix_of x)
            → next_children (behind_bytes n x) ≡ children_of x
        whole-next x n whole = ended x (drop n (prefix_of x)) (drop-none n (prefix_of x) whole)

        goes : (x : Shape V) (p : List ℕ) (first : ℕ) → BeginsWith first p
            → next_children (with_prefix p x) ≡ (first, with_prefix p x) ∷ []
        goes (node prefix value width forest) [] first begins = absurd begins
        goes (node prefix value width forest) (b ∷ p) first begins =
            ap {B = List (ℕ × Shape V)} (λ z. (z, node (b ∷ p) value width forest) ∷ []) begins

        inside-next : (x : Shape V) (n : ℕ) → n < length (prefix_of x)
            → next_children (behind_bytes n x)
            ≡ (slice_index_or (prefix_of x) n 0, behind_bytes n x) ∷ []
        inside-next x n inside = goes x (drop n (prefix_of x)) (slice_index_or (prefix_of x) n 0)
            (begins-drop (prefix_of x) n inside)

    module _ (inside : n < length (prefix_of left)) where
      is-cut : s ≡ cut_at n left
      is-cut = parted-by (λ z. z ≡ cut_at n left) n left within
          (λ whole. absurd (omega (arith, inside, whole))) (λ _. refl)

      -- The right tree goes on there with another byte.
      right-apart : BeginsWith byte (prefix_of t) → ⊥
      right-apart begins =
          parts (prefix_of left) (prefix_of right) inside
          (subst (BeginsWith byte) (prefix-with right (drop n (prefix_of right))) begins)
        where
          parts : (p q : List ℕ) → common_length p q < length p
              → BeginsWith (slice_index_or p (common_length p q) 0) (drop (common_length p q) q) → ⊥
          parts [] q short begins = omega (arith, short)
          parts (b ∷ p) [] short begins = begins
          parts (b ∷ p) (c ∷ q) short begins =
              let P : Bool → Type 0 = λ same. (b == c) ≡ same
              → cond same (suc (common_length p q)) 0 < suc (length p)
              → BeginsWith (slice_index_or (b ∷ p) (cond same (suc (common_length p q)) 0) 0)
              (drop (cond same (suc (common_length p q)) 0) (c ∷ q)) → ⊥ in
              let both : (same : Bool) → P same = elim [
                | true ↦ (λ _ lt begins. parts p q (omega (arith, lt)) begins)
                | false ↦ (λ differs lt is. eqb-false b c differs (sym is))
              ] in
              both (b == c) refl short begins

      pub right-goes : IsSome (value_here t) ⊎ GoesOn t byte
      right-goes = value-or-goes t byte right-tree right-apart

      no-value : (s : Shape V) (n : ℕ) → value_of (cut_at n s) ≡ None
      no-value (node prefix value width forest) n = refl

      pub cut-value : value_of s ≡ None
      cut-value = ap value_of is-cut ∙ no-value left n

      pub cut-here : IsSome (child_at byte (children_of s))
      cut-here = ap (λ z. is_some (child_at byte (children_of z))) is-cut
          ∙ ap (λ z. is_some (child_at byte z)) (cut-child left n)
          ∙ ap is_some (child_at-here byte byte (behind_bytes n left) [] refl)

      cut-none : (x : Shape V) (n : ℕ) (next : ℕ) (q : List ℕ)
          → (next == slice_index_or (prefix_of x) n 0) ≡ false
          → found (with_prefix [] (cut_at n x)) (next ∷ q) ≡ None
      cut-none (node prefix value width forest) n next q differs =
          ap (λ same. cond same (found (node (drop n prefix) value width forest) (next ∷ q)) None)
          differs

      cut-empty : (x : Shape V) (n : ℕ) → found (with_prefix [] (cut_at n x)) [] ≡ None
      cut-empty (node prefix value width forest) n = refl

      -- So it has a key that the left tree lacks.
      pub cut-more : HasMore s t
      cut-more = ⊎_elim
          (λ some. (
            [],
            subst IsSome (sym (found-value t)) some,
            ap (λ z. found (with_prefix [] z) []) is-cut ∙ cut-empty left n,
          ))
          (λ goes. let key = key-there t goes.other goes.next right-tree goes.there in (
            goes.next ∷ key.0,
            key.1,
            ap (λ z. found (with_prefix [] z) (goes.next ∷ key.0)) is-cut
                ∙ cut-none left n goes.next key.0 goes.differ,
          ))
          right-goes
        where
          found-value : (x : Shape V) → found x [] ≡ value_here x
          found-value (node [] value width forest) = refl
          found-value (node (b ∷ prefix) value width forest) = refl

    -- ---- the way goes on where both do
    only-at : (byte b : ℕ) (x next : Shape V) → child_at byte ((b, x) ∷ []) ≡ Some next
        → (byte ≡ b) × (next ≡ x)
    only-at byte b x next here =
        let P : Bool → Type 0 = λ same. (byte == b) ≡ same → cond same (Some x) None ≡ Some next
        → (byte ≡ b) × (next ≡ x) in
        let both : (same : Bool) → P same = elim [
          | true ↦ (λ same is. (eqb-true byte b same, sym (same_Some x next is)))
          | false ↦ (λ differs is. absurd (none-some next is))
        ] in
        both (byte == b) refl (rw (unsigned_tied byte b) at here)

    next-few : (x next : Shape V) (byte : ℕ) → IsTree x
        → child_at byte (next_children x) ≡ Some next → height next ≤ height x
    next-few (node [] value width forest) next byte tree here =
        let lower = (branch (node [] value width forest) byte next (tree.0, tree.1) here).lower in
        omega (arith, lower)
    next-few (node (b ∷ p) value width forest) next byte tree here =
        let same = ap height (only-at byte b (node (b ∷ p) value width forest) next here).1 in
        omega (arith, same)

    -- One of the two goes on lower.
    pub parted-lower : (at : ℕ) (child next : Shape V) → child_at at (children_of s) ≡ Some child
        → child_at at (next_children t) ≡ Some next
        → height child + height next < height left + height right
    parted-lower at child next here there =
        ⊎_elim
        (λ whole.
        let lower = (branch left at child (ordered left tree)
        (ap (λ z. child_at at (children_of z)) (sym (parted-whole n left whole)) ∙ here)).lower in
        let few = next-few t next at right-tree there in
        omega (arith, lower, few, same))
        (λ inside.
        let only = only-at at byte (behind_bytes n left) child
        (ap (child_at at) (sym (cut-child left n))
        ∙ ap (λ z. child_at at (children_of z)) (sym (is-cut inside)) ∙ here) in
        let as_high = ap height only.1 ∙ height-with left (drop n (prefix_of left)) in
        let lower = lower-next t next at right-tree
        (λ begins. right-apart inside (subst (λ z. BeginsWith z (prefix_of t)) only.0 begins))
        there in
        omega (arith, as_high, lower, same))
        whole-or-inside
      where
        same : height t ≡ height right
        same = height-with right (drop n (prefix_of right))

        lower-next : (x next : Shape V) (at : ℕ) → IsTree x
            → (BeginsWith at (prefix_of x) → ⊥)
            → child_at at (next_children x) ≡ Some next → height next < height x
        lower-next (node [] value width forest) next at tree apart there =
            (branch (node [] value width forest) at next (tree.0, tree.1) there).lower
        lower-next (node (b ∷ p) value width forest) next at tree apart there =
            absurd (apart (sym (only-at at b (node (b ∷ p) value width forest) next there).0))

-- Children that stand under bytes of a set, and a node that gets these one by one.
use Rattle.std.proofs.Common.{◌≡◌, ◌≤◌, ◌<◌, ◌⊎◌, inl, inr, ℕ, Bool, true, false, not, ◌&&◌, cond, List, [], ◌∷◌, ◌++◌, Option, Some, None, IsSome, is_some, length, refl, sym, ap, subst, ◌∙◌, arith}
use Rattle.std.specs.Prelude.{◌==◌, T, IfOk, IsTrue, Result, Ok, Err}
use Rattle.std.specs.Ordering.{nat_cmp}
use Rattle.std.specs.Cmp.{unsigned_tied}
use Rattle.std.specs.FinMap.{nat_cmp-IsAntisymmetric}
use Rattle.std.specs.FinMap.Entries.{where_key, find-where_key, same_entries}
use Rattle.std.proofs.lemmas.Bool.{cases_lt, eq-eqb, eqb-true, false≢true}
use Rattle.std.proofs.lemmas.Cmp.{nat_cmp_total}
use Rattle.std.proofs.lemmas.List.{append-nil, append_assoc, length-append}
use Rattle.std.proofs.lemmas.Option.{none-some}
use Rattle.rart_below.specs.ByteSets.{has_byte, AreBytesOfBoth, TakesFirst}
use Rattle.rart_below.specs.Children.{child_at, with_child, IsAscending}
use Rattle.rart_below.specs.Laws.{IsBelow, ascending_from, below_from}
use Rattle.rart_below.specs.declared.byte_set.ByteSet.{ByteSet}
use Rattle.rart_below.proofs.AscendingLemmas.{ascending-where_key, ascending_parts, below_parts, child_at-here, child_at-later, with_child-later}
use Rattle.rart_lockstep.specs.Children.{HaveBoth}
use Rattle.rart_lockstep.proofs.ChildLemmas.{child_at-other, where-none}
use Rattle.rart_node.specs.Counts.{Counts}
use Rattle.rart_node.specs.Shape.{Shape, node, prefix_of, value_of, children_of, forest_of, node_of, is_full_at, entries_of, widened, wider, width_for, width_of, widenings, with_added, entries_of-forest_of}
use Rattle.rart_node.specs.Trees.{AreBranches, IsOrdered}
use Rattle.rart_node.proofs.InsertionLemmas.{forest_of-entries_of}
use Rattle.rart_ways.proofs.AscendingRunLemmas.{not_full}
use Rattle.rart_algebra.specs.Among.{HaveChild, KeepsAmong, children_among}
use Rattle.rart_algebra.proofs.CommonCountLemmas.{no-list}

pub if-both : {A E : Type 0} {P Q R : A → Type 0} (result : Result A E)
    → ((a : A) → P a → Q a → R a) → IfOk result P → IfOk result Q → IfOk result R
if-both (Ok a) goes one other = goes a one other
if-both (Err e) goes one other = tt

pub no-work : (before after : Counts) → after.entered ≡ before.entered → after.made ≡ before.made
    → after ≡ before
no-work before after entered made = λ i. record { entered = entered i; made = made i }

holds : {t : Bool} → IsTrue t → T t
holds is = subst T (sym is) tt

pub some-value : {A : Type 0} (o : Option A) → IsSome o → (x : A) × (o ≡ Some x)
some-value None none = absurd (false≢true none)
some-value (Some x) some = (x, refl)

pub was-ahead : (same had : Bool) → (not same && had) ≡ true → had ≡ true
was-ahead true had is = absurd (false≢true is)
was-ahead false had is = is

-- ---- a set of the bytes that lead on in both
module _ {C : Type 0} (bytes : ByteSet) (left right : List (ℕ × C))
    (are : AreBytesOfBoth bytes left right) where
  pub bytes-apart : (byte : ℕ) → has_byte bytes byte ≡ false
      → (child_at byte left ≡ None) ⊎ (child_at byte right ≡ None)
  bytes-apart byte gone = apart (child_at byte left) (child_at byte right) (sym (are byte) ∙ gone)
    where
      apart : (x y : Option C) → (is_some x && is_some y) ≡ false → (x ≡ None) ⊎ (y ≡ None)
      apart None y is = inl refl
      apart (Some x) None is = inr refl
      apart (Some x) (Some y) is = absurd (false≢true (sym is))

  pub bytes-both : HaveBoth bytes left right
  bytes-both byte has = both (child_at byte left) (child_at byte right) (sym (are byte) ∙ has)
    where
      both : (x y : Option C) → (is_some x && is_some y) ≡ true → IsSome x × IsSome y
      both None y is = absurd (false≢true is)
      both (Some x) None is = absurd (false≢true is)
      both (Some x) (Some y) is = (refl, refl)

  pub bytes-have : HaveChild bytes left
  bytes-have byte has = (bytes-both byte has).0

none-yet : (ahead rest : ByteSet) (byte : ℕ) → TakesFirst ahead (Some byte) rest → (c : ℕ)
    → c ≤ byte → has_byte rest c ≡ false
none-yet ahead rest byte takes c le =
    takes.2 c ∙ elim (cases_lt c byte) [
      | inl less ↦ ap (λ t. not (c == byte) && t) (takes.1 c less) ∙ and-false (not (c == byte))
      | inr more ↦ ap (λ t. not t && has_byte ahead c) (eq-eqb c byte (omega (arith, le, more)))
    ]
  where
    and-false : (t : Bool) → (t && false) ≡ false
    and-false true = refl
    and-false false = refl

-- ---- the children under bytes of a set
module _ {C : Type 0} where
  pub at-among : (bytes : ByteSet) (children : List (ℕ × C)) (byte : ℕ)
      → child_at byte (children_among bytes children)
      ≡ cond (has_byte bytes byte) (child_at byte children) None
  at-among bytes children byte =
      find-where_key nat_cmp (has_byte bytes) byte
      (λ other tied. ap (has_byte bytes) (sym (nat_cmp-IsAntisymmetric byte other tied))) children

  pub among-same : (left bytes : ByteSet) (children : List (ℕ × C))
      → ((byte : ℕ) → has_byte left byte ≡ has_byte bytes byte)
      → children_among left children ≡ children_among bytes children
  among-same left bytes children same = λ i. where_key nat_cmp (λ byte. same byte i) children

  pub among-few : (p : ℕ → Bool) (children : List (ℕ × C))
      → length (where_key nat_cmp p children) ≤ length children
  among-few p [] = omega arith
  among-few p (child ∷ children) =
      let few = among-few p children in
      let rest = where_key nat_cmp p children in
      elim (p child.0) as (λ t. length (cond t (child ∷ rest) rest) ≤ length (child ∷ children)) [
        | true ↦ omega (arith, few)
        | false ↦ omega (arith, few)
      ]

  -- all, where they are as many
  pub among-all : (p : ℕ → Bool) (children : List (ℕ × C))
      → length (where_key nat_cmp p children) ≡ length children
      → where_key nat_cmp p children ≡ children
  among-all p [] many = refl
  among-all p (child ∷ children) many =
      let few = among-few p children in
      let rest = where_key nat_cmp p children in
      let P : Bool → Type 0 = λ t. length (cond t (child ∷ rest) rest) ≡ length (child ∷ children)
      → cond t (child ∷ rest) rest ≡ child ∷ children in
      let both : (t : Bool) → P t = elim [
        | true ↦ (λ same. ap (λ (l : List (ℕ × C)). child ∷ l)
            (among-all p children (omega (arith, same))))
        | false ↦ (λ same. absurd (omega (arith, same, few)))
      ] in
      both (p child.0) many

  -- none: then the set has no byte
  pub among-none : (bytes : ByteSet) (children : List (ℕ × C)) → HaveChild bytes children
      → length (children_among bytes children) ≡ 0 → (byte : ℕ) → has_byte bytes byte ≡ false
  among-none bytes children there zero byte =
      let P : Bool → Type 0 = λ t. has_byte bytes byte ≡ t → t ≡ false in
      let both : (t : Bool) → P t = elim [
        | true ↦ (λ has. absurd (false≢true (sym (ap is_some
            (sym (ap (λ t. cond t (child_at byte children) None) has)
            ∙ sym (at-among bytes children byte)
            ∙ ap (child_at byte) (no-list (children_among bytes children) zero)))
            ∙ there byte has)))
        | false ↦ (λ has. refl)
      ] in
      both (has_byte bytes byte) refl

  -- ---- the least byte is taken
  below-all : (byte : ℕ) (children : List (ℕ × C))
      → ((c : ℕ) → c ≤ byte → child_at c children ≡ None) → IsBelow byte children
  below-all byte [] none = refl
  below-all byte (child ∷ children) none =
      elim (cases_lt byte child.0) [
        | inl less ↦ below_from byte child children less
            (below-all byte children (λ c le.
            sym (child_at-other c child.0 child.1 children (omega (arith, less, le)))
            ∙ none c le))
        | inr more ↦ absurd (none-some child.1 (sym (none child.0 more)
            ∙ child_at-here child.0 child.0 child.1 children refl))
      ]

  module _ (ahead rest : ByteSet) (byte : ℕ) (takes : TakesFirst ahead (Some byte) rest) where
    pub have-less : (children : List (ℕ × C)) → HaveChild ahead children → HaveChild rest children
    have-less children there c has =
        there c (was-ahead (c == byte) (has_byte ahead c) (sym (takes.2 c) ∙ has))

    module _ (child : C) (children : List (ℕ × C)) (order : IsAscending children)
        (here : child_at byte children ≡ Some child) where
      at-next : (c : ℕ) → child_at c (children_among ahead children)
          ≡ child_at c ((byte, child) ∷ children_among rest children)
      at-next c =
          let old = child_at c children in
          let P : Bool → Type 0 = λ t. (c == byte) ≡ t → cond (has_byte ahead c) old None
          ≡ cond t (Some child) (cond (not t && has_byte ahead c) old None) in
          let both : (t : Bool) → P t = elim [
            | true ↦ (λ same.
                (λ i. cond (has_byte ahead (eqb-true c byte same i))
                (child_at (eqb-true c byte same i) children) None)
                ∙ ap (λ t. cond t (child_at byte children) None) takes.0 ∙ here)
            | false ↦ (λ differs. refl)
          ] in
          at-among ahead children c ∙ both (c == byte) refl
          ∙ sym (ap (λ t. cond t (Some child) (child_at c (children_among rest children)))
          (unsigned_tied c byte)
          ∙ ap (cond (c == byte) (Some child)) (at-among rest children c
          ∙ ap (λ t. cond t old None) (takes.2 c)))

      -- It has the first of the children that are ahead, and the others are left.
      pub among-next : children_among ahead children
          ≡ (byte, child) ∷ children_among rest children
      among-next =
          let later = ascending-where_key (has_byte rest) children order in
          let below = below-all byte (children_among rest children) (λ c le.
          at-among rest children c ∙ ap (λ t. cond t (child_at c children) None)
          (none-yet ahead rest byte takes c le)) in
          same_entries nat_cmp nat_cmp_total nat_cmp-IsAntisymmetric _ _
          (holds (ascending-where_key (has_byte ahead) children order))
          (holds (ascending_from (byte, child) (children_among rest children) below later))
          at-next

  -- ---- a child that is put in behind all others
  below-front : (least : ℕ) (front back : List (ℕ × C)) → IsBelow least (front ++ back)
      → IsBelow least front
  below-front least [] back below = refl
  below-front least (x ∷ front) back below =
      let parts = below_parts least x (front ++ back) below in
      below_from least x front parts.0 (below-front least front back parts.1)

  ascending-front : (front back : List (ℕ × C)) → IsAscending (front ++ back) → IsAscending front
  ascending-front [] back order = refl
  ascending-front (x ∷ front) back order =
      let parts = ascending_parts x (front ++ back) order in
      ascending_from x front (below-front x.0 front back parts.0)
      (ascending-front front back parts.1)

  last-below : (least byte : ℕ) (child : C) (front back : List (ℕ × C))
      → IsBelow least (front ++ (byte, child) ∷ back) → least < byte
  last-below least byte child [] back below = (below_parts least (byte, child) back below).0
  last-below least byte child (x ∷ front) back below =
      last-below least byte child front back
      (below_parts least x (front ++ (byte, child) ∷ back) below).1

  last-absent : (byte : ℕ) (child : C) (front back : List (ℕ × C))
      → IsAscending (front ++ (byte, child) ∷ back) → child_at byte front ≡ None
  last-absent byte child [] back order = refl
  last-absent byte child (x ∷ front) back order =
      let parts = ascending_parts x (front ++ (byte, child) ∷ back) order in
      child_at-later byte x.0 x.1 front (last-below x.0 byte child front back parts.0)
      ∙ last-absent byte child front back parts.1

  with_child-last : (byte : ℕ) (child : C) (front back : List (ℕ × C))
      → IsAscending (front ++ (byte, child) ∷ back)
      → with_child byte child front ≡ front ++ (byte, child) ∷ []
  with_child-last byte child [] back order = refl
  with_child-last byte child (x ∷ front) back order =
      let parts = ascending_parts x (front ++ (byte, child) ∷ back) order in
      with_child-later byte x.0 child x.1 front (last-below x.0 byte child front back parts.0)
      ∙ ap (λ (l : List (ℕ × C)). x ∷ l) (with_child-last byte child front back parts.1)

module _ {V : Type 0} where
  added-last : (prefix : List ℕ) (value : Option V) (count byte : ℕ) (child : Shape V)
      (front back : List (ℕ × Shape V)) → length front < count
      → IsAscending (front ++ (byte, child) ∷ back)
      → with_added byte child (node_of prefix value (width_for count) front)
      ≡ node_of prefix value (width_for count) (front ++ (byte, child) ∷ [])
  added-last prefix value count byte child front back less order =
      (λ i. node prefix value (widened (width_for count) (length (entries_of-forest_of front i)))
      (forest_of (with_child byte child (entries_of-forest_of front i))))
      ∙ ap (λ t. node prefix value (cond t (wider (width_for count)) (width_for count))
      (forest_of (with_child byte child front))) (not_full (length front) count less)
      ∙ ap (λ l. node_of prefix value (width_for count) l)
      (with_child-last byte child front back order)

  room-left : (prefix : List ℕ) (value : Option V) (count : ℕ) (front : List (ℕ × Shape V))
      → length front < count → widenings (node_of prefix value (width_for count) front) ≡ 0
  room-left prefix value count front less =
      ap {B = ℕ} (λ t. cond t 1 0)
      (ap (λ n. is_full_at (width_for count) n) (ap length (entries_of-forest_of front))
      ∙ not_full (length front) count less)

  -- Of the children under bytes of a set, those were put in whose bytes are no longer left.
  pub record IsFilled (s : Shape V) (bytes left : ByteSet) (count : ℕ) (now : Shape V) : Type 0
    where
      pub so_far : List (ℕ × Shape V)
      pub is : now ≡ node_of (prefix_of s) (value_of s) (width_for count) so_far
      pub together : so_far ++ children_among left (children_of s)
          ≡ children_among bytes (children_of s)

  module _ (s : Shape V) (bytes : ByteSet) (count : ℕ) where
    pub filled-none : (left : ByteSet) → ((byte : ℕ) → has_byte left byte ≡ has_byte bytes byte)
        → (now : Shape V) → now ≡ node_of (prefix_of s) (value_of s) (width_for count) []
        → IsFilled s bytes left count now
    filled-none left same now is = record {
      so_far = [];
      is = is;
      together = among-same left bytes (children_of s) same;
    }

    pub filled-all : (left : ByteSet) → ((byte : ℕ) → has_byte left byte ≡ false) → (now : Shape V)
        → IsFilled s bytes left count now → KeepsAmong bytes s now
    filled-all left none now filled = record {
      prefix = ap prefix_of filled.is;
      value = ap value_of filled.is;
      children = ap children_of filled.is ∙ entries_of-forest_of filled.so_far
          ∙ sym (append-nil filled.so_far)
          ∙ ap (λ l. filled.so_far ++ l) (sym (where-none (has_byte left) (children_of s) none))
          ∙ filled.together;
    }

    pub filled-width : (left : ByteSet) (now : Shape V) → IsFilled s bytes left count now
        → width_of now ≡ width_for count
    filled-width left now filled = ap width_of filled.is

    -- The children that are there ascend.
    pub filled-order : IsAscending (children_of s) → (left : ByteSet) (now : Shape V)
        → IsFilled s bytes left count now → IsAscending (children_of now)
    filled-order order left now filled =
        subst IsAscending (sym (ap children_of filled.is ∙ entries_of-forest_of filled.so_far))
        (ascending-front filled.so_far (children_among left (children_of s))
        (subst IsAscending (sym filled.together)
        (ascending-where_key (has_byte bytes) (children_of s) order)))

    module _ (order : IsAscending (children_of s))
        (many : length (children_among bytes (children_of s)) ≤ count)
        (ahead rest : ByteSet) (byte : ℕ) (takes : TakesFirst ahead (Some byte) rest)
        (child now : Shape V) (here : child_at byte (children_of s) ≡ Some child)
        (filled : IsFilled s bytes ahead count now) where
      parted : filled.so_far ++ (byte, child) ∷ children_among rest (children_of s)
          ≡ children_among bytes (children_of s)
      parted =
          ap (λ l. filled.so_far ++ l)
          (sym (among-next ahead rest byte takes child (children_of s) order here))
          ∙ filled.together

      ascends : IsAscending
          (filled.so_far ++ (byte, child) ∷ children_among rest (children_of s))
      ascends =
          subst IsAscending (sym parted)
          (ascending-where_key (has_byte bytes) (children_of s) order)

      fewer : length filled.so_far < count
      fewer =
          let all = ap length parted in
          let both = length-append filled.so_far
          ((byte, child) ∷ children_among rest (children_of s)) in
          omega (arith, all, both, many)

      -- The child is not there yet, and has room.
      pub filled-absent : child_at byte (children_of now) ≡ None
      filled-absent =
          ap (λ z. child_at byte (children_of z)) filled.is
          ∙ ap (child_at byte) (entries_of-forest_of filled.so_far)
          ∙ last-absent byte child filled.so_far (children_among rest (children_of s)) ascends

      pub filled-room : widenings now ≡ 0
      filled-room =
          ap widenings filled.is
          ∙ room-left (prefix_of s) (value_of s) count filled.so_far fewer

      pub filled-next : (after : Shape V) → after ≡ with_added byte child now
          → IsFilled s bytes rest count after
      filled-next after added = record {
        so_far = filled.so_far ++ (byte, child) ∷ [];
        is = added ∙ ap (with_added byte child) filled.is
            ∙ added-last (prefix_of s) (value_of s) count byte child filled.so_far
            (children_among rest (children_of s)) fewer ascends;
        together = append_assoc filled.so_far ((byte, child) ∷ [])
            (children_among rest (children_of s)) ∙ parted;
      }

  -- ---- the node with these children alone
  branches-among : (p : ℕ → Bool) (entries : List (ℕ × Shape V))
      → AreBranches (forest_of entries)
      → AreBranches (forest_of (where_key nat_cmp p entries))
  branches-among p [] branches = tt
  branches-among p (entry ∷ entries) branches =
      elim (p entry.0) as (λ t. AreBranches (forest_of
      (cond t (entry ∷ where_key nat_cmp p entries) (where_key nat_cmp p entries)))) [
        | true ↦ (branches.0, branches.1, branches-among p entries branches.2)
        | false ↦ branches-among p entries branches.2
      ]

  pub keeps-ordered : (bytes : ByteSet) (s now : Shape V) → IsOrdered s → KeepsAmong bytes s now
      → IsOrdered now
  keeps-ordered bytes (node prefix value width forest) (node prefix' value' width' forest') order
      keeps = (
        subst IsAscending (sym keeps.children)
            (ascending-where_key (has_byte bytes) (entries_of forest) order.0),
        subst AreBranches (ap forest_of (sym keeps.children) ∙ forest_of-entries_of forest')
            (branches-among (has_byte bytes) (entries_of forest)
            (subst AreBranches (sym (forest_of-entries_of forest)) order.1)),
      )

  pub at-kept : (bytes : ByteSet) (s now : Shape V) → KeepsAmong bytes s now → (byte : ℕ)
      → child_at byte (children_of now)
      ≡ cond (has_byte bytes byte) (child_at byte (children_of s)) None
  at-kept bytes s now keeps byte =
      ap (child_at byte) keeps.children ∙ at-among bytes (children_of s) byte

  -- All are kept, where they are as many.
  pub keeps-all : (bytes : ByteSet) (s : Shape V)
      → length (children_among bytes (children_of s)) ≡ length (children_of s)
      → KeepsAmong bytes s s
  keeps-all bytes s many = record {
    prefix = refl;
    value = refl;
    children = sym (among-all (has_byte bytes) (children_of s) many);
  }

-- A node that gets the children of another, for which it has room.
use Rattle.std.proofs.Common.{◌≡◌, ◌≤◌, ◌<◌, ◌+◌, ℕ, Bool, true, false, not, ◌&&◌, cond, List, [], ◌∷◌, ◌++◌, Option, Some, None, IsSome, is_some, length, refl, sym, ap, subst, ◌∙◌, arith}
use Rattle.std.specs.Prelude.{◌==◌, ◌||◌, T, nat_le}
use Rattle.std.specs.Option.{option_map}
use Rattle.std.specs.Ordering.{nat_cmp}
use Rattle.std.specs.FinMap.Entries.{length-put, where_key}
use Rattle.std.specs.Cmp.{unsigned_tied}
use Rattle.std.proofs.lemmas.Bool.{eq-eqb, eqb-true, false≢true}
use Rattle.std.proofs.lemmas.Bool.Decides.{nat_tests}
use Rattle.std.proofs.lemmas.Cmp.{nat_cmp_total}
use Rattle.rart_below.specs.ByteSets.{has_byte, AreBytesOf, TakesFirst}
use Rattle.rart_below.specs.Children.{IsAscending, child_at, with_child}
use Rattle.rart_below.specs.declared.byte_set.ByteSet.{ByteSet}
use Rattle.rart_below.proofs.AscendingLemmas.{child_at-here}
use Rattle.rart_below.proofs.ByteSetLemmas.{some-where}
use Rattle.rart_lockstep.specs.TreeCursors.{next_children, value_here}
use Rattle.rart_node.specs.Shape.{Shape, node, prefix_of, value_of, width_of, children_of, entries_of, forest_of, is_full_at, wider, width_for, widenings, with_added, with_prefix, entries_of-forest_of}
use Rattle.rart_node.specs.Trees.{AreBranches, BeginsWith, found, IsTree, IsOrdered}
use Rattle.rart_node.proofs.FindLemmas.{branch, ascending}
use Rattle.rart_node.proofs.InsertionLemmas.{ascending-with, branches-with, forest_of-entries_of}
use Rattle.rart_ways.proofs.AscendingRunLemmas.{not_full}
use Rattle.rart_ways.proofs.GraftLemmas.{child_at-with}
use Rattle.rart_algebra.specs.Among.{HaveChild, children_among}
use Rattle.rart_algebra.specs.Gains.{AreAlone, Gains, HasAdded, HasMore, HasRoom, HasRoomFor, HaveNone, with_own}
use Rattle.rart_algebra.specs.Picks.{either, unless}
use Rattle.rart_algebra.proofs.AmongLemmas.{among-next, have-less, some-value, was-ahead}
use Rattle.rart_algebra.proofs.CarriedLemmas.{ended-next}
use Rattle.rart_algebra.proofs.PartedLemmas.{key-there}
use Rattle.rart_algebra.proofs.ReachLemmas.{look, child-first, found-next, key-begun}

-- ---- room
not_full-at : (width count : ℕ) → count < width → is_full_at width count ≡ false
not_full-at width count less = grind (arith, nat_tests)

within : (a b : ℕ) → nat_le a b ≡ true → a ≤ b
within a b is = grind (arith, nat_tests)

pub either-none : {A : Type 0} (one : Option A) → either one None ≡ one
either-none None = refl
either-none (Some one) = refl

module _ {V : Type 0} where
  pub room-wide : (s : Shape V) (all count : ℕ) → nat_le all (width_of s) ≡ true
      → all ≡ length (children_of s) + count → HasRoom count s
  room-wide s all count wide is more less =
      let few = within all (width_of s) wide in
      not_full-at (width_of s) (length (children_of s) + more) (omega (arith, few, is, less))

  pub room-made : (s : Shape V) (all count : ℕ) → width_of s ≡ width_for all
      → all ≡ length (children_of s) + count → HasRoom count s
  room-made s all count made is more less =
      ap (λ w. is_full_at w (length (children_of s) + more)) made
      ∙ not_full (length (children_of s) + more) all (omega (arith, is, less))

  -- The order of a node is that of its children.
  pub same-order : (s now : Shape V) → IsOrdered s → children_of now ≡ children_of s
      → IsOrdered now
  same-order (node prefix value width forest) (node prefix' value' width' forest') order same = (
    subst IsAscending (sym same) order.0,
    subst AreBranches (sym (forest_of-entries_of forest) ∙ ap forest_of (sym same)
        ∙ forest_of-entries_of forest') order.1,
  )

  -- ---- all children are kept
  kept-all : (p : ℕ → Bool) (children : List (ℕ × Shape V))
      → ((byte : ℕ) → is_some (child_at byte children) ≡ true → p byte ≡ true)
      → where_key nat_cmp p children ≡ children
  kept-all p [] has = refl
  kept-all p (child ∷ children) has =
      let rest = kept-all p children (λ byte some.
      has byte (some-where byte child.0 child.1 children
      ∙ or-true (byte == child.0) (is_some (child_at byte children)) some)) in
      ap (λ t. cond t (child ∷ where_key nat_cmp p children) (where_key nat_cmp p children))
      (has child.0 (ap is_some (child_at-here child.0 child.0 child.1 children refl)))
      ∙ ap (λ (l : List (ℕ × Shape V)). child ∷ l) rest
    where
      or-true : (s t : Bool) → t ≡ true → (s || t) ≡ true
      or-true true t is = refl
      or-true false t is = is

  pub keeps-whole : (bytes : ByteSet) (s : Shape V) → AreBytesOf bytes (children_of s)
      → children_among bytes (children_of s) ≡ children_of s
  keeps-whole bytes s are =
      kept-all (has_byte bytes) (children_of s) (λ byte some. are byte ∙ some)

  -- ---- the children of another under bytes of a set
  -- Those were put in whose bytes are no longer left.
  pub record IsJoining (bytes : ByteSet) (other s : Shape V) (left : ByteSet) (now : Shape V)
      : Type 0 where
    pub order : IsOrdered now
    pub prefix : prefix_of now ≡ prefix_of s
    pub value : value_of now ≡ value_of s
    pub there : HaveChild left (children_of other)
    pub absent : HaveNone left (children_of now)
    pub within : (byte : ℕ) → has_byte left byte ≡ true → has_byte bytes byte ≡ true
    pub children : (byte : ℕ) → child_at byte (children_of now)
        ≡ cond (has_byte bytes byte && not (has_byte left byte))
        (child_at byte (children_of other)) (child_at byte (children_of s))
    pub room : HasRoom (length (children_among left (children_of other))) now

  module _ (bytes : ByteSet) (other s : Shape V) where
    pub joining-none : (left : ByteSet) → left ≡ bytes → IsOrdered s
        → HaveChild bytes (children_of other) → HaveNone bytes (children_of s)
        → HasRoom (length (children_among bytes (children_of other))) s
        → IsJoining bytes other s left s
    joining-none left same order there absent room = record {
      order = order;
      prefix = refl;
      value = refl;
      there = subst (λ z. HaveChild z (children_of other)) (sym same) there;
      absent = subst (λ z. HaveNone z (children_of s)) (sym same) absent;
      within = λ byte has. ap (λ z. has_byte z byte) (sym same) ∙ has;
      children = λ byte.
          let P : Bool → Type 0 = λ t. child_at byte (children_of s)
          ≡ cond (t && not t) (child_at byte (children_of other)) (child_at byte (children_of s)) in
          let by : (t : Bool) → P t = elim [ true ↦ refl | false ↦ refl ] in
          subst (λ z. child_at byte (children_of s)
          ≡ cond (has_byte bytes byte && not (has_byte z byte))
          (child_at byte (children_of other)) (child_at byte (children_of s))) (sym same)
          (by (has_byte bytes byte));
      room = subst (λ z. HasRoom (length (children_among z (children_of other))) s) (sym same)
          room;
    }

    pub joining-all : (left : ByteSet) (now : Shape V)
        → ((byte : ℕ) → has_byte left byte ≡ false) → IsJoining bytes other s left now
        → HasAdded bytes other s now
    joining-all left now none joining = record {
      order = joining.order;
      prefix = joining.prefix;
      value = joining.value;
      children = λ byte. joining.children byte
          ∙ ap (λ t. cond t (child_at byte (children_of other)) (child_at byte (children_of s)))
          (ap (λ t. has_byte bytes byte && not t) (none byte) ∙ and-true (has_byte bytes byte));
    }
      where
        and-true : (t : Bool) → (t && true) ≡ t
        and-true true = refl
        and-true false = refl

    module _ (order : IsOrdered other) (ahead rest : ByteSet) (byte : ℕ)
        (takes : TakesFirst ahead (Some byte) rest) (child now : Shape V)
        (here : child_at byte (children_of other) ≡ Some child)
        (joining : IsJoining bytes other s ahead now) where
      one-more : length (children_among ahead (children_of other))
          ≡ 1 + length (children_among rest (children_of other))
      one-more =
          let is = ap length (among-next ahead rest byte takes child (children_of other)
          (ascending other order) here) in
          omega (arith, is)

      pub joining-absent : child_at byte (children_of now) ≡ None
      joining-absent = joining.absent byte takes.0

      not-full : is_full_at (width_of now) (length (children_of now)) ≡ false
      not-full =
          let more = one-more in
          let zero : length (children_of now) + 0 ≡ length (children_of now) = omega arith in
          ap (is_full_at (width_of now)) (sym zero) ∙ joining.room 0 (omega (arith, more))

      pub joining-room : widenings now ≡ 0
      joining-room = none now not-full
        where
          none : (x : Shape V) → is_full_at (width_of x) (length (children_of x)) ≡ false
              → widenings x ≡ 0
          none (node prefix value width forest) is = ap {B = ℕ} (λ t. cond t 1 0) is

      added-prefix : (x : Shape V) → prefix_of (with_added byte child x) ≡ prefix_of x
      added-prefix (node prefix value width forest) = refl

      added-value : (x : Shape V) → value_of (with_added byte child x) ≡ value_of x
      added-value (node prefix value width forest) = refl

      added-width : (x : Shape V) → is_full_at (width_of x) (length (children_of x)) ≡ false
          → width_of (with_added byte child x) ≡ width_of x
      added-width (node prefix value width forest) is =
          ap (λ t. cond t (wider width) width) is

      added-at : (x : Shape V) (c : ℕ) → child_at c (children_of (with_added byte child x))
          ≡ cond (c == byte) (Some child) (child_at c (children_of x))
      added-at (node prefix value width forest) c =
          ap (child_at c) (entries_of-forest_of (with_child byte child (entries_of forest)))
          ∙ child_at-with (entries_of forest) byte c child

      added-order : (x : Shape V) → IsOrdered x → IsOrdered (with_added byte child x)
      added-order (node prefix value width forest) ordered =
          let known = branch other byte child order here in (
            ascending-with forest byte child ordered.0,
            branches-with forest byte child ordered.1 known.tree known.begins,
          )

      added-length : (x : Shape V) → IsOrdered x → child_at byte (children_of x) ≡ None
          → length (children_of (with_added byte child x)) ≡ length (children_of x) + 1
      added-length (node prefix value width forest) ordered none =
          let entries = entries_of forest in
          ap length (entries_of-forest_of (with_child byte child entries))
          ∙ length-put nat_cmp nat_cmp_total byte child entries (subst T (sym ordered.0) tt)
          ∙ ap (λ o. cond (is_some o) (length entries) (length entries + 1)) none

      joining-is : IsJoining bytes other s rest (with_added byte child now)
      joining-is =
          let after = with_added byte child now in record {
            order = added-order now joining.order;
            prefix = added-prefix now ∙ joining.prefix;
            value = added-value now ∙ joining.value;
            there = have-less ahead rest byte takes (children_of other) joining.there;
            absent = λ c has.
                let P : Bool → Type 0 = λ t. (not t && has_byte ahead c) ≡ true
                → cond t (Some child) (child_at c (children_of now)) ≡ None in
                let both : (t : Bool) → P t = elim [
                  | true ↦ (λ never. absurd (false≢true never))
                  | false ↦ (λ still. joining.absent c still)
                ] in
                added-at now c ∙ both (c == byte) (sym (takes.2 c) ∙ has);
            within = λ c has. joining.within c
                (was-ahead (c == byte) (has_byte ahead c) (sym (takes.2 c) ∙ has));
            children = λ c.
                let P : Bool → Type 0 = λ t. (c == byte) ≡ t
                → cond t (Some child) (child_at c (children_of now))
                ≡ cond (has_byte bytes c && not (not t && has_byte ahead c))
                (child_at c (children_of other)) (child_at c (children_of s)) in
                let both : (t : Bool) → P t = elim [
                  | true ↦ (λ same.
                      let is = eqb-true c byte same in
                      sym (ap (λ t. cond (t && true) (child_at c (children_of other))
                      (child_at c (children_of s)))
                      (ap (has_byte bytes) is ∙ joining.within byte takes.0)
                      ∙ ap (λ z. child_at z (children_of other)) is ∙ here))
                  | false ↦ (λ differs. joining.children c)
                ] in
                added-at now c ∙ both (c == byte) refl
                ∙ ap (λ t. cond (has_byte bytes c && not t) (child_at c (children_of other))
                (child_at c (children_of s))) (sym (takes.2 c));
            room = λ more less.
                let long = added-length now joining.order joining-absent in
                let one = one-more in
                let sum : length (children_of after) + more ≡ length (children_of now) + (1 + more)
                =
                omega (arith, long) in
                (λ i. is_full_at (added-width now not-full i) (sum i))
                ∙ joining.room (1 + more) (omega (arith, one, less));
          }

      pub joining-next : (after : Shape V) → after ≡ with_added byte child now
          → IsJoining bytes other s rest after
      joining-next after is = subst (IsJoining bytes other s rest) (sym is) joining-is

-- A set under whose bytes there are children has a byte.
pub among-some : {C : Type 0} (p : ℕ → Bool) (children : List (ℕ × C))
    → (length (where_key nat_cmp p children) ≡ 0 → ⊥) → (byte : ℕ) × (p byte ≡ true)
among-some p [] some = absurd (some refl)
among-some {C} p (child ∷ children) some =
    let rest = where_key nat_cmp p children in
    let P : Bool → Type 0 = λ t. p child.0 ≡ t
    → (length (cond t (child ∷ rest) rest) ≡ 0 → ⊥) → (byte : ℕ) × (p byte ≡ true) in
    let both : (t : Bool) → P t = elim [
      | true ↦ (λ has _. (child.0, has))
      | false ↦ (λ _ more. among-some p children more)
    ] in
    both (p child.0) refl some

-- ---- the bytes under which one has a child and the other none
pub alone-next : (ahead rest alone after : ByteSet) (byte : ℕ) (is_alone : ℕ → Bool)
    → TakesFirst ahead (Some byte) rest
    → ((c : ℕ) → has_byte alone c ≡ (not (has_byte ahead c) && is_alone c))
    → ((c : ℕ) → has_byte after c ≡ ((c == byte && is_alone byte) || has_byte alone c))
    → (c : ℕ) → has_byte after c ≡ (not (has_byte rest c) && is_alone c)
alone-next ahead rest alone after byte is_alone takes was is c =
    let P : Bool → Type 0 = λ same. (c == byte) ≡ same
    → ((same && is_alone byte) || has_byte alone c)
    ≡ (not (not same && has_byte ahead c) && is_alone c) in
    let both : (same : Bool) → P same = elim [
      | true ↦ (λ same.
          let there = eqb-true c byte same in
          ap (λ t. is_alone byte || t) (was c
          ∙ ap (λ t. not t && is_alone c) (ap (has_byte ahead) there ∙ takes.0))
          ∙ or-false (is_alone byte) ∙ ap is_alone (sym there))
      | false ↦ (λ differs. was c)
    ] in
    is c ∙ both (c == byte) refl ∙ ap (λ t. not t && is_alone c) (sym (takes.2 c))
  where
    or-false : (t : Bool) → (t || false) ≡ t
    or-false true = refl
    or-false false = refl

pub shown-some : {A B : Type 0} (f : A → B) (one : Option A) (other : Option B)
    → option_map f one ≡ other → is_some other ≡ is_some one
shown-some f None other is = ap is_some (sym is)
shown-some f (Some one) other is = ap is_some (sym is)

module _ {V : Type 0} where
  -- ---- what is gained
  pub ended-here : (s : Shape V) → value_here (with_prefix [] s) ≡ value_of s
  ended-here (node prefix value width forest) = refl

  ended-found : (s : Shape V) → found (with_prefix [] s) [] ≡ value_of s
  ended-found (node prefix value width forest) = refl

  module _ (s other : Shape V) (alone : ByteSet)
      (are : AreAlone alone (children_of s) (children_of other)) where
    abbrev t : Shape V
    t = with_prefix [] other

    -- no child where none is alone
    none-alone : (one two : Option (Shape V)) → (is_some two && not (is_some one)) ≡ false
        → either one two ≡ one
    none-alone (Some one) two is = refl
    none-alone None None is = refl
    none-alone None (Some two) is = absurd (false≢true (sym is))

    pub gains-nothing : IsOrdered s → ((byte : ℕ) → has_byte alone byte ≡ false)
        → unless (value_of other) (value_of s) ≡ None → Gains s t s
    gains-nothing order none no_value = record {
      order = order;
      prefix = refl;
      value = by (value_of s) (value_of other) no_value
          ∙ ap (either (value_of s)) (sym (ended-here other));
      children = λ byte.
          sym (ap (λ z. either (child_at byte (children_of s)) (child_at byte z)) (ended-next other)
          ∙ none-alone (child_at byte (children_of s)) (child_at byte (children_of other))
          (sym (are byte) ∙ none byte));
    }
      where
        by : (one two : Option V) → unless two one ≡ None → one ≡ either one two
        by None two is = sym is
        by (Some one) two is = refl

    either-alone : (one two : Option (Shape V)) (t : Bool)
        → t ≡ (is_some two && not (is_some one)) → cond t two one ≡ either one two
    either-alone (Some one) (Some two) t is = ap (λ t. cond t (Some two) (Some one)) is
    either-alone (Some one) None t is = ap (λ t. cond t None (Some one)) is
    either-alone None (Some two) t is = ap (λ t. cond t (Some two) None) is
    either-alone None None t is = ap (λ t. cond t None None) is

    pub gains-all : (copy it : Shape V) (count : ℕ) (value : Option V)
        → HasRoomFor count s copy → HasAdded alone other copy it
        → value ≡ unless (value_of other) (value_of s) → Gains s t (with_own value it)
    gains-all copy it count value roomy added is = record {
      order = own-order value it added.order;
      prefix = own-prefix value it ∙ added.prefix ∙ roomy.prefix;
      value = own-value value it
          ∙ (λ i. either (is i) ((added.value ∙ roomy.value) i))
          ∙ by (value_of s) (value_of other)
          ∙ ap (either (value_of s)) (sym (ended-here other));
      children = λ byte. own-children value it byte ∙ added.children byte
          ∙ ap (λ z. cond (has_byte alone byte) (child_at byte (children_of other))
          (child_at byte z)) roomy.children
          ∙ either-alone (child_at byte (children_of s)) (child_at byte (children_of other))
          (has_byte alone byte) (are byte)
          ∙ ap (λ z. either (child_at byte (children_of s)) (child_at byte z))
          (sym (ended-next other));
    }
      where
        own-order : (value : Option V) (x : Shape V) → IsOrdered x → IsOrdered (with_own value x)
        own-order None x order = order
        own-order (Some value) (node prefix old width forest) order = order

        own-prefix : (value : Option V) (x : Shape V) → prefix_of (with_own value x) ≡ prefix_of x
        own-prefix None x = refl
        own-prefix (Some value) (node prefix old width forest) = refl

        own-value : (value : Option V) (x : Shape V)
            → value_of (with_own value x) ≡ either value (value_of x)
        own-value None x = refl
        own-value (Some value) (node prefix old width forest) = refl

        own-children : (value : Option V) (x : Shape V) (byte : ℕ)
            → child_at byte (children_of (with_own value x)) ≡ child_at byte (children_of x)
        own-children None x byte = refl
        own-children (Some value) (node prefix old width forest) byte = refl

        by : (one two : Option V) → either (unless two one) one ≡ either one two
        by None None = refl
        by None (Some two) = refl
        by (Some one) two = refl

    -- ---- then there is a key more
    pub more-value : IsSome (unless (value_of other) (value_of s)) → HasMore s t
    more-value some =
        let parts = by (value_of s) (value_of other) some in
        ([], ap is_some (ended-found other) ∙ parts.1, ended-found s ∙ parts.0)
      where
        by : (one two : Option V) → IsSome (unless two one) → (one ≡ None) × IsSome two
        by None two some = (refl, some)
        by (Some one) two some = absurd (false≢true some)

    pub alone-have : HaveChild alone (children_of other)
    alone-have byte has =
        by (child_at byte (children_of s)) (child_at byte (children_of other)) (sym (are byte) ∙
        has)
      where
        by : (one two : Option (Shape V)) → (is_some two && not (is_some one)) ≡ true → IsSome two
        by one None is = absurd (false≢true is)
        by one (Some two) is = refl

    pub more-child : (byte : ℕ) → IsOrdered other → has_byte alone byte ≡ true → HasMore s t
    more-child byte order has =
        let parts = by (child_at byte (children_of s)) (child_at byte (children_of other))
        (sym (are byte) ∙ has) in
        let child = some-value (child_at byte (children_of other)) parts.1 in
        let known = branch other byte child.0 order child.1 in
        let key = key-begun child.0 known.tree in
        let first = child-first child.0 byte (prefix_of child.0 ++ key.0) known.begins key.1 in (
          byte ∷ first.0,
          subst IsSome (sym (found-next t byte first.0
              ∙ ap (λ z. look (byte ∷ first.0) (child_at byte z)) (ended-next other)
              ∙ ap (look (byte ∷ first.0)) child.1))
              (subst (λ z. IsSome (found child.0 z)) first.1 key.1),
          found-next (with_prefix [] s) byte first.0
              ∙ ap (λ z. look (byte ∷ first.0) (child_at byte z)) (ended-next s)
              ∙ ap (look (byte ∷ first.0)) parts.0,
        )
      where
        by : (one two : Option (Shape V)) → (is_some two && not (is_some one)) ≡ true
            → (one ≡ None) × IsSome two
        by None None is = absurd (false≢true is)
        by None (Some two) is = (refl, refl)
        by (Some one) None is = absurd (false≢true is)
        by (Some one) (Some two) is = absurd (false≢true is)

  -- ---- one child alone: the rest of a prefix
  module _ (s t : Shape V) (byte : ℕ) (tree : IsTree t) (first : BeginsWith byte (prefix_of t))
    where
      only-next : (t : Shape V) → BeginsWith byte (prefix_of t) → (c : ℕ)
          → child_at c (next_children t) ≡ cond (c == byte) (Some t) None
      only-next (node [] value width forest) begins c = absurd begins
      only-next (node (b ∷ p) value width forest) begins c =
          ap {B = Option (Shape V)}
          (λ z. child_at c ((z, node (b ∷ p) value width forest) ∷ [])) begins
          ∙ ap (λ same. cond same (Some (node (b ∷ p) value width forest)) None) (unsigned_tied c
          byte)

      none-here : (t : Shape V) → BeginsWith byte (prefix_of t) → value_here t ≡ None
      none-here (node [] value width forest) begins = absurd begins
      none-here (node (b ∷ p) value width forest) begins = refl

      pub rest-nothing : IsOrdered s → IsSome (child_at byte (children_of s)) → Gains s t s
      rest-nothing order there = record {
        order = order;
        prefix = refl;
        value = sym (ap (either (value_of s)) (none-here t first) ∙ either-none (value_of s));
        children = λ c.
            let P : Bool → Type 0 = λ same. (c == byte) ≡ same → child_at c (children_of s)
            ≡ either (child_at c (children_of s)) (cond same (Some t) None) in
            let both : (same : Bool) → P same = elim [
              | true ↦ (λ same. sym (had (child_at c (children_of s)) (Some t)
                  (subst (λ z. IsSome (child_at z (children_of s))) (sym (eqb-true c byte same))
                  there)))
              | false ↦ (λ differs. sym (either-none (child_at c (children_of s))))
            ] in
            both (c == byte) refl
            ∙ ap (either (child_at c (children_of s))) (sym (only-next t first c));
      }
        where
          had : (one two : Option (Shape V)) → IsSome one → either one two ≡ one
          had None two none = absurd (false≢true none)
          had (Some one) two some = refl

      pub rest-gained : (copy : Shape V) → HasRoomFor 1 s copy → IsOrdered s
          → child_at byte (children_of s) ≡ None → Gains s t (with_added byte t copy)
      rest-gained copy roomy order none = record {
        order = in-order s copy order roomy.children;
        prefix = same-prefix copy ∙ roomy.prefix;
        value = same-value copy ∙ roomy.value
            ∙ sym (ap (either (value_of s)) (none-here t first) ∙ either-none (value_of s));
        children = λ c.
            let P : Bool → Type 0 = λ same. (c == byte) ≡ same
            → cond same (Some t) (child_at c (children_of s))
            ≡ either (child_at c (children_of s)) (cond same (Some t) None) in
            let both : (same : Bool) → P same = elim [
              | true ↦ (λ same. sym (ap (λ z. either z (Some t))
                  (ap (λ z. child_at z (children_of s)) (eqb-true c byte same) ∙ none)))
              | false ↦ (λ differs. sym (either-none (child_at c (children_of s))))
            ] in
            at copy c ∙ ap (λ z. cond (c == byte) (Some t) (child_at c z)) roomy.children
            ∙ both (c == byte) refl
            ∙ ap (either (child_at c (children_of s))) (sym (only-next t first c));
      }
        where
          same-prefix : (x : Shape V) → prefix_of (with_added byte t x) ≡ prefix_of x
          same-prefix (node prefix value width forest) = refl

          same-value : (x : Shape V) → value_of (with_added byte t x) ≡ value_of x
          same-value (node prefix value width forest) = refl

          at : (x : Shape V) (c : ℕ) → child_at c (children_of (with_added byte t x))
              ≡ cond (c == byte) (Some t) (child_at c (children_of x))
          at (node prefix value width forest) c =
              ap (child_at c) (entries_of-forest_of (with_child byte t (entries_of forest)))
              ∙ child_at-with (entries_of forest) byte c t

          in-order : (x y : Shape V) → IsOrdered x → children_of y ≡ children_of x
              → IsOrdered (with_added byte t y)
          in-order x (node prefix value width forest) order same =
              let ordered = same-order x (node prefix value width forest) order same in (
                ascending-with forest byte t ordered.0,
                branches-with forest byte t ordered.1 tree first,
              )

      -- It has a key that the node lacks.
      pub rest-more : child_at byte (children_of s) ≡ None → HasMore s t
      rest-more none =
          let key = key-there t t byte tree
          (only-next t first byte ∙ ap (λ same. cond same (Some t) None) (eq-eqb byte byte refl)) in (
            byte ∷ key.0,
            key.1,
            found-next (with_prefix [] s) byte key.0
                ∙ ap (λ z. look (byte ∷ key.0) (child_at byte z)) (ended-next s)
                ∙ ap (look (byte ∷ key.0)) none,
          )

      pub rest-room : (copy : Shape V) → HasRoomFor 1 s copy → widenings copy ≡ 0
      rest-room copy roomy = none copy (
          let zero : length (children_of copy) + 0 ≡ length (children_of copy) = omega arith in
          ap (is_full_at (width_of copy)) (sym zero) ∙ roomy.room 0 (omega arith))
        where
          none : (x : Shape V) → is_full_at (width_of x) (length (children_of x)) ≡ false
              → widenings x ≡ 0
          none (node prefix value width forest) is = ap {B = ℕ} (λ t. cond t 1 0) is

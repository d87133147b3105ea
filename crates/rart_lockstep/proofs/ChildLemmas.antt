-- The children that two nodes have under the same bytes.
use Rattle.std.proofs.Common.{◌≡◌, ◌≢◌, inl, inr, ℕ, cond, List, [], ◌∷◌, Option, Some, None, refl, sym, ap, ◌∙◌, arith}
use Rattle.std.specs.List.{cons_option}
use Rattle.std.specs.Option.{option_map}
use Rattle.std.specs.Ordering.{nat_cmp, is_lt}
use Rattle.std.specs.Cmp.{unsigned_tied}
use Rattle.std.specs.FinMap.Entries.{below_all, where_key}
use Rattle.std.specs.Prelude.{◌<◌, ◌==◌, ◌&&◌, ◌||◌, Bool, true, false, not, is_some}
use Rattle.std.proofs.lemmas.Bool.{and_parts, and_from, eq-eqb, ne_eqb, cases_order}
use Rattle.std.proofs.lemmas.Option.{none-some, same_Some}
use Rattle.rart_below.specs.Children.{child_at, IsAscending}
use Rattle.rart_below.specs.Laws.{IsBelow, ascending_from}
use Rattle.rart_below.proofs.AscendingLemmas.{below_parts, ascending_parts, child_at-here, child_at-below}
use Rattle.rart_below.proofs.ByteSetLemmas.{some-where}
use Rattle.rart_lockstep.specs.Children.{common_children}

-- ---- a list of which those are left whose bytes are in a set
-- none, where the set has no byte
pub where-none : {X : Type 0} (p : ℕ → Bool) (pairs : List (ℕ × X))
    → ((byte : ℕ) → p byte ≡ false) → where_key nat_cmp p pairs ≡ []
where-none p [] none = refl
where-none p (pair ∷ pairs) none =
    let rest = where_key nat_cmp p pairs in
    ap (λ (t : Bool). cond t (pair ∷ rest) rest) (none pair.0) ∙ where-none p pairs none

-- the same, where two sets have the same bytes from there on
where-same : {X : Type 0} (p q : ℕ → Bool) (byte : ℕ) (pairs : List (ℕ × X))
    → IsBelow byte pairs → ((later : ℕ) → byte < later → p later ≡ q later)
    → where_key nat_cmp p pairs ≡ where_key nat_cmp q pairs
where-same p q byte [] below same = refl
where-same p q byte (pair ∷ pairs) below same =
    let parts = below_parts byte pair pairs below in
    let rest = where-same p q byte pairs parts.1 same in
    λ i. cond (same pair.0 parts.0 i) (pair ∷ rest i) (rest i)

module _ {C : Type 0} where
  pub child_at-other : (byte key : ℕ) (child : C) (children : List (ℕ × C)) → key ≢ byte
      → child_at byte ((key, child) ∷ children) ≡ child_at byte children
  child_at-other byte key child children differ =
      ap (λ t. cond t (Some child) (child_at byte children))
      (unsigned_tied byte key ∙ ne_eqb byte key (λ is. differ (sym is)))

  -- the pair of the one's child and the other's, if there is one
  abbrev with_other : ℕ → C → Option C → Option (ℕ × (C × C))
  with_other byte child o = option_map (λ other. (byte, (child, other))) o

  abbrev with_one : ℕ → C → Option C → Option (ℕ × (C × C))
  with_one byte child o = option_map (λ one. (byte, (one, child))) o

  pub common-none : (left : List (ℕ × C)) → common_children left [] ≡ []
  common-none [] = refl
  common-none (child ∷ left) = common-none left

  -- the first of the right children apart from the others
  pub common-first : (left : List (ℕ × C)) (byte : ℕ) (child : C) (right : List (ℕ × C))
      → IsAscending left → IsBelow byte right
      → common_children left ((byte, child) ∷ right)
      ≡ cons_option (with_one byte child (child_at byte left)) (common_children left right)
  common-first [] byte child right ascending below = refl
  common-first (first ∷ left) byte child right ascending below =
      let order = ascending_parts first left ascending in
      let more = common-first left byte child right order.1 below in
      let rest = common_children left right in
      let found = common_children left ((byte, child) ∷ right) in
      elim (cases_order first.0 byte) [
        | inl same ↦
            let none_left = child_at-below byte first.0 left (omega (arith, same)) order.0 in
            let none_right = child_at-below first.0 byte right (omega (arith, same)) below in
            ap (λ o. cons_option (with_other first.0 first.1 o) found)
            (child_at-here first.0 byte child right (sym same))
            ∙ ap (λ later. (first.0, (first.1, child)) ∷ later)
            (more ∙ ap (λ o. cons_option (with_one byte child o) rest) none_left)
            ∙ ap (λ b. (b, (first.1, child)) ∷ rest) same
            ∙ ap (λ o. (byte, (first.1, child)) ∷ cons_option (with_other first.0 first.1 o) rest)
            (sym none_right)
            ∙ ap (λ o. cons_option (with_one byte child o) (common_children (first ∷ left) right))
            (sym (child_at-here byte first.0 first.1 left same))
        | inr (inl less) ↦
            let none_right = child_at-below first.0 byte right (omega (arith, less)) below in
            ap (λ o. cons_option (with_other first.0 first.1 o) found)
            (child_at-other first.0 byte child right (omega (arith, less)) ∙ none_right)
            ∙ more
            ∙ ap (λ o. cons_option (with_one byte child o) rest)
            (sym (child_at-other byte first.0 first.1 left (omega (arith, less))))
            ∙ ap (λ o. cons_option (with_one byte child (child_at byte (first ∷ left)))
            (cons_option (with_other first.0 first.1 o) rest)) (sym none_right)
        | inr (inr greater) ↦
            let none_left =
            child_at-below byte first.0 left (omega (arith, greater)) order.0 in
            ap (λ o. cons_option (with_other first.0 first.1 o) found)
            (child_at-other first.0 byte child right (omega (arith, greater)))
            ∙ ap (cons_option (with_other first.0 first.1 (child_at first.0 right)))
            (more ∙ ap (λ o. cons_option (with_one byte child o) rest) none_left)
            ∙ ap (λ o. cons_option (with_one byte child o) (common_children (first ∷ left) right))
            (sym (child_at-other byte first.0 first.1 left (omega (arith, greater))
            ∙ none_left))
      ]

  -- ---- their order
  below-common : (byte : ℕ) (left right : List (ℕ × C)) → IsBelow byte left
      → IsBelow byte (common_children left right)
  below-common byte [] right below = refl
  below-common byte (child ∷ left) right below =
      let parts = and_parts (is_lt (nat_cmp byte child.0)) (below_all nat_cmp byte left) below in
      let rest = below-common byte left right parts.1 in
      elim (child_at child.0 right) as (λ o. IsBelow byte
      (cons_option (with_other child.0 child.1 o) (common_children left right))) [
        | None ↦ rest
        | Some other ↦ and_from (is_lt (nat_cmp byte child.0))
            (below_all nat_cmp byte (common_children left right)) parts.0 rest
      ]

  pub ascending-common : (left right : List (ℕ × C)) → IsAscending left
      → IsAscending (common_children left right)
  ascending-common [] right ascending = refl
  ascending-common (child ∷ left) right ascending =
      let order = ascending_parts child left ascending in
      let rest = ascending-common left right order.1 in
      elim (child_at child.0 right) as (λ o. IsAscending
      (cons_option (with_other child.0 child.1 o) (common_children left right))) [
        | None ↦ rest
        | Some other ↦ ascending_from (child.0, (child.1, other)) (common_children left right)
            (below-common child.0 left right order.0) rest
      ]

  -- ---- those whose bytes are in a set
  -- all, where the set has each byte that both have
  pub where-all : (p : ℕ → Bool) (left right : List (ℕ × C))
      → ((byte : ℕ) → is_some (child_at byte left) ≡ true → is_some (child_at byte right) ≡ true
      → p byte ≡ true)
      → where_key nat_cmp p (common_children left right) ≡ common_children left right
  where-all p [] right has = refl
  where-all p (child ∷ left) right has =
      let rest = common_children left right in
      let more = where-all p left right (λ byte in_left in_right.
      has byte (some-where byte child.0 child.1 left
      ∙ or-true (byte == child.0) (is_some (child_at byte left)) in_left) in_right) in
      let P : Option C → Type 0 = λ o. child_at child.0 right ≡ o
      → where_key nat_cmp p (cons_option (with_other child.0 child.1 o) rest)
      ≡ cons_option (with_other child.0 child.1 o) rest in
      let by : (o : Option C) → P o = elim [
        | None ↦ λ is. more
        | Some other ↦ λ is.
            let here : p child.0 ≡ true =
            has child.0 (ap is_some (child_at-here child.0 child.0 child.1 left refl))
            (ap is_some is) in
            let pair : ℕ × (C × C) = (child.0, (child.1, other)) in
            ap (λ (t : Bool). cond t (pair ∷ where_key nat_cmp p rest) (where_key nat_cmp p rest))
            here
            ∙ ap (λ (pairs : List (ℕ × (C × C))). pair ∷ pairs) more
      ] in
      by (child_at child.0 right) refl
    where
      or-true : (s t : Bool) → t ≡ true → (s || t) ≡ true
      or-true true t is = refl
      or-true false t is = is

  -- The set's least byte has the first pair, and without it the others are left.
  pub where-next : (p q : ℕ → Bool) (byte : ℕ) (one other : C) (left right : List (ℕ × C))
      → IsAscending left → p byte ≡ true → ((before : ℕ) → before < byte → p before ≡ false)
      → ((any : ℕ) → q any ≡ (not (any == byte) && p any))
      → child_at byte left ≡ Some one → child_at byte right ≡ Some other
      → where_key nat_cmp p (common_children left right)
      ≡ (byte, (one, other)) ∷ where_key nat_cmp q (common_children left right)
  where-next p q byte one other [] right ascending has least without in_left in_right =
      absurd (none-some one in_left)
  where-next p q byte one other (child ∷ left) right ascending has least without in_left in_right =
      let order = ascending_parts child left ascending in
      let rest = common_children left right in
      let not_it : (any : ℕ) → any ≢ byte → p any ≡ q any = λ any differ.
      sym (without any ∙ ap (λ (t : Bool). not t && p any) (ne_eqb any byte differ)) in
      let skip : (r : ℕ → Bool) → r child.0 ≡ false
      → where_key nat_cmp r (common_children (child ∷ left) right) ≡ where_key nat_cmp r rest =
      λ r none. passed r none (child_at child.0 right) in
      elim (cases_order child.0 byte) [
        | inl same ↦
            let first : child.1 ≡ one = same_Some child.1 one
            (sym (child_at-here byte child.0 child.1 left same) ∙ in_left) in
            let found : child_at child.0 right ≡ Some other =
            ap (λ (k : ℕ). child_at k right) same ∙ in_right in
            let pair : ℕ × (C × C) = (child.0, (child.1, other)) in
            let pairs : common_children (child ∷ left) right ≡ pair ∷ rest =
            ap (λ (o : Option C). cons_option (with_other child.0 child.1 o) rest) found in
            let kept : p child.0 ≡ true = ap p same ∙ has in
            let gone : q child.0 ≡ false = ap q same ∙ (without byte
            ∙ ap (λ (t : Bool). not t && p byte) (eq-eqb byte byte refl)) in
            let later = where-same p q child.0 rest (below-common child.0 left right order.0)
            (λ any more. not_it any (omega (arith, more, same))) in
            ap (where_key nat_cmp p) pairs
            ∙ ap (λ (t : Bool). cond t (pair ∷ where_key nat_cmp p rest)
            (where_key nat_cmp p rest)) kept
            ∙ (λ i. (same i, (first i, other)) ∷ later i)
            ∙ ap (λ (pairs : List (ℕ × (C × C))). (byte, (one, other)) ∷ pairs)
            (sym (skip q gone))
        | inr (inl less) ↦
            let none : p child.0 ≡ false = least child.0 less in
            let nor : q child.0 ≡ false = sym (not_it child.0 (omega (arith, less))) ∙ none in
            let behind : child_at byte left ≡ Some one =
            sym (child_at-other byte child.0 child.1 left (omega (arith, less))) ∙ in_left in
            skip p none
            ∙ where-next p q byte one other left right order.1 has least without behind in_right
            ∙ ap (λ (pairs : List (ℕ × (C × C))). (byte, (one, other)) ∷ pairs)
            (sym (skip q nor))
        | inr (inr greater) ↦
            let none : child_at byte (child ∷ left) ≡ None =
            child_at-other byte child.0 child.1 left (omega (arith, greater))
            ∙ child_at-below byte child.0 left (omega (arith, greater)) order.0 in
            absurd (none-some one (sym none ∙ in_left))
      ]
    where
      passed : (r : ℕ → Bool) → r child.0 ≡ false → (o : Option C)
          → where_key nat_cmp r (cons_option (with_other child.0 child.1 o)
          (common_children left right)) ≡ where_key nat_cmp r (common_children left right)
      passed r none None = refl
      passed r none (Some other) =
          let rest = where_key nat_cmp r (common_children left right) in
          ap (λ (t : Bool). cond t ((child.0, (child.1, other)) ∷ rest) rest) none

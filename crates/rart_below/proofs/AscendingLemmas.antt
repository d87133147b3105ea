-- Steps of the words on children, along a list whose bytes ascend.
use Rattle.std.proofs.Common.{◌≡◌, ◌<◌, ◌≤◌, ◌≢◌, inl, inr, ℕ, zero, suc, ◌+◌, ◌-◌, Bool, true, false, cond, List, [], ◌∷◌, refl, ap, sym, ◌∙◌, arith, Option, None, Some, add-one}
use Rattle.std.specs.Prelude.{T, ◌==◌, nat_le}
use Rattle.std.specs.Ordering.{nat_cmp, eq_by_cmp, is_lt}
use Rattle.std.specs.Cmp.{nat_cmp_is, nat_cmp_total}
use Rattle.std.specs.declared.cmp.Ordering.TheVariants.{Less, Equal, Greater}
use Rattle.std.specs.FinMap.Entries.{where_key, is_sorted, below_all, is_sorted-put, is_sorted-where_key}
use Rattle.std.proofs.lemmas.Bool.{and_parts, cases_lt, cases_order}
use Rattle.std.proofs.lemmas.Bool.Decides.{nat_tests}
use Rattle.rart_below.specs.Children.{child_at, with_child, without_child, children_from, first_of, IsAscending}
use Rattle.rart_below.specs.Laws.{IsBelow, below_from}

true_from_T : (b : Bool) → T b → b ≡ true
true_from_T true h = refl
true_from_T false h = absurd h

T_from_true : (b : Bool) → b ≡ true → T b
T_from_true true e = tt
T_from_true false e = cc

less_from_is_lt : (m n : ℕ) → is_lt (nat_cmp m n) ≡ true → m < n
less_from_is_lt m n e = grind (arith, nat_tests)

module _ {C : Type 0} where
  pub below_parts : (byte : ℕ) (child : ℕ × C) (children : List (ℕ × C))
      → IsBelow byte (child ∷ children) → (byte < child.0) × IsBelow byte children
  below_parts byte child children h =
      let parts = and_parts (is_lt (nat_cmp byte child.0)) (below_all nat_cmp byte children) h in
      (less_from_is_lt byte child.0 parts.0, parts.1)

  pub ascending_parts : (child : ℕ × C) (children : List (ℕ × C)) → IsAscending (child ∷ children)
      → IsBelow child.0 children × IsAscending children
  ascending_parts child children h =
      and_parts (below_all nat_cmp child.0 children) (is_sorted nat_cmp children) h

  pub below_lower : (m n : ℕ) (children : List (ℕ × C)) → m ≤ n → IsBelow n children
      → IsBelow m children
  below_lower m n [] le h = refl
  below_lower m n (child ∷ children) le h =
      let parts = below_parts n child children h in
      below_from m child children (omega (arith, parts.0)) (below_lower m n children le parts.1)

  pub ascending-with_child : (byte : ℕ) (child : C) (children : List (ℕ × C)) → IsAscending children
      → IsAscending (with_child byte child children)
  ascending-with_child byte child children h =
      true_from_T _ (is_sorted-put nat_cmp nat_cmp_total byte child children (T_from_true _ h))

  pub ascending-where_key : (p : ℕ → Bool) (children : List (ℕ × C)) → IsAscending children
      → IsAscending (where_key nat_cmp p children)
  ascending-where_key p children h =
      true_from_T _ (is_sorted-where_key nat_cmp p children (T_from_true _ h))

  -- ---- the child under a byte, past the first entry or at it
  pub child_at-later : (byte key : ℕ) (child : C) (children : List (ℕ × C)) → key < byte
      → child_at byte ((key, child) ∷ children) ≡ child_at byte children
  child_at-later byte key child children h = grind (arith, nat_tests)

  pub child_at-here : (byte key : ℕ) (child : C) (children : List (ℕ × C)) → key ≡ byte
      → child_at byte ((key, child) ∷ children) ≡ Some child
  child_at-here byte key child children h = grind (arith, nat_tests)

  child_at-before : (byte key : ℕ) (child : C) (children : List (ℕ × C)) → byte < key
      → child_at byte ((key, child) ∷ children) ≡ child_at byte children
  child_at-before byte key child children h = grind (arith, nat_tests)

  pub child_at-below : (byte least : ℕ) (children : List (ℕ × C)) → byte ≤ least
      → IsBelow least children → child_at byte children ≡ None
  child_at-below byte least [] le h = refl
  child_at-below byte least (child ∷ children) le h =
      let parts = below_parts least child children h in
      child_at-before byte child.0 child.1 children (omega (arith, parts.0))
      ∙ child_at-below byte least children le parts.1

  -- ---- a child put under a byte
  pub with_child-later : (byte key : ℕ) (added child : C) (children : List (ℕ × C)) → key < byte
      → with_child byte added ((key, child) ∷ children)
      ≡ (key, child) ∷ with_child byte added children
  with_child-later byte key added child children h =
      let order : Greater ≡ nat_cmp byte key = nat_cmp_is byte key Greater h in rw (← order) refl

  pub with_child-before : (byte key : ℕ) (added child : C) (children : List (ℕ × C)) → byte < key
      → with_child byte added ((key, child) ∷ children) ≡ (byte, added) ∷ (key, child) ∷ children
  with_child-before byte key added child children h =
      let order : Less ≡ nat_cmp byte key = nat_cmp_is byte key Less h in rw (← order) refl

  pub with_child-here : (byte key : ℕ) (added child : C) (children : List (ℕ × C)) → byte ≡ key
      → with_child byte added ((key, child) ∷ children) ≡ (key, added) ∷ children
  with_child-here byte key added child children h =
      let order : Equal ≡ nat_cmp byte key = nat_cmp_is byte key Equal h in rw (← order) refl

  pub with_child-below : (byte : ℕ) (added : C) (children : List (ℕ × C)) → IsBelow byte children
      → with_child byte added children ≡ (byte, added) ∷ children
  with_child-below byte added [] h = refl
  with_child-below byte added (child ∷ children) h =
      with_child-before byte child.0 added child.1 children (below_parts byte child children h).0

  -- ---- the children without one byte
  pub without_child-other : (byte key : ℕ) (child : C) (children : List (ℕ × C)) → key ≢ byte
      → without_child byte ((key, child) ∷ children) ≡ (key, child) ∷ without_child byte children
  without_child-other byte key child children ne =
      let differs : (key == byte) ≡ false = grind (arith, nat_tests) in rw differs refl

  pub without_child-here : (byte key : ℕ) (child : C) (children : List (ℕ × C)) → key ≡ byte
      → without_child byte ((key, child) ∷ children) ≡ without_child byte children
  without_child-here byte key child children e =
      let equals : (key == byte) ≡ true = grind (arith, nat_tests) in rw equals refl

  pub without_child-below : (byte : ℕ) (children : List (ℕ × C)) → IsBelow byte children
      → without_child byte children ≡ children
  without_child-below byte [] h = refl
  without_child-below byte (child ∷ children) h =
      let parts = below_parts byte child children h in
      let ne : child.0 ≢ byte = omega (arith, parts.0) in
      without_child-other byte child.0 child.1 children ne
      ∙ ap (λ (rest : List (ℕ × C)). child ∷ rest) (without_child-below byte children parts.1)

  pub held_and_not : (c : C) → Some c ≢ None
  held_and_not c e = cc

  pub absent_later : (test : Bool) (c : C) (o : Option C) → cond test (Some c) o ≡ None → o ≡ None
  absent_later true c o e = cc
  absent_later false c o e = e

  -- taking out a byte that is absent
  pub without_child-absent : (byte : ℕ) (children : List (ℕ × C)) → child_at byte children ≡ None
      → without_child byte children ≡ children
  without_child-absent byte [] missing = refl
  without_child-absent byte (child ∷ children) missing =
      let differs : child.0 ≢ byte =
      λ e. held_and_not child.1 (sym (child_at-here byte child.0 child.1 children e)
      ∙ missing) in
      without_child-other byte child.0 child.1 children differs
      ∙ ap (λ (rest : List (ℕ × C)). child ∷ rest)
      (without_child-absent byte children
      (absent_later (eq_by_cmp nat_cmp byte child.0) child.1 (child_at byte children) missing))

  -- ---- the children from a byte on
  pub children_from-kept : (least : ℕ) (child : ℕ × C) (children : List (ℕ × C)) → least ≤ child.0
      → first_of (children_from least (child ∷ children)) ≡ Some child
  children_from-kept least child children le =
      let kept : nat_le least child.0 ≡ true = grind (arith, nat_tests) in rw kept refl

  pub children_from-passed : (least : ℕ) (child : ℕ × C) (children : List (ℕ × C)) → child.0 < least
      → children_from least (child ∷ children) ≡ children_from least children
  children_from-passed least child children lt =
      let passed : nat_le least child.0 ≡ false = grind (arith, nat_tests) in rw passed refl

  pub children_from-below : (least byte : ℕ) (children : List (ℕ × C)) → least ≤ suc byte
      → IsBelow byte children → children_from least children ≡ children
  children_from-below least byte [] le h = refl
  children_from-below least byte (child ∷ children) le h =
      let parts = below_parts byte child children h in
      let kept : nat_le least child.0 ≡ true = grind (arith, nat_tests, parts.0) in
      rw kept (ap (λ (rest : List (ℕ × C)). child ∷ rest)
      (children_from-below least byte children le parts.1))

  -- ---- the children from a byte on, found by asking for each byte in turn
  -- a byte with no child is passed
  next_after_absent : (byte : ℕ) (children : List (ℕ × C)) → child_at byte children ≡ None
      → children_from byte children ≡ children_from (suc byte) children
  next_after_absent byte [] missing = refl
  next_after_absent byte (child ∷ children) missing =
      let differs : child.0 ≢ byte =
      λ e. held_and_not child.1 (sym (child_at-here byte child.0 child.1 children e)
      ∙ missing) in
      let same : nat_le byte child.0 ≡ nat_le (suc byte) child.0 = grind (arith, nat_tests) in
      rw (
        same,
        next_after_absent byte children
            (absent_later (eq_by_cmp nat_cmp byte child.0) child.1
            (child_at byte children) missing),
      )
      refl

  next_at : (byte : ℕ) (found : C) (children : List (ℕ × C)) → IsAscending children
      → child_at byte children ≡ Some found
      → first_of (children_from byte children) ≡ Some (byte, found)
  next_at byte found [] order is = cc
  next_at byte found (child ∷ children) order is =
      elim (cases_order child.0 byte) [
        | inl same ↦
            let value : Some child.1 ≡ Some found =
            sym (child_at-here byte child.0 child.1 children same) ∙ is in
            let value' : child.1 ≡ found = cc in
            children_from-kept byte child children (omega arith) ∙ λ i. Some (same i, value' i)
        | inr (inl lt) ↦
            ap (λ (l : List (ℕ × C)). first_of l) (children_from-passed byte child children lt)
            ∙ next_at byte found children (ascending_parts child children order).1
            (sym (child_at-later byte child.0 child.1 children lt) ∙ is)
        | inr (inr gt) ↦
            let below =
            below_from byte child children gt
            (below_lower byte child.0 children (omega arith)
            (ascending_parts child children order).0) in
            absurd (held_and_not found (sym is
            ∙ child_at-below byte byte (child ∷ children) (omega arith) below))
      ]

  -- no child is under a byte from here on
  next_past : (from : ℕ) (children : List (ℕ × C))
      → ((byte : ℕ) → from ≤ byte → child_at byte children ≡ None)
      → children_from from children ≡ []
  next_past from [] none = refl
  next_past from (child ∷ children) none =
      elim (cases_lt child.0 from) [
        | inl lt ↦ children_from-passed from child children lt
            ∙ next_past from children (λ byte le.
            absent_later (eq_by_cmp nat_cmp byte child.0) child.1 (child_at byte children)
            (none byte le))
        | inr le ↦ absurd (held_and_not child.1
            (sym (child_at-here child.0 child.0 child.1 children refl) ∙ none child.0 le))
      ]

  -- a walk from one byte on has come to another, and found no child between them
  abbrev pub Walked : ℕ → ℕ → List (ℕ × C) → Type 0
  Walked from byte children = children_from from children ≡ children_from byte children

  pub walked_on : (from byte : ℕ) (children : List (ℕ × C)) → Walked from byte children
      → child_at byte children ≡ None → Walked from (byte + 1) children
  walked_on from byte children walked missing =
      walked ∙ (next_after_absent byte children missing
      ∙ ap (λ (n : ℕ). children_from n children) (sym (add-one byte)))

  -- the same, over many at once
  walked_by : (count from : ℕ) (children : List (ℕ × C))
      → ((byte : ℕ) → from ≤ byte → byte < from + count → child_at byte children ≡ None)
      → Walked from (from + count) children
  walked_by zero from children missing =
      let here : from ≡ from + 0 = omega arith in
      ap (λ (n : ℕ). children_from n children) here
  walked_by (suc count) from children missing =
      let next : from + count + 1 ≡ from + suc count = omega arith in
      walked_on from (from + count) children
      (walked_by count from children (λ byte le lt. missing byte le (omega (arith, lt))))
      (missing (from + count) (omega arith) (omega arith))
      ∙ ap (λ (n : ℕ). children_from n children) next

  pub walked_over : (from to : ℕ) (children : List (ℕ × C)) → from ≤ to
      → ((byte : ℕ) → from ≤ byte → byte < to → child_at byte children ≡ None)
      → Walked from to children
  walked_over from to children le missing =
      let there : from + (to - from) ≡ to = omega (arith, le) in
      walked_by (to - from) from children
      (λ byte least lt. missing byte least (omega (arith, lt, there)))
      ∙ ap (λ (n : ℕ). children_from n children) there

  pub walked_to : (from byte : ℕ) (found : C) (children : List (ℕ × C)) → Walked from byte children
      → IsAscending children → child_at byte children ≡ Some found
      → Some (byte, found) ≡ first_of (children_from from children)
  walked_to from byte found children walked order is =
      sym (ap (λ (l : List (ℕ × C)). first_of l) walked ∙ next_at byte found children order is)

  pub walked_out : (from byte : ℕ) (children : List (ℕ × C)) → Walked from byte children
      → ((later : ℕ) → byte ≤ later → child_at later children ≡ None)
      → None ≡ first_of (children_from from children)
  walked_out from byte children walked none =
      sym (ap (λ (l : List (ℕ × C)). first_of l) (walked ∙ next_past byte children none))

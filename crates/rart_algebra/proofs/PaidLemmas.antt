-- What packing a node costs, and what pays for it.
use Rattle.std.proofs.Common.{◌≡◌, ◌≤◌, ◌+◌, ◌-◌, ◌⊎◌, inl, inr, ⊎_elim, ℕ, Bool, true, false, not, ◌||◌, cond, List, [], ◌∷◌, ◌++◌, Some, None, Result, Ok, Err, IsSome, is_some, length, refl, sym, ap, subst, ◌∙◌, arith}
use Rattle.std.specs.Prelude.{T}
use Rattle.std.specs.Option.{option_and_then}
use Rattle.std.specs.Result.{IfOk, IsErr}
use Rattle.std.specs.Ordering.{nat_cmp}
use Rattle.std.specs.FinMap.Entries.{length-put}
use Rattle.std.proofs.lemmas.Bool.{false≢true}
use Rattle.std.proofs.lemmas.Cmp.{nat_cmp_total}
use Rattle.rart_below.specs.Children.{child_at, with_child}
use Rattle.rart_below.proofs.AscendingLemmas.{child_at-here}
use Rattle.rart_node.specs.Counts.{Counts, CountsUpTo}
use Rattle.rart_node.specs.Shape.{Shape, node, bare, grown, prefix_of, value_of, children_of, entries_of, with_deleted, with_replaced, entries_of-forest_of}
use Rattle.rart_node.specs.Trees.{found, IsTree, IsOrdered}
use Rattle.rart_node.proofs.FindLemmas.{ascending}
use Rattle.rart_node.proofs.InsertionLemmas.{inside}
use Rattle.rart_node.proofs.KeyLemmas.{tree-has-key}
use Rattle.rart_node.proofs.PrefixRestLemmas.{strip_prefix-own}
use Rattle.rart_ways.proofs.PlanLemmas.{forks}
use Rattle.rart_ways.proofs.RemovalLemmas.{one-less}
use Rattle.rart_algebra.specs.declared.made.Made.{Made}
use Rattle.rart_algebra.specs.declared.made.Made.TheVariants.{Same, Nothing, Node}
use Rattle.rart_algebra.specs.Ahead.{spare_of}
use Rattle.rart_algebra.specs.Parts.{losing, merges, packs, IsSettled, with_made}
use Rattle.rart_algebra.proofs.ReachLemmas.{arm-found, child-first}

-- how many children a node has lost
abbrev pub lost : {V : Type 0} → Shape V → Shape V → ℕ
lost s now = length (children_of s) - length (children_of now)

module _ {V : Type 0} where
  merges-one : (s : Shape V) → (merges s ≡ 0)
      ⊎ ((merges s ≡ 1) × (value_of s ≡ None) × (length (children_of s) ≡ 1))
  merges-one (node prefix (Some value) width forest) = inl refl
  merges-one (node prefix None width bare) = inl refl
  merges-one (node prefix None width (grown byte child bare)) = inr (refl, refl, refl)
  merges-one (node prefix None width (grown byte child (grown next other forest))) = inl refl

  pub merges-few : (s : Shape V) → merges s ≤ 1
  merges-few s =
      ⊎_elim (λ none. omega (arith, none)) (λ some. let one = some.0 in omega (arith, one))
      (merges-one s)

  -- ---- what is left where a node is made
  pub packs-key : (s : Shape V) → IsOrdered s
      → (packs s ≡ 0) ⊎ ((packs s ≡ 1) × ((key : List ℕ) × IsSome (found s (prefix_of s ++ key))))
  packs-key (node prefix (Some value) width forest) order = inr (
    refl,
    (
      [],
      ap (λ o. is_some (option_and_then (inside (Some value) forest) o))
          (strip_prefix-own prefix []),
    ),
  )
  packs-key (node prefix None width bare) order = inl refl
  packs-key (node prefix None width (grown byte child forest)) order =
      let s : Shape V = node prefix None width (grown byte child forest) in
      let key = tree-has-key child order.1.1 in
      let first = child-first child byte key.key order.1.0 key.there in
      inr (
        refl,
        (
          byte ∷ first.0,
          arm-found s child byte first.0
              (child_at-here byte byte child (entries_of forest) refl)
              (subst (λ z. IsSome (found child z)) first.1 key.there),
        ),
      )

  packs-few : (s : Shape V) → packs s ≤ 1
  packs-few (node prefix (Some value) width forest) = omega arith
  packs-few (node prefix None width bare) = omega arith
  packs-few (node prefix None width (grown byte child forest)) = omega arith

  last-one : (now : Shape V) (looked after : Counts)
      → CountsUpTo (merges now) (packs now) looked after → after.made ≤ looked.made + 1
  last-one now looked after one =
      let few = packs-few now in
      let most = one.made_at_most in
      omega (arith, few, most)

  -- ---- a merge is paid by a child that is gone, or by the value
  pub merge-paid : (s now : Shape V) (goes : Bool) → IsTree s → value_of now ≡ value_of s
      → length (children_of now) ≤ length (children_of s)
      → merges (losing goes now) + 0 ≤ cond goes 1 0 + lost s now
  merge-paid s now true tree value fewer =
      let few = merges-few (losing true now) in omega (arith, few, fewer)
  merge-paid s now false tree value fewer =
      ⊎_elim (λ none. omega (arith, none, fewer))
      (λ some.
      let is = some.0 in
      let one = some.2 in
      let two = forks s tree (sym value ∙ some.1) in
      omega (arith, is, one, two)) (merges-one now)

  -- Where nothing is left, nothing is merged.
  nothing-packs : (s : Shape V) → IsOrdered s → ((q : List ℕ) → found s q ≡ None) → packs s ≡ 0
  nothing-packs s order none =
      ⊎_elim (λ zero. zero)
      (λ some. let key = some.1 in
      absurd (false≢true (sym (ap is_some (none (prefix_of s ++ key.0))) ∙ key.1)))
      (packs-key s order)

  packs-none : (s : Shape V) → packs s ≡ 0 → (value_of s ≡ None) × (length (children_of s) ≡ 0)
  packs-none (node prefix (Some value) width forest) zero = absurd (omega (arith, zero))
  packs-none (node prefix None width bare) zero = (refl, refl)
  packs-none (node prefix None width (grown byte child forest)) zero = absurd (omega (arith, zero))

  pub nothing-paid : (s now : Shape V) (goes : Bool) → IsTree s → value_of now ≡ value_of s
      → length (children_of now) ≤ length (children_of s)
      → IsOrdered (losing goes now) → ((q : List ℕ) → found (losing goes now) q ≡ None)
      → merges (losing goes now) + 1 ≤ cond goes 1 0 + lost s now
  nothing-paid s now true tree value fewer order none =
      let zero = (packs-none (losing true now) (nothing-packs (losing true now) order none)).1 in
      ⊎_elim (λ no. omega (arith, no, fewer))
      (λ some. let one = some.2 in absurd (omega (arith, one, zero)))
      (merges-one (losing true now))
  nothing-paid s now false tree value fewer order none =
      let empty = packs-none now (nothing-packs now order none) in
      let zero = empty.1 in
      let two = forks s tree (sym value ∙ empty.0) in
      ⊎_elim (λ no. omega (arith, no, zero, two))
      (λ some. let one = some.2 in absurd (omega (arith, one, zero)))
      (merges-one now)

  -- ---- a child that has changed or gone
  deleted-less : (now child : Shape V) (byte : ℕ) → IsOrdered now
      → child_at byte (children_of now) ≡ Some child
      → 1 + length (children_of (with_deleted byte now)) ≡ length (children_of now)
  deleted-less now child byte order here = one-less now child byte (ascending now order) here

  replaced-as_many : (now child new : Shape V) (byte : ℕ) → IsOrdered now
      → child_at byte (children_of now) ≡ Some child
      → length (children_of (with_replaced byte new now)) ≡ length (children_of now)
  replaced-as_many (node prefix value width forest) child new byte order here =
      let entries = entries_of forest in
      ap length (entries_of-forest_of (with_child byte new entries))
      ∙ length-put nat_cmp nat_cmp_total byte new entries (subst T (sym order.0) tt)
      ∙ ap (λ o. cond (is_some o) (length entries) (length entries + 1)) here

  pub made-less : {P : Type 0} (E : Type 0) (made : Made P V) (now child : Shape V) (byte : ℕ)
      → IsOrdered now
      → child_at byte (children_of now) ≡ Some child
      → (length (children_of now) ≤ length (children_of (with_made byte made now))
      + spare_of {E = E} (Ok made))
      × (length (children_of (with_made byte made now)) ≤ length (children_of now))
  made-less E Same now child byte _ here = (omega arith, omega arith)
  made-less E Nothing now child byte order here =
      let less = deleted-less now child byte order here in
      (omega (arith, less), omega (arith, less))
  made-less E (Node new) now child byte order here =
      let same = replaced-as_many now child new.shape byte order here in
      (omega (arith, same), omega (arith, same))

  -- ---- whatever is answered
  pub paid-result : {P E : Type 0} (result : Result (Made P V) E) (base s now : Shape V) (goes :
      Bool)
      → IsTree s → value_of now ≡ value_of s → IsOrdered (losing goes now)
      → length (children_of now) ≤ length (children_of s)
      → IfOk result (λ made. IsSettled base (losing goes now) made)
      → merges (losing goes now) + spare_of result ≤ cond goes 1 0 + lost s now
  paid-result (Ok Same) base s now goes tree value _ fewer settled =
      merge-paid s now goes tree value fewer
  paid-result (Ok Nothing) base s now goes tree value order fewer settled =
      nothing-paid s now goes tree value fewer order settled
  paid-result (Ok (Node made)) base s now goes tree value _ fewer settled =
      merge-paid s now goes tree value fewer
  paid-result (Err refused) base s now goes tree value _ fewer settled =
      merge-paid s now goes tree value fewer

  pub err-spare : {P E : Type 0} (result : Result (Made P V) E) → IsErr result
      → spare_of result ≡ 0
  err-spare (Ok made) is = absurd (false≢true is)
  err-spare (Err refused) is = refl

  -- ---- the last node that is made
  -- It is made where something has changed.
  pub last-changed : {C : Type 0} (goes changed : Bool) (now : Shape V) (looked after : Counts)
      → CountsUpTo (merges now) (packs now) looked after
      → (goes ≡ false → changed ≡ false → after ≡ looked)
      → (goes ≡ true → C) → (changed ≡ true → C)
      → (after.made ≡ looked.made) ⊎ ((after.made ≤ looked.made + 1) × C)
  last-changed true changed now looked after one still own common =
      inr (last-one now looked after one, own refl)
  last-changed false true now looked after one still own common =
      inr (last-one now looked after one, common refl)
  last-changed false false now looked after one still own common =
      inl (ap (λ z. z.made) (still refl refl))

  -- And where a key is left.
  pub last-left : (now : Shape V) (looked after : Counts) → IsOrdered now
      → CountsUpTo (merges now) (packs now) looked after
      → (after.made ≡ looked.made) ⊎ ((after.made ≤ looked.made + 1)
      × ((key : List ℕ) × IsSome (found now (prefix_of now ++ key))))
  last-left now looked after order one =
      ⊎_elim
      (λ none.
      let least = one.made_grows in
      let most = one.made_at_most in
      inl (omega (arith, none, least, most)))
      (λ some. inr (last-one now looked after one, some.1))
      (packs-key now order)

pub or-parts : (one other : Bool) → (one || not other) ≡ true → (one ≡ true) ⊎ (other ≡ false)
or-parts true other is = inl refl
or-parts false true is = absurd (false≢true is)
or-parts false false is = inr refl

-- Pairs that ascend, and the root of a tree that was made of them.
use Rattle.std.proofs.Common.{◌≡◌, ◌<◌, ◌≤◌, inl, inr, ℕ, suc, ◌+◌, ◌-◌, ◌^◌, Bool, true, false, cond, List, [], ◌∷◌, get_or, length, refl, sym, ap, subst, ◌∙◌, ⊎_elim, arith, Option, Some, IsSome}
use Rattle.std.specs.Prelude.{All, slice_get}
use Rattle.std.specs.FinMap as finite
use Rattle.std.specs.FinMap.Entries.{below_all, find, is_sorted}
use Rattle.std.specs.FinSet as set
use Rattle.std.specs.Ordering.{is_lt}
use Rattle.std.specs.Str.{bytes_eq}
use Rattle.std.proofs.lemmas.Bool.{and_parts, and_from, cases_lt, false≢true}
use Rattle.std.proofs.lemmas.Option.{get_or_from_slice_get}
use Rattle.std.proofs.lemmas.List.{length-map}
use Rattle.std.proofs.lemmas.Map.Text.{is_eq-slice_cmp}
use Rattle.std.proofs.lemmas.Slice.Eq.{bytes_eq-Decides}
use Rattle.rart_below.specs.Bytes.{IsAdmitted, byte_order}
use Rattle.rart_below.specs.Plain.{by_bytes}
use Rattle.rart_maps.specs.Disorders.{IsDisorderAt}
use Rattle.rart_maps.specs.Order.{IsBefore}
use Rattle.rart_maps.specs.Pairs.{pairs}
use Rattle.rart_maps.specs.Points.{points}
use Rattle.rart_maps.proofs.OrderLemmas.{before-lt, lt-before}
use Rattle.rart_node.specs.Nodes.{nodes_of}
use Rattle.rart_node.specs.Shape.{Shape}
use Rattle.rart_node.specs.Trees.{IsTree, pairs_of}
use Rattle.rart_node.proofs.PairLemmas.{find-pairs}
use Rattle.rart_walks.proofs.CursorLemmas.{nodes-paths}
use Rattle.rart_ways.specs.Runs.{AllLong}
use Rattle.rart_ways.proofs.NodeRunLemmas.{pair-at}
use Rattle.rart_versioned.specs.Keys.{IsKey}
use Rattle.rart_versioned.specs.Roots.{IsSound, map_of}
use Rattle.rart_versioned.specs.Sorted.{AscendTo}
use Rattle.rart_versioned.proofs.NodePointLemmas.{nodes-points}
use Rattle.rart_versioned.proofs.VersionMapLemmas.{get-found, pairs-map}

before-later : (u w k : List ℕ) → IsBefore u w → IsBefore w k → IsBefore u k
before-later u [] k low high = absurd low
before-later u (c ∷ w) [] low high = absurd high
before-later [] (c ∷ w) (d ∷ k) low high = tt
before-later (b ∷ u) (c ∷ w) (d ∷ k) low high =
    ⊎_elim
    (λ less. ⊎_elim
    (λ more. inl (omega (arith, less, more)))
    (λ same. let is = same.0 in inl (omega (arith, less, is)))
    high)
    (λ same. let is = same.0 in ⊎_elim
    (λ more. inl (omega (arith, more, is)))
    (λ also. inr (is ∙ also.0, before-later u w k same.1 also.1))
    high)
    low

module _ {V : Type 0} where
  below-lower : (u w : List ℕ) (l : List (List ℕ × V)) → IsBefore u w
      → below_all byte_order w l ≡ true → below_all byte_order u l ≡ true
  below-lower u w [] before below = refl
  below-lower u w (p ∷ l) before below =
      let parts = and_parts (is_lt (byte_order w p.0)) (below_all byte_order w l) below in
      and_from (is_lt (byte_order u p.0)) (below_all byte_order u l)
      (before-lt u p.0 (before-later u w p.0 before (lt-before w p.0 parts.0)))
      (below-lower u w l before parts.1)

module _ {K V : Type 0} (bytes : K → List ℕ) where
  ascend-later : (most : Option ℕ) (x : K × V) (items : List (K × V))
      → AscendTo bytes most (length (x ∷ items)) (x ∷ items)
      → AscendTo bytes most (length items) items
  ascend-later most x items a = record {
    ascend = λ i p q lt first second.
        a.ascend (suc i) p q (omega (arith, lt)) first
        (let next : suc i + 1 ≡ suc (i + 1) = omega arith in
        ap (slice_get (x ∷ items)) next ∙ second);
    keys = λ i p lt read. a.keys (suc i) p (omega (arith, lt)) read;
  }

  pub ascend-sorted : (most : Option ℕ) (items : List (K × V))
      → AscendTo bytes most (length items) items
      → is_sorted byte_order (by_bytes bytes items) ≡ true
  ascend-sorted most [] a = refl
  ascend-sorted most (x ∷ []) a = refl
  ascend-sorted most (x ∷ y ∷ items) a =
      let later = ascend-sorted most (y ∷ items) (ascend-later most x (y ∷ items) a) in
      let first = a.ascend 0 x y (omega arith) refl refl in
      let below =
      (and_parts (below_all byte_order (bytes y.0) (by_bytes bytes items))
      (is_sorted byte_order (by_bytes bytes items)) later).0 in
      and_from (below_all byte_order (bytes x.0) (by_bytes bytes (y ∷ items)))
      (is_sorted byte_order (by_bytes bytes (y ∷ items)))
      (and_from (is_lt (byte_order (bytes x.0) (bytes y.0)))
      (below_all byte_order (bytes x.0) (by_bytes bytes items))
      (before-lt (bytes x.0) (bytes y.0) first)
      (below-lower (bytes x.0) (bytes y.0) (by_bytes bytes items) first below))
      later

  found-key : (most : Option ℕ) (items : List (K × V)) → AscendTo bytes most (length items) items
      → (q : List ℕ) → IsSome (find byte_order q (by_bytes bytes items)) → IsKey most q
  found-key most [] a q there = absurd (false≢true there)
  found-key most (x ∷ items) a q there =
      let Keys : Bool → Type 0 = λ t. bytes_eq q (bytes x.0) ≡ t
      → IsSome (cond t (Some x.1) (find byte_order q (by_bytes bytes items))) → IsKey most q in
      let both : (t : Bool) → Keys t = elim [
        | true ↦ (λ same there. subst (IsKey most) (sym ((bytes_eq-Decides q (bytes x.0)).0 same))
            (a.keys 0 x (omega arith) refl))
        | false ↦ (λ differs there. found-key most items (ascend-later most x items a) q there)
      ] in
      both (bytes_eq q (bytes x.0)) refl
      (subst (λ t. IsSome (cond t (Some x.1) (find byte_order q (by_bytes bytes items))))
      (is_eq-slice_cmp q (bytes x.0)) there)

  pub long-none : (items : List (K × V)) → AllLong bytes 0 items
  long-none [] = tt
  long-none (x ∷ items) = (omega arith, long-none items)

  -- ---- the root of such a tree
  module _ (most : Option ℕ) (number : ℕ) (items : List (K × V)) (root : Shape V)
      (tree : IsTree root) (is : pairs_of root ≡ by_bytes bytes items) where
    pub pairs-root : pairs (map_of (Some root)) ≡ by_bytes bytes items
    pairs-root = pairs-map (Some root) tree ∙ is

    pub sound-root : AscendTo bytes most (length items) items → length items ≤ number
        → IsSound most number (Some root)
    sound-root a few = (
      tree,
      λ q there. found-key most items a q
          (subst IsSome (sym (find-pairs root q tree) ∙ ap (find byte_order q) is) there),
      let long : finite.len (map_of (Some root)) ≡ length items =
          finite.len-entries (map_of (Some root)) ∙ ap length pairs-root
          ∙ length-map {B = List ℕ × V} items (λ (pair : K × V). (bytes pair.0, pair.1)) in
          omega (arith, long, few),
    )

    pub points-root : set.len (points (map_of (Some root))) ≡ nodes_of root
    points-root =
        nodes-points (map_of (Some root)) root tree (λ q. get-found (Some root) q tree)
        ∙ nodes-paths root

  -- ---- two keys that stand side by side
  pub record Compared (at : ℕ) (items : List (K × V)) (answer : Bool) : Type 0 where
    pub ascend : answer ≡ true → (i : ℕ) (p q : K × V) → i + 1 ≡ at
        → slice_get items i ≡ Some p → slice_get items at ≡ Some q
        → IsBefore (bytes p.0) (bytes q.0)
    pub disorder : answer ≡ false → IsDisorderAt bytes at items

  pub compared : (at : ℕ) (items : List (K × V)) (x y : K × V) (left right : List ℕ)
      (answer : Bool) → at < length items → (at ≡ 0 → ⊥)
      → left ≡ bytes (get_or items (at - 1) x).0 → right ≡ bytes (get_or items at y).0
      → answer ≡ is_lt (byte_order left right) → Compared at items answer
  compared at items x y left right answer lt some left_is right_is is =
      let orders : (p q : K × V) → slice_get items (at - 1) ≡ Some p → slice_get items at ≡ Some q
      → answer ≡ is_lt (byte_order (bytes p.0) (bytes q.0)) =
      λ p q first second.
      let low = left_is ∙ ap (λ (pair : K × V). bytes pair.0)
      (get_or_from_slice_get items (at - 1) p x first) in
      let high = right_is ∙ ap (λ (pair : K × V). bytes pair.0)
      (get_or_from_slice_get items at q y second) in
      is ∙ (λ i. is_lt (byte_order (low i) (high i))) in
      record {
        ascend = λ yes i p q next first second.
            let place : i ≡ at - 1 = omega (arith, next) in
            lt-before (bytes p.0) (bytes q.0)
            (sym (orders p q (ap (slice_get items) (sym place) ∙ first) second) ∙ yes);
        disorder = λ no.
            let p = pair-at bytes (at - 1) items (omega (arith, lt, some)) in
            let q = pair-at bytes at items lt in (
              at - 1,
              p.0,
              q.0,
              omega (arith, some),
              p.1,
              q.1,
              λ before. false≢true (sym no ∙ orders p.0 q.0 p.1 q.1
                  ∙ before-lt (bytes p.0.0) (bytes q.0.0) before),
            );
      }

  pub key-at : (most : Option ℕ) (at : ℕ) (items : List (K × V)) (x : K × V) (key : List ℕ)
      → ((k : K) → IsAdmitted most (length (bytes k))) → key ≡ bytes (get_or items at x).0
      → length key < 2 ^ 64 → All (λ b. b < 256) key → (q : K × V) → slice_get items at ≡ Some q
      → IsKey most (bytes q.0)
  key-at most at items x key admitted is long all q read =
      let same = is ∙ ap (λ (pair : K × V). bytes pair.0) (get_or_from_slice_get items at q x read) in (
        (admitted q.0, subst (λ k. length k < 2 ^ 64) same long),
        subst (All (λ b. b < 256)) same all,
      )

  -- ---- one more key
  pub ascend-none : (most : Option ℕ) (items : List (K × V)) → AscendTo bytes most 0 items
  ascend-none most items = record {
    ascend = λ i p q lt. absurd (omega (arith, lt));
    keys = λ i p lt. absurd (omega (arith, lt));
  }

  pub ascend-more : (most : Option ℕ) (at : ℕ) (items : List (K × V)) → AscendTo bytes most at items
      → ((i : ℕ) (p q : K × V) → i + 1 ≡ at → slice_get items i ≡ Some p
      → slice_get items at ≡ Some q → IsBefore (bytes p.0) (bytes q.0))
      → ((q : K × V) → slice_get items at ≡ Some q → IsKey most (bytes q.0))
      → AscendTo bytes most (at + 1) items
  ascend-more most at items a next key = record {
    ascend = λ i p q lt first second.
        ⊎_elim
        (λ early. a.ascend i p q early first second)
        (λ late.
        let is : i + 1 ≡ at = omega (arith, lt, late) in
        next i p q is first (ap (slice_get items) (sym is) ∙ second))
        (cases_lt (i + 1) at);
    keys = λ i p lt read.
        ⊎_elim
        (λ early. a.keys i p early read)
        (λ late.
        let is : i ≡ at = omega (arith, lt, late) in
        key p (ap (slice_get items) (sym is) ∙ read))
        (cases_lt i at);
  }

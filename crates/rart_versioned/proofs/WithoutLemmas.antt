-- The pairs of a map without one of its keys.
use Rattle.std.proofs.Common.{T, ◌≡◌, ℕ, true, false, cond, List, [], ◌∷◌, ◌++◌, Some, None, refl, sym, ap, subst, ◌∙◌}
use Rattle.std.specs.FinMap as finite
use Rattle.std.specs.FinMap.Entries.{below_all, find, is_sorted}
use Rattle.std.specs.Option.{is_some}
use Rattle.std.specs.Ordering.{eq_by_cmp, is_eq, is_lt}
use Rattle.std.specs.Prelude.{Contains}
use Rattle.std.specs.declared.cmp.Ordering.TheVariants.{Less, Equal, Greater}
use Rattle.std.proofs.lemmas.Bool.{and_from, and_parts, false≢true}
use Rattle.std.proofs.lemmas.Cmp.{nat_list_cmp_total}
use Rattle.std.proofs.lemmas.List.Elements.{Contains-append_right}
use Rattle.rart_below.specs.Bytes.{byte_order}
use Rattle.rart_maps.specs.Pairs.{pairs}
use Rattle.rart_maps.specs.Versions.{Map, Version, has_key}
use Rattle.rart_maps.proofs.ElementLemmas.{Contains-here}
use Rattle.rart_maps.proofs.FoundLemmas.{Contains-pairs}
use Rattle.rart_maps.proofs.OrderLemmas.{byte_order-IsAntisymmetric}
use Rattle.rart_maps.proofs.PairLawLemmas.{pairs_ascend}
use Rattle.rart_maps.proofs.VersionLemmas.{same_key}
use Rattle.rart_versioned.proofs.UnversionedLemmas.{found-above}

module _ {V : Type 0} (key : List ℕ) (x : V) (rest : List (List ℕ × V)) where
  below-without : (low : List ℕ) (front : List (List ℕ × V))
      → below_all byte_order low (front ++ (key, x) ∷ rest) ≡ true
      → (is_lt (byte_order low key) ≡ true)
      × (below_all byte_order low (front ++ rest) ≡ true)
  below-without low [] below =
      and_parts (is_lt (byte_order low key)) (below_all byte_order low rest) below
  below-without low (pair ∷ front) below =
      let parts = and_parts (is_lt (byte_order low pair.0))
      (below_all byte_order low (front ++ (key, x) ∷ rest)) below in
      let later = below-without low front parts.1 in (
        later.0,
        and_from (is_lt (byte_order low pair.0))
            (below_all byte_order low (front ++ rest)) parts.0 later.1,
      )

  sorted-without : (front : List (List ℕ × V))
      → is_sorted byte_order (front ++ (key, x) ∷ rest) ≡ true
      → is_sorted byte_order (front ++ rest) ≡ true
  sorted-without [] sorted =
      (and_parts (below_all byte_order key rest) (is_sorted byte_order rest) sorted).1
  sorted-without (pair ∷ front) sorted =
      let parts = and_parts (below_all byte_order pair.0 (front ++ (key, x) ∷ rest))
      (is_sorted byte_order (front ++ (key, x) ∷ rest)) sorted in
      and_from (below_all byte_order pair.0 (front ++ rest)) (is_sorted byte_order (front ++ rest))
      (below-without pair.0 front parts.0).1 (sorted-without front parts.1)

  less-apart : (q low : List ℕ) → is_lt (byte_order low key) ≡ true
      → eq_by_cmp byte_order q low ≡ true → eq_by_cmp byte_order q key ≡ false
  less-apart q low less same =
      subst (λ k. eq_by_cmp byte_order k key ≡ false) (sym (same_key q low same))
      (elim (byte_order low key) as (λ r. is_lt r ≡ true → is_eq r ≡ false) [
        | Less ↦ λ _. refl
        | Equal ↦ λ less. absurd (false≢true less)
        | Greater ↦ λ less. refl
      ] less)

  -- What is found in it: all but the one.
  find-without : (q : List ℕ) (front : List (List ℕ × V))
      → is_sorted byte_order (front ++ (key, x) ∷ rest) ≡ true
      → find byte_order q (front ++ rest)
      ≡ cond (eq_by_cmp byte_order q key) None (find byte_order q (front ++ (key, x) ∷ rest))
  find-without q [] sorted =
      let above = (and_parts (below_all byte_order key rest) (is_sorted byte_order rest) sorted).0 in
      elim (eq_by_cmp byte_order q key) as (λ t. eq_by_cmp byte_order q key ≡ t
      → find byte_order q rest ≡ cond t None (cond t (Some x) (find byte_order q rest))) [
        | true ↦ λ same. ap (λ k. find byte_order k rest) (same_key q key same)
            ∙ found-above key rest above
        | false ↦ λ _. refl
      ] refl
  find-without q (pair ∷ front) sorted =
      let parts = and_parts (below_all byte_order pair.0 (front ++ (key, x) ∷ rest))
      (is_sorted byte_order (front ++ (key, x) ∷ rest)) sorted in
      let less = (below-without pair.0 front parts.0).0 in
      let later = find-without q front parts.1 in
      elim (eq_by_cmp byte_order q pair.0) as (λ t. eq_by_cmp byte_order q pair.0 ≡ t
      → cond t (Some pair.1) (find byte_order q (front ++ rest))
      ≡ cond (eq_by_cmp byte_order q key) None
      (cond t (Some pair.1) (find byte_order q (front ++ (key, x) ∷ rest)))) [
        | true ↦ λ same.
            ap (λ t. cond t None (Some pair.1)) (sym (less-apart q pair.0 less same))
        | false ↦ λ _. later
      ] refl

module _ {V : Type 0} where
  pairs-sorted : (m : Map V) → is_sorted byte_order (pairs m) ≡ true
  pairs-sorted m = pairs_ascend V m

  -- Without one of its keys a map has the pairs before it and those behind.
  pub pairs-without : (m : Map V) (front : List (List ℕ × V)) (key : List ℕ) (x : V)
      (rest : List (List ℕ × V)) → pairs m ≡ front ++ (key, x) ∷ rest
      → pairs (finite.remove m key) ≡ front ++ rest
  pairs-without m front key x rest are =
      let sorted = subst (λ list. is_sorted byte_order list ≡ true) are (pairs-sorted m) in
      let left = sorted-without key x rest front sorted in
      let made : Map V = finite.from_sorted (front ++ rest) in
      let is = subst T (sym left) tt in
      ap pairs (finite.same_map nat_list_cmp_total byte_order-IsAntisymmetric
      (finite.remove m key) made (λ q.
      finite.get-remove nat_list_cmp_total m key q
      ∙ ap (λ found. cond (eq_by_cmp byte_order q key) None found)
      (finite.get-entries m q ∙ ap (find byte_order q) are)
      ∙ sym (find-without key x rest q front sorted)
      ∙ sym (finite.get-from_sorted byte_order (front ++ rest) q is)))
      ∙ finite.entries-from_sorted byte_order (front ++ rest) is

  pub key-there : (v : Version V) (front : List (List ℕ × V)) (key : List ℕ) (x : V)
      (rest : List (List ℕ × V)) → pairs v.content ≡ front ++ (key, x) ∷ rest
      → has_key v key ≡ true
  key-there v front key x rest are =
      ap is_some ((Contains-pairs v.content key x).0
      (subst (λ list. Contains list (key, x)) (sym are)
      (Contains-append_right front ((key, x) ∷ rest) (key, x) (Contains-here (key, x) rest))))

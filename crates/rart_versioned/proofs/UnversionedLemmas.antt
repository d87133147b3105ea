-- Pairs that are put into a map one after the other.
use Rattle.std.proofs.Common.{◌≡◌, ℕ, List, [], ◌∷◌, length, true, cond, Option, Some, None, refl, sym, ap, ◌∙◌}
use Rattle.std.specs.Ordering.{is_eq, is_lt}
use Rattle.std.specs.declared.cmp.Ordering.TheVariants.{Less, Equal, Greater}
use Rattle.std.specs.Cmp.Lexicographic.{nat_list_cmp_total}
use Rattle.std.specs.FinMap as finite
use Rattle.std.specs.FinMap.Entries.{below_all, find, is_sorted}
use Rattle.std.proofs.lemmas.Bool.{and_parts, false≢true}
use Rattle.rart_below.specs.Bytes.{byte_order}
use Rattle.rart_below.specs.Plain.{put_all}
use Rattle.rart_maps.specs.Pairs.{pairs}
use Rattle.rart_maps.specs.Versions.{Map}
use Rattle.rart_maps.proofs.OrderLemmas.{byte_order-IsAntisymmetric}
use Rattle.rart_maps.proofs.PairLawLemmas.{pairs_ascend}

module _ {V : Type 0} where
  -- the first of two answers that is one
  abbrev or_else : Option V → Option V → Option V
  or_else (Some x) other = Some x
  or_else None other = other

  -- A key that is below all is not found.
  pub found-above : (key : List ℕ) (list : List (List ℕ × V)) → below_all byte_order key list ≡ true →
      find byte_order key list ≡ None
  found-above key [] above = refl
  found-above key (pair ∷ list) above =
      let parts =
      and_parts (is_lt (byte_order key pair.0)) (below_all byte_order key list) above in
      elim (byte_order key pair.0) as (λ r. is_lt r ≡ true →
      cond (is_eq r) (Some pair.1) (find byte_order key list) ≡ None) [
        | Less ↦ λ less. found-above key list parts.1
        | Equal ↦ λ less. absurd (false≢true less)
        | Greater ↦ λ less. absurd (false≢true less)
      ] parts.0

  -- A value that is put in is found where none behind it has its key.
  get-put : (m : Map V) (pair : List ℕ × V) (list : List (List ℕ × V)) (q : List ℕ) →
      below_all byte_order pair.0 list ≡ true →
      or_else (find byte_order q list) (finite.get (finite.insert m pair.0 pair.1) q)
      ≡ or_else (find byte_order q (pair ∷ list)) (finite.get m q)
  get-put m pair list q above =
      ap (or_else (find byte_order q list)) (finite.get-insert nat_list_cmp_total m pair.0 pair.1 q)
      ∙ elim (byte_order q pair.0) as (λ r. byte_order q pair.0 ≡ r →
      or_else (find byte_order q list) (cond (is_eq r) (Some pair.1) (finite.get m q))
      ≡ or_else (cond (is_eq r) (Some pair.1) (find byte_order q list)) (finite.get m q)) [
        | Less ↦ λ is. refl
        | Equal ↦ λ is.
            ap (λ found. or_else found (Some pair.1))
            (ap (λ key. find byte_order key list) (byte_order-IsAntisymmetric q pair.0 is)
            ∙ found-above pair.0 list above)
        | Greater ↦ λ is. refl
      ] refl

  get-put_all : (m : Map V) (list : List (List ℕ × V)) (q : List ℕ) →
      is_sorted byte_order list ≡ true →
      finite.get (put_all m list) q ≡ or_else (find byte_order q list) (finite.get m q)
  get-put_all m [] q sorted = refl
  get-put_all m (pair ∷ list) q sorted =
      let parts =
      and_parts (below_all byte_order pair.0 list) (is_sorted byte_order list) sorted in
      get-put_all (finite.insert m pair.0 pair.1) list q parts.1
      ∙ get-put m pair list q parts.0

  or_else-none : (found : Option V) → or_else found None ≡ found
  or_else-none (Some x) = refl
  or_else-none None = refl

  -- The pairs of a map, put into the empty one, make it again.
  pub put_all-pairs : (m : Map V) → put_all finite.empty (pairs m) ≡ m
  put_all-pairs m =
      finite.same_map nat_list_cmp_total byte_order-IsAntisymmetric
      (put_all finite.empty (pairs m)) m (λ q.
      get-put_all finite.empty (pairs m) q (pairs_ascend V m)
      ∙ ap (or_else (find byte_order q (pairs m))) (finite.get-empty byte_order q)
      ∙ or_else-none (find byte_order q (pairs m))
      ∙ sym (finite.get-entries m q))

  -- how many pairs are still to come
  abbrev pub count_left : Option (List (List ℕ × V)) → ℕ
  count_left None = 0
  count_left (Some left) = length left

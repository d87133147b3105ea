-- The value of a key in a version that was changed.
use Rattle.std.proofs.Common.{◌≡◌, ◌≢◌, ℕ, true, false, List, refl, ap, ◌∙◌, cond}
use Rattle.std.specs.Prelude.{Some, None}
use Rattle.std.specs.FinMap as finite
use Rattle.std.specs.Ordering.{is_eq, eq_by_cmp}
use Rattle.std.specs.Cmp.{tied_itself}
use Rattle.std.proofs.lemmas.Cmp.{nat_list_cmp_total}
use Rattle.std.proofs.lemmas.Map.Views.{tells_apart}
use Rattle.rart_below.specs.Bytes.{byte_order}
use Rattle.rart_maps.specs.Versions.{Version, value_at, with_key, without_key}

pub same_key : (q w : List ℕ) → eq_by_cmp byte_order q w ≡ true → q ≡ w
same_key = tells_apart (finite.slice_cmp-IsAntisymmetric finite.nat_cmp-IsAntisymmetric)

-- what a choice by equal keys is where they are not
chosen : {A : Type 0} (q w : List ℕ) → q ≢ w → (x y : A) → cond (eq_by_cmp byte_order q w) x y ≡ y
chosen q w apart x y =
    elim (eq_by_cmp byte_order q w) as (λ t. eq_by_cmp byte_order q w ≡ t → cond t x y ≡ y) [
      | true ↦ λ same. absurd (apart (same_key q w same))
      | false ↦ λ _. refl
    ] refl

module _ {V : Type 0} where
  -- A key that was set has the value.
  pub value_at-with_key : (v : Version V) (w : List ℕ) (x : V) (more : ℕ)
      → value_at (with_key v w x more) w ≡ Some x
  value_at-with_key v w x more =
      finite.get-insert nat_list_cmp_total v.content w x w
      ∙ ap (λ o. cond (is_eq o) (Some x) (value_at v w)) (tied_itself nat_list_cmp_total w)

  -- Each other key has what it had.
  pub value_at-with_other_key : (v : Version V) (w : List ℕ) (x : V) (more : ℕ) (q : List ℕ) → q ≢ w
      → value_at (with_key v w x more) q ≡ value_at v q
  value_at-with_other_key v w x more q apart =
      finite.get-insert nat_list_cmp_total v.content w x q
      ∙ chosen q w apart (Some x) (value_at v q)

  -- A key that was taken out has none.
  pub value_at-without_key : (v : Version V) (w : List ℕ) (more : ℕ)
      → value_at (without_key v w more) w ≡ None
  value_at-without_key v w more =
      finite.get-remove nat_list_cmp_total v.content w w
      ∙ ap (λ o. cond (is_eq o) None (value_at v w)) (tied_itself nat_list_cmp_total w)

  -- Each other key has what it had.
  pub value_at-without_other_key : (v : Version V) (w : List ℕ) (more : ℕ) (q : List ℕ) → q ≢ w
      → value_at (without_key v w more) q ≡ value_at v q
  value_at-without_other_key v w more q apart =
      finite.get-remove nat_list_cmp_total v.content w q ∙ chosen q w apart None (value_at v q)

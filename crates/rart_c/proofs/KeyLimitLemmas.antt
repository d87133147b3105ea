-- How long the keys are that a change leaves.
use Rattle.std.proofs.Common.{◌≡◌, ◌∙◌, ◌≤◌, ◌==◌, ℕ, List, IsTrue, None, Some, ap, arith, cond, false, is_some, length, refl, subst, sym, true}
use Rattle.std.proofs.lemmas.Bool.Decides.{nat_tests}
use Rattle.std.proofs.lemmas.Cmp.{nat_list_cmp_total}
use Rattle.std.specs.FinMap as finite
use Rattle.std.specs.Ordering.{eq_by_cmp}
use Rattle.rart_below.specs.Bytes.{byte_order}
use Rattle.rart_c.specs.Trees.{KeepsLimit}
use Rattle.rart_maps.proofs.VersionLemmas.{same_key}
use Rattle.rart_maps.specs.Changes.{after_removal}
use Rattle.rart_maps.specs.Versions.{Version, empty_at, has_key, has_no_key, value_at, with_key, without_key}

zero_of : (n : ℕ) → (n == 0) ≡ true → n ≡ 0
zero_of n is = grind (arith, nat_tests)

module _ {V : Type 0} (longest : ℕ) where
  abbrev Keeps : Version V → Type 0
  Keeps version = KeepsLimit (record { version = version; longest = longest })

  pub KeepsLimit-empty : (number : ℕ) (version : Version V) → version ≡ empty_at number
      → Keeps version
  KeepsLimit-empty number version is =
      subst Keeps (sym is) (λ key there.
      let wrong : false ≡ true = sym (ap is_some (finite.get-empty {X = V} byte_order key)) ∙ there
      in cc)

  pub KeepsLimit-no_key : (version : Version V) → IsTrue (has_no_key version) → Keeps version
  KeepsLimit-no_key version none key there =
      let is = finite.empty_of_len version.content (zero_of (finite.len version.content) none) in
      let wrong : false ≡ true =
      sym (ap is_some (ap (λ m. finite.get m key) is
      ∙ finite.get-empty {X = V} byte_order key)) ∙ there in
      cc

  module _ (before : Version V) (w : List ℕ) (limit : Keeps before) where
    pub KeepsLimit-with_key : (x : V) → length w ≤ longest → (after : Version V)
        → after ≡ with_key before w x 1 → Keeps after
    KeepsLimit-with_key x short after is =
        subst Keeps (sym is) (λ key there.
        elim (eq_by_cmp byte_order key w) as (λ t. eq_by_cmp byte_order key w ≡ t
        → length key ≤ longest) [
          | true ↦ λ same. subst (λ k. length k ≤ longest) (sym (same_key key w same)) short
          | false ↦ λ apart. limit key
              (sym (ap is_some (finite.get-insert nat_list_cmp_total before.content w x key
              ∙ ap (λ t. cond t (Some x) (value_at before key)) apart)) ∙ there)
        ] refl)

    without : Keeps (without_key before w 1)
    without key there =
        elim (eq_by_cmp byte_order key w) as (λ t. eq_by_cmp byte_order key w ≡ t
        → length key ≤ longest) [
          | true ↦ λ same.
              let wrong : false ≡ true =
              sym (ap is_some (finite.get-remove nat_list_cmp_total before.content w key
              ∙ ap (λ t. cond t None (value_at before key)) same)) ∙ there in
              cc
          | false ↦ λ apart. limit key
              (sym (ap is_some (finite.get-remove nat_list_cmp_total before.content w key
              ∙ ap (λ t. cond t None (value_at before key)) apart)) ∙ there)
        ] refl

    pub KeepsLimit-after_removal : (after : Version V) → after ≡ after_removal before w
        → Keeps after
    KeepsLimit-after_removal after is =
        subst Keeps (sym is) (elim (has_key before w) as (λ b.
        Keeps (cond b (without_key before w 1) before)) [
          | true ↦ without
          | false ↦ limit
        ])

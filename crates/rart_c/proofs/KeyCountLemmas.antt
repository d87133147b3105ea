-- How many keys a change leaves.
use Rattle.std.proofs.Common.{◌≡◌, ◌∙◌, ◌≤◌, ◌+◌, ◌-◌, ℕ, List, Option, true, false, ap, arith, cond, is_some, refl, sym, zero, suc}
use Rattle.std.proofs.lemmas.Cmp.{nat_list_cmp_total}
use Rattle.std.specs.FinMap as finite
use Rattle.rart_below.specs.Bytes.{byte_order}
use Rattle.rart_maps.specs.Changes.{after_removal}
use Rattle.rart_maps.specs.Versions.{Version, value_at, with_key, without_key}

module _ {V : Type 0} (before : Version V) (w : List ℕ) (was : Option V) where
  pub a-key : was ≡ value_at before w → is_some was ≡ true → 1 ≤ finite.len before.content
  a-key is one = more (finite.len before.content) refl
    where
      more : (n : ℕ) → finite.len before.content ≡ n → 1 ≤ n
      more zero none =
          let missing : is_some (value_at before w) ≡ false =
          ap (λ m. is_some (finite.get m w)) (finite.empty_of_len before.content none)
          ∙ ap is_some (finite.get-empty {X = V} byte_order w) in
          let wrong : true ≡ false = sym one ∙ ap is_some is ∙ missing in
          cc
      more (suc n) none = omega arith

module _ {V : Type 0} (before after : Version V) (w : List ℕ) (was : Option V) where
  module _ (x : V) (changes : (was ≡ value_at before w) × (after ≡ with_key before w x 1)) where
    set : finite.len after.content
        ≡ cond (is_some was) (finite.len before.content) (finite.len before.content + 1)
    set =
        ap (λ v. finite.len v.content) changes.1
        ∙ finite.len-insert nat_list_cmp_total before.content w x
        ∙ ap (λ f. cond (is_some f) (finite.len before.content) (finite.len before.content + 1))
        (sym changes.0)

    pub one-more : is_some was ≡ false → finite.len before.content + 1 ≡ finite.len after.content
    one-more none =
        sym (set ∙ ap (λ b. cond b (finite.len before.content)
        (finite.len before.content + 1)) none)

    pub as-many : is_some was ≡ true → finite.len before.content ≡ finite.len after.content
    as-many one =
        sym (set ∙ ap (λ b. cond b (finite.len before.content) (finite.len before.content + 1)) one)

  pub one-less : (was ≡ value_at before w) × (after ≡ after_removal before w) → is_some was ≡ true
      → finite.len before.content - 1 ≡ finite.len after.content
  one-less changes one =
      let there : is_some (value_at before w) ≡ true = ap is_some (sym changes.0) ∙ one in
      sym (ap (λ v. finite.len v.content) changes.1
      ∙ ap (λ b. finite.len (cond b (without_key before w 1) before).content) there
      ∙ finite.len-remove nat_list_cmp_total before.content w
      ∙ ap (λ b. cond b (finite.len before.content - 1) (finite.len before.content)) there)

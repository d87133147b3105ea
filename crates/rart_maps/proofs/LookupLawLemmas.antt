-- What look-ups find after a change fixes the map.
use Rattle.std.proofs.Common.{◌≡◌, ◌≢◌, ℕ, List, Option, Some, None, true, false, refl, ap, sym, subst, ◌∙◌}
use Rattle.std.specs.FinMap as finite
use Rattle.std.specs.Ordering.{is_eq, eq_by_cmp}
use Rattle.std.specs.Cmp.{tied_itself}
use Rattle.std.proofs.lemmas.Cmp.{nat_list_cmp_total}
use Rattle.rart_below.specs.Bytes.{byte_order}
use Rattle.rart_maps.specs.Changes.{slot_update}
use Rattle.rart_maps.specs.LookupLaws.{EmptyLacksAll, SetsFixTheMap, SlotsHaveTheirValue, UpdatesSetWhatIsLeft}
use Rattle.rart_maps.specs.Lookups.{Sets, with_value}
use Rattle.rart_maps.specs.Versions.{Map}
use Rattle.rart_maps.proofs.LookupLemmas.{updated-sets, value_in-slot_of}
use Rattle.rart_maps.proofs.OrderLemmas.{byte_order-IsAntisymmetric}
use Rattle.rart_maps.proofs.VersionLemmas.{same_key, value_at-with_key, value_at-with_other_key, value_at-without_key, value_at-without_other_key}

is-same : (w : List ℕ) → eq_by_cmp byte_order w w ≡ true
is-same w = ap is_eq (tied_itself nat_list_cmp_total w)

is-other : (q w : List ℕ) → eq_by_cmp byte_order q w ≡ false → q ≢ w
is-other q w apart same = cc
    (sym (is-same w) ∙ ap (λ k. eq_by_cmp byte_order k w) (sym same) ∙ apart)

module _ {V : Type 0} where
  -- Maps that have the same at one key, and at each other key, are the same.
  same-by-lookups : (m n : Map V) (w : List ℕ) → finite.get m w ≡ finite.get n w
      → ((q : List ℕ) → q ≢ w → finite.get m q ≡ finite.get n q) → m ≡ n
  same-by-lookups m n w at others =
      finite.same_map nat_list_cmp_total byte_order-IsAntisymmetric m n (λ q.
      elim (eq_by_cmp byte_order q w)
      as (λ t. eq_by_cmp byte_order q w ≡ t → finite.get m q ≡ finite.get n q) [
        | true ↦ λ same. subst (λ k. finite.get m k ≡ finite.get n k) (sym (same_key q w same)) at
        | false ↦ λ apart. others q (is-other q w apart)
      ] refl)

  -- the map with the value at the key has it there, and elsewhere what it had
  with_value-sets : (m : Map V) (number : ℕ) (w : List ℕ) (value : Option V)
      → Sets (record { content = m; number = number })
      (record { content = with_value m w value; number = number }) w value
  with_value-sets m number w (Some x) = (
    value_at-with_key (record { content = m; number = number }) w x 0,
    value_at-with_other_key (record { content = m; number = number }) w x 0,
  )
  with_value-sets m number w None = (
    value_at-without_key (record { content = m; number = number }) w 0,
    value_at-without_other_key (record { content = m; number = number }) w 0,
  )

pub lookups_empty : (V : Type 0) → EmptyLacksAll V
lookups_empty V v = (
  λ lacks. finite.same_map nat_list_cmp_total byte_order-IsAntisymmetric v.content finite.empty
      (λ q. lacks q ∙ sym (finite.get-empty byte_order q)),
  λ is q. ap (λ m. finite.get m q) is ∙ finite.get-empty byte_order q,
)

pub lookups_sets : (V : Type 0) → SetsFixTheMap V
lookups_sets V before after w value = (
  λ sets. same-by-lookups after.content (with_value before.content w value) w
      (sets.0 ∙ sym made.0) (λ q apart. sets.1 q apart ∙ sym (made.1 q apart)),
  λ is. (
    ap (λ m. finite.get m w) is ∙ made.0,
    λ q apart. ap (λ m. finite.get m q) is ∙ made.1 q apart,
  ),
)
  where
    made : Sets before (record
        { content = with_value before.content w value; number = before.number }) w value
    made = with_value-sets before.content before.number w value

pub slots_have_their_value : (V : Type 0) → SlotsHaveTheirValue V
slots_have_their_value V = value_in-slot_of

pub updates_set_what_is_left : (V : Type 0) → UpdatesSetWhatIsLeft V
updates_set_what_is_left V v w left told =
    updated-sets v (slot_update v w left told).1 w left told (slot_update v w left told).0 refl

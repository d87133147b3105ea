-- What the version without a key answers, which a handle shows at null.
use Rattle.std.proofs.Common.{◌≡◌, ℕ, List, None, [], ap, length, refl, sym}
use Rattle.std.specs.FinMap as finite
use Rattle.std.specs.List.{last_or}
use Rattle.std.specs.Option.{option_map}
use Rattle.std.specs.Ordering.{as_partial_cmp}
use Rattle.std.specs.Prelude.{filter}
use Rattle.std.specs.Range.Bound.{bounds_contain}
use Rattle.std.specs.declared.ops.Bound.{Bound}
use Rattle.rart_below.specs.Bytes.{begins, byte_order}
use Rattle.rart_maps.proofs.PairLawLemmas.{pairs-empty}
use Rattle.rart_maps.proofs.WorkedPairLemmas.{common_of_empty}
use Rattle.rart_maps.specs.Changes.{after_removal}
use Rattle.rart_maps.specs.Pairs.{common, within}
use Rattle.rart_maps.specs.Versions.{Version, empty_at, value_at}
use Rattle.rart_c.specs.Longest.{longest_length}

module _ (V : Type 0) where
  pub no-length : (number : ℕ) → 0 ≡ finite.len (empty_at {V = V} number).content
  no-length number = sym (finite.len-empty byte_order V)

  pub no-value : (key : List ℕ) → None ≡ value_at {V = V} (empty_at 0) key
  no-value key = sym (finite.get-empty byte_order key)

  pub no-longest : (probe : List ℕ) → None ≡ longest_length {V = V} (empty_at 0) probe
  no-longest probe =
      sym (ap (λ all. option_map {U = ℕ × V} (λ pair. (length pair.0, pair.1))
      (last_or None (filter (λ pair. begins pair.0 probe) all)))
      (pairs-empty V))

  pub no-pair-within : (low high : Bound (List ℕ))
      → within (empty_at {V = V} 0).content low high ≡ []
  no-pair-within low high =
      ap (filter (λ (pair : List ℕ × V). bounds_contain (as_partial_cmp byte_order) low high
      pair.0)) (pairs-empty V)

  pub none-removed : (key : List ℕ) → empty_at 0 ≡ after_removal (empty_at {V = V} 0) key
  none-removed key = sym (rw (finite.get-empty {X = V} byte_order key) refl)

  pub no-common-left : (w : Version V) → 0 ≡ length (common (empty_at {V = V} 0).content w.content)
  no-common-left w = sym (ap length (common_of_empty V w.content).0)

  pub no-common-right : (w : Version V) → 0 ≡ length (common w.content (empty_at {V = V} 0).content)
  no-common-right w = sym (ap length (common_of_empty V w.content).1)

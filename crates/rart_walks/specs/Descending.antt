-- Pairs from the last to the first, as a walk back gives them, up to a lower bound.
use Rattle.std.specs.Prelude.{ℕ, ◌||◌, Bool, List, filter}
use Rattle.std.specs.List.{AllPairs}
use Rattle.std.specs.Ordering.{as_partial_cmp, is_lt}
use Rattle.std.specs.Range.Bound.{is_from_start}
use Rattle.std.specs.declared.ops.Bound.{Bound}
use Rattle.rart_below.specs.Bytes.{begins, byte_order}
use Rattle.rart_maps.specs.Order.{IsBefore}

-- whether keys from a string on may stand below a node, by its path: it begins the string, or
-- stands behind it
abbrev pub leads_from : List ℕ → List ℕ → Bool
leads_from key path = begins path key || is_lt (byte_order key path)

module _ {V : Type 0} where
  -- Each key stands behind each later one.
  abbrev pub KeysDescend : List (List ℕ × V) → Type 0
  KeysDescend pairs = AllPairs (λ a b. IsBefore b.0 a.0) pairs

  -- the pairs from a lower bound on
  abbrev pub pairs_down_to : Bound (List ℕ) → List (List ℕ × V) → List (List ℕ × V)
  pairs_down_to low pairs =
      filter (λ pair. is_from_start (as_partial_cmp byte_order) low pair.0) pairs

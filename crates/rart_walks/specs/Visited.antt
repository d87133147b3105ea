-- What a visitor goes over.
use Rattle.std.specs.Prelude.{ℕ, List, filter}
use Rattle.std.specs.Ordering.{as_partial_cmp}
use Rattle.std.specs.Range.Bound.{is_up_to_end}
use Rattle.std.specs.declared.ops.Bound.{Bound}
use Rattle.rart_below.specs.Bytes.{byte_order}

-- the pairs up to an upper bound
abbrev pub pairs_up_to : {V : Type 0} → Bound (List ℕ) → List (List ℕ × V) → List (List ℕ × V)
pairs_up_to high pairs =
    filter (λ pair. is_up_to_end (as_partial_cmp byte_order) high pair.0) pairs

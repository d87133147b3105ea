-- The pairs between no bounds.
use Rattle.std.proofs.Common.{◌≡◌, ℕ, List, [], ◌∷◌, ap, refl}
use Rattle.std.specs.Prelude.{filter}
use Rattle.std.specs.Ordering.{as_partial_cmp}
use Rattle.std.specs.Range.Bound.{bounds_contain}
use Rattle.std.specs.declared.ops.Bound.TheVariants.{Unbounded}
use Rattle.rart_below.specs.Bytes.{byte_order}
use Rattle.rart_maps.specs.Pairs.{pairs, within}
use Rattle.rart_maps.specs.Versions.{Map}

module _ {V : Type 0} where
  all-kept : (some : List (List ℕ × V))
      → filter (λ pair. bounds_contain (as_partial_cmp byte_order) Unbounded Unbounded pair.0) some
      ≡ some
  all-kept [] = refl
  all-kept (pair ∷ others) = ap (λ (kept : List (List ℕ × V)). pair ∷ kept) (all-kept others)

  -- These are all.
  pub within-none : (m : Map V) → within m Unbounded Unbounded ≡ pairs m
  within-none m = all-kept (pairs m)

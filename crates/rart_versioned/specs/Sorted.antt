-- Pairs that ascend by their keys.
use Rattle.std.specs.Prelude.{◌≡◌, ◌+◌, ◌<◌, ℕ, List, Option, Some, slice_get}
use Rattle.rart_maps.specs.Order.{IsBefore}
use Rattle.rart_versioned.specs.Keys.{IsKey}

module _ {K V : Type 0} (bytes : K → List ℕ) where
  -- Of the first so many, each key stands behind the one before it, and is one that may be.
  pub record AscendTo (most : Option ℕ) (count : ℕ) (pairs : List (K × V)) : Type 0 where
    pub ascend : (i : ℕ) (p q : K × V) → i + 1 < count → slice_get pairs i ≡ Some p
        → slice_get pairs (i + 1) ≡ Some q → IsBefore (bytes p.0) (bytes q.0)
    pub keys : (i : ℕ) (p : K × V) → i < count → slice_get pairs i ≡ Some p
        → IsKey most (bytes p.0)

-- What is asked of a call that lends a value.
use Rattle.std.specs.Prelude.{◌+◌, ◌<◌, ◌^◌, ℕ, Option}
use Rattle.rart_below.specs.Clones.{ClonesEqual}
use Rattle.rart_node.specs.Shape.{Shape}
use Rattle.rart_versioned.specs.Roots.{IsTreeIn}

module _ {V : Type 0} (is_clone : V → V → Type 0) where
  -- Below the root, if there is one, all is in order, and the number can be raised by one.
  pub record CanLend (root : Option (Shape V)) (number : ℕ) : Type 0 where
    pub clones : ClonesEqual is_clone
    pub room : number + 1 < 2 ^ 64
    pub tree : IsTreeIn root

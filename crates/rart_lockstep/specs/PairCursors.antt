-- Two nodes side by side: what their prefixes have in common.
use Rattle.std.specs.Prelude.{◌≡◌, ◌≢◌, ◌<◌, ◌⊎◌, ℕ, length, Option, Some, None}
use Rattle.rart_below.specs.Bytes.{common_length}
use Rattle.rart_node.specs.Shape.{Shape, prefix_of}

module _ {V : Type 0} where
  -- `count` bytes are what both prefixes have in common, and one of them ends behind these; or none
  -- does.
  abbrev pub CommonBytes : Shape V → Shape V → Option ℕ → Type 0
  CommonBytes left right None =
      (common_length (prefix_of left) (prefix_of right) < length (prefix_of left))
      × (common_length (prefix_of left) (prefix_of right) < length (prefix_of right))
  CommonBytes left right (Some count) =
      (count ≡ common_length (prefix_of left) (prefix_of right))
      × ((count ≡ length (prefix_of left)) ⊎ (count ≡ length (prefix_of right)))

  -- `count` bytes are what is left of both prefixes, which are the same; or they are not.
  abbrev pub SameBytes : Shape V → Shape V → Option ℕ → Type 0
  SameBytes left right None = prefix_of left ≢ prefix_of right
  SameBytes left right (Some count) =
      (prefix_of left ≡ prefix_of right) × (count ≡ length (prefix_of left))

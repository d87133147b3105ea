-- The children that two nodes have under the same bytes.
use Rattle.std.specs.Prelude.{◌≡◌, ℕ, true, List, [], ◌∷◌, Option, Some, None, IsSome}
use Rattle.std.specs.List.{filter_map}
use Rattle.std.specs.Option.{option_map}
use Rattle.rart_below.specs.ByteSets.{has_byte}
use Rattle.rart_below.specs.Children.{child_at}
use Rattle.rart_below.specs.declared.byte_set.ByteSet.{ByteSet}

module _ {C : Type 0} where
  -- each byte under which both have a child, with the child of the one and that of the other
  abbrev pub common_children : List (ℕ × C) → List (ℕ × C) → List (ℕ × (C × C))
  common_children left right =
      filter_map (λ child. option_map (λ other. (child.0, (child.1, other)))
      (child_at child.0 right)) left

  -- Each byte of the set has a child in both.
  abbrev pub HaveBoth : ByteSet → List (ℕ × C) → List (ℕ × C) → Type 0
  HaveBoth set left right =
      (byte : ℕ) → has_byte set byte ≡ true
      → IsSome (child_at byte left) × IsSome (child_at byte right)

  -- The first pair was taken, or there was none.
  abbrev pub TakesPair : List (ℕ × (C × C)) → Option (C × C) → List (ℕ × (C × C)) → Type 0
  TakesPair before None after = before ≡ []
  TakesPair before (Some pair) after = (byte : ℕ) × (before ≡ (byte, pair) ∷ after)

-- A node that gets what another tree has where it has nothing.
use Rattle.std.specs.Prelude.{◌≡◌, ◌+◌, ◌<◌, ℕ, ◌&&◌, not, true, false, List, [], Option, Some, None, IsSome, is_some, length, if◌then◌else◌}
use Rattle.rart_below.specs.ByteSets.{has_byte}
use Rattle.rart_below.specs.Children.{child_at}
use Rattle.rart_below.specs.declared.byte_set.ByteSet.{ByteSet}
use Rattle.rart_lockstep.specs.TreeCursors.{next_children, value_here}
use Rattle.rart_node.specs.Shape.{Shape, prefix_of, value_of, width_of, children_of, is_full_at, with_prefix, with_value}
use Rattle.rart_node.specs.Trees.{IsOrdered, found}
use Rattle.rart_algebra.specs.Picks.{either}

module _ {C : Type 0} where
  -- The set has each byte under which the right list has a child and the left one none.
  abbrev pub AreAlone : ByteSet → List (ℕ × C) → List (ℕ × C) → Type 0
  AreAlone bytes left right = (byte : ℕ) → has_byte bytes byte
      ≡ (is_some (child_at byte right) && not (is_some (child_at byte left)))

  -- No byte of the set has a child.
  abbrev pub HaveNone : ByteSet → List (ℕ × C) → Type 0
  HaveNone bytes children =
      (byte : ℕ) → has_byte bytes byte ≡ true → child_at byte children ≡ None

module _ {V : Type 0} where
  -- A node has got the value that a tree has at the empty string, and what it has behind each byte,
  -- where it had none itself.
  pub record Gains (s t now : Shape V) : Type 0 where
    pub order : IsOrdered now
    pub prefix : prefix_of now ≡ prefix_of s
    pub value : value_of now ≡ either (value_of s) (value_here t)
    pub children : (byte : ℕ) → child_at byte (children_of now)
        ≡ either (child_at byte (children_of s)) (child_at byte (next_children t))

  -- The tree has a key that the node lacks, behind its prefix.
  abbrev pub HasMore : Shape V → Shape V → Type 0
  HasMore s t = (key : List ℕ) × IsSome (found t key) × (found (with_prefix [] s) key ≡ None)

  -- So many children more ask for no other width.
  abbrev pub HasRoom : ℕ → Shape V → Type 0
  HasRoom count s = (more : ℕ) → more < count
      → is_full_at (width_of s) (length (children_of s) + more) ≡ false

  -- The node has prefix, value and children of another, and room for so many more.
  pub record HasRoomFor (count : ℕ) (s now : Shape V) : Type 0 where
    pub prefix : prefix_of now ≡ prefix_of s
    pub value : value_of now ≡ value_of s
    pub children : children_of now ≡ children_of s
    pub room : HasRoom count now

  -- The node has got the children of another under bytes of the set.
  pub record HasAdded (bytes : ByteSet) (other s now : Shape V) : Type 0 where
    pub order : IsOrdered now
    pub prefix : prefix_of now ≡ prefix_of s
    pub value : value_of now ≡ value_of s
    pub children : (byte : ℕ) → child_at byte (children_of now)
        ≡ (if has_byte bytes byte then child_at byte (children_of other)
        else child_at byte (children_of s))

  -- the node with this value, where there is one
  abbrev pub with_own : Option V → Shape V → Shape V
  with_own None s = s
  with_own (Some value) s = with_value (Some value) s

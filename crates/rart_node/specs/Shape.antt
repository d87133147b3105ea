-- What a node is, whatever it keeps its children in: a prefix, an optional value, a width, and
-- children, each under its byte.
use Rattle.std.specs.Prelude.{◌≡◌, ◌<◌, ◌≤◌, ◌⊎◌, ℕ, suc, max, List, [], ◌∷◌, ◌++◌, Option, Bool, length, if◌then◌else◌, ◌==◌, nat_lt, nat_le, ◌&&◌, refl}
use Rattle.std.proofs.Common.{ap}
use Rattle.rart_below.specs.Children as children
use Rattle.rart_below.specs.Children.{with_child, without_child}

mutual
  pub data Shape (V : Type 0) : Type 0 where
    node : List ℕ → Option V → ℕ → Forest V → Shape V

  pub data Forest (V : Type 0) : Type 0 where
    bare : Forest V
    grown : ℕ → Shape V → Forest V → Forest V

-- The number is a width: there is room for no child, as in a leaf, or for 4, 16, 48 or 256.
abbrev pub IsWidth : ℕ → Type 0
IsWidth width = (width ≡ 0) ⊎ (width ≡ 4) ⊎ (width ≡ 16) ⊎ (width ≡ 48) ⊎ (width ≡ 256)

-- the next of the widths none (0), 4, 16, 48, 256
abbrev pub wider : ℕ → ℕ
wider width = if width == 0 then 4 else if width == 4 then 16 else if width == 16 then 48 else 256

-- how many children fill a node of this width
abbrev pub is_full_at : ℕ → ℕ → Bool
is_full_at width count = nat_lt width 256 && nat_le width count

-- The most children that a width has room for. A leaf and the greatest width are never full.
abbrev pub IsFullAt : ℕ → ℕ → Type 0
IsFullAt width count = (0 < width) × (width < 256) × (count ≡ width)

-- the width of a node of this width, with `count` children, once it has got one more
abbrev pub widened : ℕ → ℕ → ℕ
widened width count = if is_full_at width count then wider width else width

-- the narrowest width that has room for so many children, and the greatest where none has
abbrev pub width_for : ℕ → ℕ
width_for count =
    if count == 0 then 0 else if nat_le count 4 then 4 else if nat_le count 16 then 16
    else if nat_le count 48 then 48 else 256

module _ {V : Type 0} where
  abbrev pub forest_of : List (ℕ × Shape V) → Forest V
  forest_of [] = bare
  forest_of (child ∷ children) = grown child.0 child.1 (forest_of children)

  abbrev pub entries_of : Forest V → List (ℕ × Shape V)
  entries_of bare = []
  entries_of (grown byte child forest) = (byte, child) ∷ entries_of forest

  abbrev pub prefix_of : Shape V → List ℕ
  prefix_of (node prefix value width forest) = prefix

  abbrev pub value_of : Shape V → Option V
  value_of (node prefix value width forest) = value

  abbrev pub width_of : Shape V → ℕ
  width_of (node prefix value width forest) = width

  abbrev pub children_of : Shape V → List (ℕ × Shape V)
  children_of (node prefix value width forest) = entries_of forest

  -- the node of these parts
  abbrev pub node_of : List ℕ → Option V → ℕ → List (ℕ × Shape V) → Shape V
  node_of prefix value width children = node prefix value width (forest_of children)

  abbrev mutual
    -- one more than the greatest among its children's
    pub height : Shape V → ℕ
    height (node prefix value width forest) = suc (height_below forest)

    pub height_below : Forest V → ℕ
    height_below bare = 0
    height_below (grown byte child forest) = max (height child) (height_below forest)

  abbrev pub IsFull : Shape V → Type 0
  IsFull shape = IsFullAt (width_of shape) (length (children_of shape))

  -- The node has one of the widths, and no more children than it has room for.
  pub record FitsWidth (shape : Shape V) : Type 0 where
    pub is_width : IsWidth (width_of shape)
    pub has_room : length (children_of shape) ≤ width_of shape

  -- The node's own children stand in strictly ascending order of their bytes.
  abbrev pub IsAscending : Shape V → Type 0
  IsAscending shape = children.IsAscending (children_of shape)

  -- the same node with another value, with another prefix, with other children
  abbrev pub with_value : Option V → Shape V → Shape V
  with_value value (node prefix old width forest) = node prefix value width forest

  abbrev pub with_prefix : List ℕ → Shape V → Shape V
  with_prefix prefix (node old value width forest) = node prefix value width forest

  abbrev pub with_children : List (ℕ × Shape V) → Shape V → Shape V
  with_children children (node prefix value width forest) =
      node prefix value width (forest_of children)

  -- The node has this child, under this byte, and no other.
  abbrev pub HasOnly : ℕ → Shape V → Shape V → Type 0
  HasOnly byte child shape = children_of shape ≡ (byte, child) ∷ []

  -- the child with the bytes of a node above it before its own
  abbrev pub merged : List ℕ → Shape V → Shape V
  merged above child = with_prefix (above ++ prefix_of child) child

  -- the same node at another width
  abbrev pub with_width : ℕ → Shape V → Shape V
  with_width width (node prefix value old forest) = node prefix value width forest

  -- the same node with this child under the byte, in place of the one that is there
  abbrev pub with_replaced : ℕ → Shape V → Shape V → Shape V
  with_replaced byte child shape = with_children (with_child byte child (children_of shape)) shape

  -- the same node with no child under the byte
  abbrev pub with_deleted : ℕ → Shape V → Shape V
  with_deleted byte shape = with_children (without_child byte (children_of shape)) shape

  -- the same node with one more child, at the width that has room for it
  abbrev pub with_added : ℕ → Shape V → Shape V → Shape V
  with_added byte child (node prefix value width forest) =
      node prefix value (widened width (length (entries_of forest)))
      (forest_of (with_child byte child (entries_of forest)))

  -- how many nodes a change of width makes where one more child is added: one where the node is
  -- full or a leaf
  abbrev pub widenings : Shape V → ℕ
  widenings (node prefix value width forest) =
      if is_full_at width (length (entries_of forest)) then 1 else 0

  pub entries_of-forest_of : (children : List (ℕ × Shape V))
      → entries_of (forest_of children) ≡ children
  entries_of-forest_of [] = refl
  entries_of-forest_of (child ∷ children) =
      ap (λ rest. child ∷ rest) (entries_of-forest_of children)

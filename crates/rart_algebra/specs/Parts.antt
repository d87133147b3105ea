-- A node of which some children have changed.
use Rattle.std.specs.Prelude.{◌≡◌, ℕ, ◌==◌, Bool, true, false, List, Option, Some, None, length, if◌then◌else◌}
use Rattle.rart_node.specs.Seen.{Seen}
use Rattle.rart_node.specs.Shape.{Shape, node, bare, grown, prefix_of, with_deleted, with_replaced, with_value}
use Rattle.rart_node.specs.Trees.{BeginsWith, IsTree, cut_at, found}
use Rattle.rart_algebra.specs.declared.made.Made.{Made}
use Rattle.rart_algebra.specs.declared.made.Made.TheVariants.{Same, Nothing, Node}

module _ {V : Type 0} where
  -- the node as it is now: a copy that has changed, or, where there is none, as it was
  abbrev pub shape_now : Shape V → Option (Seen V) → Shape V
  shape_now s None = s
  shape_now s (Some copy) = copy.shape

  -- the node behind so many bytes of its prefix: cut there, or itself where its prefix ends there
  abbrev pub parted : ℕ → Shape V → Shape V
  parted count s = if count == length (prefix_of s) then s else cut_at count s

  -- without its value, if that goes
  abbrev pub losing : Bool → Shape V → Shape V
  losing goes s = if goes then with_value None s else s

  -- how many nodes are entered to pack a node: its only child, where it has no value
  abbrev pub merges : Shape V → ℕ
  merges (node prefix (Some value) width forest) = 0
  merges (node prefix None width bare) = 0
  merges (node prefix None width (grown byte child bare)) = 1
  merges (node prefix None width (grown byte child (grown next other forest))) = 0

  -- how many nodes are made to pack it: none where it has neither value nor child
  abbrev pub packs : Shape V → ℕ
  packs (node prefix (Some value) width forest) = 1
  packs (node prefix None width bare) = 0
  packs (node prefix None width (grown byte child forest)) = 1

  -- The tree has all that a node has, which itself may have no value and fewer than two children.
  -- None has it where there is nothing.
  pub record IsPacked (s after : Shape V) : Type 0 where
    pub tree : IsTree after
    pub finds : (q : List ℕ) → found after q ≡ found s q
    pub first : (byte : ℕ) → BeginsWith byte (prefix_of s) → BeginsWith byte (prefix_of after)

  abbrev pub IsPackedOr : Shape V → Option (Shape V) → Type 0
  IsPackedOr s None = (q : List ℕ) → found s q ≡ None
  IsPackedOr s (Some after) = IsPacked s after

abbrev pub is_same : {P V : Type 0} → Made P V → Bool
is_same Same = true
is_same Nothing = false
is_same (Node after) = false

-- what a tree becomes, where anything is left
abbrev pub shape_made : {P V : Type 0} → Shape V → Made P V → Option (Shape V)
shape_made s Same = Some s
shape_made s Nothing = None
shape_made s (Node after) = Some after.shape

-- the node once this has become of the child under a byte
abbrev pub with_made : {P V : Type 0} → ℕ → Made P V → Shape V → Shape V
with_made byte Same s = s
with_made byte Nothing s = with_deleted byte s
with_made byte (Node child) s = with_replaced byte child.shape s

-- What has become of a node, of which this is now what is left.
abbrev pub IsSettled : {P V : Type 0} → Shape V → Shape V → Made P V → Type 0
IsSettled s now Same = now ≡ s
IsSettled s now Nothing = (q : List ℕ) → found now q ≡ None
IsSettled s now (Node after) = IsPacked now after.shape

-- What two trees make together: picked, at each byte string, from what either has there.
use Rattle.std.specs.Prelude.{◌≡◌, ℕ, Bool, List, ◌++◌, Option, Some, None, if◌then◌else◌}
use Rattle.rart_node.specs.Shape.{Shape, prefix_of}
use Rattle.rart_node.specs.Trees.{BeginsWith, IsTree, found}
use Rattle.rart_algebra.specs.declared.made.Made.{Made}
use Rattle.rart_algebra.specs.declared.made.Made.TheVariants.{Same, Nothing, Node}

-- what is picked from two that may be there
abbrev pub Pick : Type 0 → Type 0
Pick V = Option V → Option V → Option V

-- the one, where there is no other
abbrev pub unless : {V : Type 0} → Pick V
unless one None = one
unless one (Some other) = None

-- the one, where there is another
abbrev pub both : {V : Type 0} → Pick V
both one None = None
both one (Some other) = one

-- the one, or the other where there is no one
abbrev pub either : {V : Type 0} → Pick V
either None other = other
either (Some one) other = Some one

-- that of the two that is there alone
abbrev pub apart : {V : Type 0} → Pick V
apart None other = other
apart (Some one) None = Some one
apart (Some one) (Some other) = None

-- what two have together, where the left one stays that is there twice, or neither does
abbrev pub together : {V : Type 0} → Bool → Pick V
together stays = if stays then either else apart

module _ {V : Type 0} where
  -- The tree has what is picked from two others, and takes the place of the left one: where both
  -- prefixes begin with a byte, its own does.
  pub record IsPicked (pick : Pick V) (left right after : Shape V) : Type 0 where
    pub tree : IsTree after
    pub finds : (q : List ℕ) → found after q ≡ pick (found left q) (found right q)
    pub first : (byte : ℕ) → BeginsWith byte (prefix_of left) → BeginsWith byte (prefix_of right)
        → BeginsWith byte (prefix_of after)

  -- The tree, or none where nothing is picked.
  abbrev pub IsPickedOr : Pick V → Shape V → Shape V → Option (Shape V) → Type 0
  IsPickedOr pick left right None =
      (q : List ℕ) → pick (found left q) (found right q) ≡ None
  IsPickedOr pick left right (Some after) = IsPicked pick left right after

  -- Behind these bytes the one tree has what the other has, or nothing where there is no other.
  abbrev pub LeadsTo : List ℕ → Shape V → Option (Shape V) → Type 0
  LeadsTo path s None = (q : List ℕ) → found s (path ++ q) ≡ None
  LeadsTo path s (Some end) = IsTree end × ((q : List ℕ) → found s (path ++ q) ≡ found end q)

-- What becomes of the left tree: it has what is picked already, nothing is picked, or this takes
-- its place.
abbrev pub Becomes : {P V : Type 0} → Pick V → Shape V → Shape V → Made P V → Type 0
Becomes pick left right Same =
    (q : List ℕ) → pick (found left q) (found right q) ≡ found left q
Becomes pick left right Nothing =
    (q : List ℕ) → pick (found left q) (found right q) ≡ None
Becomes pick left right (Node after) = IsPicked pick left right after.shape

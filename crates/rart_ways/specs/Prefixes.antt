-- What stands under a prefix in a tree, alone and in the place of something else.
use Rattle.std.specs.Prelude.{◌≡◌, ◌+◌, ◌≤◌, ◌++◌, ℕ, Bool, false, true, List, Option, Some, None, IsSome, IsTrue, length, drop, take, if◌then◌else◌}
use Rattle.rart_below.specs.Bytes.{IsAdmitted, begins}
use Rattle.rart_node.specs.Shape.{Shape, prefix_of, with_deleted, with_prefix}
use Rattle.rart_node.specs.Trees.{strip_prefix, BeginsWith, found, IsTree, KeepsFirst}
use Rattle.rart_ways.specs.Paths.{path_end, step}
use Rattle.rart_ways.specs.declared.prefixes.Cleared.{Cleared}
use Rattle.rart_ways.specs.declared.prefixes.Cleared.TheVariants.{Nothing, Part, Whole}
use Rattle.rart_ways.specs.declared.prefixes.ending.PrefixEnd.{PrefixEnd}
use Rattle.rart_ways.specs.declared.prefixes.ending.Turn.{Turn}
use Rattle.rart_ways.specs.declared.prefixes.ending.Turn.TheVariants.{Under, Apart, Down}

module _ {V : Type 0} where
  -- No string that p begins has a value, or one has.
  abbrev pub HasNoneUnder : List ℕ → Shape V → Type 0
  HasNoneUnder p s = (rest : List ℕ) → found s (p ++ rest) ≡ None

  abbrev pub HasSomeUnder : List ℕ → Shape V → Type 0
  HasSomeUnder p s = (rest : List ℕ) × IsSome (found s (p ++ rest))

  -- `steps` nodes down the way of p, behind `above` bytes of it, is a node whose prefix begins with
  -- the others: p begins all that stands there.
  pub record StandsUnder (p : List ℕ) (s : Shape V) (steps above : ℕ) (end : Shape V)
      : Type 0 where
    pub within : above ≤ length p
    pub reached : path_end steps p s ≡ Some (end, drop above p)
    pub begun : IsTrue (begins (drop above p) (prefix_of end))

  -- It is a child of the node `steps` nodes down.
  abbrev pub StandsBelow : List ℕ → Shape V → ℕ → Type 0
  StandsBelow p s steps = (above : ℕ) × (end : Shape V) × StandsUnder p s (steps + 1) above end

  -- The tree has what the other one has under p, and nothing else. Where there is none, the other
  -- one has nothing there.
  abbrev pub IsUnderAlone : List ℕ → Shape V → Option (Shape V) → Type 0
  IsUnderAlone p before None = HasNoneUnder p before
  IsUnderAlone p before (Some after) =
      IsTree after
      × ((q : List ℕ) → found after q ≡ (if begins p q then found before q else None))

  -- what `under` has of the rest of a string behind p, where p begins the string, else what was
  -- there
  abbrev pub under_or : Option (List ℕ) → (List ℕ → Option V) → Option V → Option V
  under_or None under was = was
  under_or (Some rest) under was = under rest

  -- After, the tree has behind p what `under` has, and else what it had.
  pub record IsGrafted (p : List ℕ) (under : List ℕ → Option V) (before after : Shape V)
      : Type 0 where
    pub tree : IsTree after
    pub finds : (q : List ℕ) → found after q ≡ under_or (strip_prefix p q) under (found before q)
    pub first : KeepsFirst p before after

  -- the node without the first bytes of its prefix
  abbrev pub tail_of : ℕ → Shape V → Shape V
  tail_of above s = with_prefix (drop above (prefix_of s)) s

  -- After, there is behind p what the other tree has there, where it has any; else it is as before.
  abbrev pub IsPutUnder : Bool → List ℕ → Shape V → Shape V → Shape V → Type 0
  IsPutUnder true p from before after =
      IsGrafted p (λ rest. found from (p ++ rest)) before after × HasSomeUnder p from
  IsPutUnder false p from before after = (after ≡ before) × HasNoneUnder p from

  -- After, the tree has nothing under p, and else what it had.
  abbrev pub IsCleared : List ℕ → Shape V → Shape V → Type 0
  IsCleared p before after = IsGrafted p (λ rest. None) before after

  -- What was done to take out all under p.
  abbrev pub IsClearedSo : Cleared → List ℕ → Shape V → Shape V → Type 0
  IsClearedSo Nothing p before after = (after ≡ before) × HasNoneUnder p before
  IsClearedSo Part p before after = IsCleared p before after × HasSomeUnder p before
  IsClearedSo Whole p before after = (after ≡ before) × HasSomeUnder p before
      × ((q : List ℕ) → begins p q ≡ false → found before q ≡ None)

  -- After, the node has what it had but for the child under the byte, and the first byte of its
  -- prefix.
  pub record IsWithoutChild (byte : ℕ) (before after : Shape V) : Type 0 where
    pub tree : IsTree after
    pub finds : (q : List ℕ) → found after q ≡ found (with_deleted byte before) q
    pub first : (b : ℕ) → BeginsWith b (prefix_of before) → BeginsWith b (prefix_of after)

-- All that a prefix begins, as a node behind none of its bytes.
abbrev pub part_of : {P V : Type 0} → PrefixEnd P V → Shape V
part_of end = let s = end.node.now.shape in
    with_prefix (take end.above end.prefix.now ++ prefix_of s) s

-- It is in order, the prefix begins it, and the pointer shows the node. `most` is how long prefixes
-- may be.
pub record IsPart {P V : Type 0} (most : Option ℕ) (end : PrefixEnd P V) : Type 0 where
  pub within : end.above ≤ length end.prefix.now
  pub tree : IsTree (part_of end)
  pub begun : IsTrue (begins end.prefix.now (prefix_of (part_of end)))
  pub same : end.at.now.shape ≡ end.node.now.shape
  pub admitted : IsAdmitted most (end.above + length (prefix_of end.node.now.shape))

-- What is left of a prefix finds at a node that it begins all there, or nothing, or that it goes on
-- at a child.
abbrev pub IsTurn : {P V : Type 0} → Turn P V → List ℕ → Shape V → Type 0
IsTurn Under rest s = IsTrue (begins rest (prefix_of s))
IsTurn Apart rest s = HasNoneUnder rest s
IsTurn (Down child left) rest s = step rest s ≡ Some (child.now.shape, left.now)

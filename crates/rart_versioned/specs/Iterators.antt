-- What an iterator over a tree has left, by the walk or the node that it goes on with, or the lack
-- of one, and what one call gives of that.
use Rattle.std.specs.Prelude.{◌≡◌, ◌≤◌, ℕ, List, [], ◌∷◌, Option, Some, None, IfSome, drop, filter, length, take, ⊤}
use Rattle.std.specs.Borrow.{Bor}
use Rattle.std.specs.Option.{option_map}
use Rattle.rart_below.specs.Bytes.{IsAdmitted, begins}
use Rattle.rart_node.specs.Shape.{Shape, height}
use Rattle.rart_node.specs.Trees.{pairs_of}
use Rattle.rart_walks.specs.Frames.{behind_path}
use Rattle.rart_walks.specs.declared.walk.Walk.{Walk as PairWalk}
use Rattle.rart_walks.specs.WalkFields.{IsWalk, cursor}
use Rattle.rart_node.specs.KeyPaths.{HoldsBytes, extent_in_bytes}
use Rattle.rart_versioned.specs.declared.plain.iterators.iter.Entries.{Entries}
use Rattle.rart_versioned.specs.declared.plain.iterators.iter.Entries.TheVariants.{Empty, Entry, Walk}
use Rattle.rart_versioned.specs.declared.plain.iterators.prefix_match.Way.{Way}
use Rattle.rart_versioned.specs.Roots.{IsTreeIn}
use Rattle.rart_versioned.specs.TreeWalks.{AreAdmitted}

-- ---- along a walk

module _ {P V : Type 0} {partial : _} where
  -- A walk that keeps the bytes of its keys, of each of which a key can be made.
  pub record IsKeyWalk (most : Option ℕ) (walk : PairWalk P V (List ℕ) partial) : Type 0 where
    pub walks : IsWalk HoldsBytes extent_in_bytes None walk
    pub admitted : AreAdmitted most (cursor walk).pairs

-- ---- over all pairs, or those under a prefix

module _ {P V : Type 0} {partial : _} where
  -- the pairs that are still to come
  abbrev pub pairs_to_come : Entries P V partial → List (List ℕ × V)
  pairs_to_come Empty = []
  pairs_to_come (Entry key value) = (key.now, value.now) ∷ []
  pairs_to_come (Walk walk) = (cursor walk).pairs

  abbrev pub entries_left : Option (Entries P V partial) → Option (List (List ℕ × V))
  entries_left left = option_map pairs_to_come left

  -- A key can be made of each.
  abbrev pub HasKeys : Option ℕ → Entries P V partial → Type 0
  HasKeys most Empty = ⊤
  HasKeys most (Entry key value) = IsAdmitted most (length key.now)
  HasKeys most (Walk walk) = IsKeyWalk most walk

-- ---- along a probe

module _ {V : Type 0} where
  -- the pairs below a node, or the lack of one, whose key begins the probe, where `depth` bytes of
  -- the probe stand above the node
  abbrev pub matches_below : List ℕ → ℕ → Option (Shape V) → List (List ℕ × V)
  matches_below probe depth None = []
  matches_below probe depth (Some s) =
      behind_path (take depth probe)
      (filter (λ pair. begins pair.0 (drop depth probe)) (pairs_of s))

  -- The first pair has this key and this value, or there is none.
  abbrev pub ValueGives :
      List (List ℕ × V) → List ℕ → Option (Bor V) → List (List ℕ × V) → Type 0
  ValueGives before key None after = before ≡ []
  ValueGives before key (Some value) after = before ≡ (key, value.now) ∷ after

  -- how high the tree below is
  abbrev pub height_in : Option (Shape V) → ℕ
  height_in None = 0
  height_in (Some s) = height s

module _ {P V : Type 0} where
  -- the node that comes next
  abbrev pub next_node : Way P V → Option (Shape V)
  next_node way = option_map (λ at. at.now.shape) way.at

  module _ (probe : List ℕ) where
    -- the pairs that are still to come
    abbrev pub matches_on : Way P V → List (List ℕ × V)
    matches_on way = matches_below probe way.depth (next_node way)

    abbrev pub matches_left : Option (Way P V) → Option (List (List ℕ × V))
    matches_left way = option_map matches_on way

    -- The way has come so far down the probe, and all below is in order.
    pub record IsWay (way : Way P V) : Type 0 where
      pub depth : way.depth ≤ length probe
      pub tree : IsTreeIn (next_node way)

-- ---- what one call gives

module _ {K V L : Type 0} (bytes : K → List ℕ) (value : L → V) where
  -- The first pair was given, by a key of its own and what is lent of its value, or there was none.
  abbrev pub EntryGives :
      List (List ℕ × V) → Option (K × L) → List (List ℕ × V) → Type 0
  EntryGives before None after = before ≡ []
  EntryGives before (Some entry) after = before ≡ (bytes entry.0, value entry.1) ∷ after

-- ---- what `size_hint` tells

module _ {X : Type 0} where
  -- how many members are still to come
  abbrev pub members_left : Option (List X) → ℕ
  members_left None = 0
  members_left (Some members) = length members

  -- The lower bound is at most how many members are still to come, and the upper one, if there is
  -- one, at least. Behind the end both are none.
  pub record IsHintOf (left : Option (List X)) (hint : ℕ × Option ℕ) : Type 0 where
    pub lower : hint.0 ≤ members_left left
    pub upper : IfSome hint.1 (λ most. members_left left ≤ most)
    pub over : left ≡ None → hint ≡ (0, Some 0)

-- Which front part of a tree a way down leads to, by a string: the keys that the string begins, or
-- those up to it.
use Rattle.std.specs.Prelude.{◌≡◌, ◌+◌, ◌<◌, ◌≤◌, ◌&&◌, ℕ, Bool, true, false, List, [], ◌∷◌, ◌++◌, Option, None, Result, IfOk, OnOk, count_by, filter, not, reverse, if◌then◌else◌}
use Rattle.std.specs.Ordering.{is_le, is_lt}
use Rattle.std.specs.List.{concat}
use Rattle.std.specs.declared.ops.Bound.{Bound}
use Rattle.std.specs.declared.ops.Bound.TheVariants.{Included, Excluded, Unbounded}
use Rattle.rart_below.specs.Bytes.{begins, byte_order}
use Rattle.rart_below.specs.Children.{children_below}
use Rattle.rart_node.specs.Counts.{Counts, CountsUpTo}
use Rattle.rart_node.specs.Shape.{Shape, prefix_of, value_of, children_of}
use Rattle.rart_node.specs.Trees.{IsTree, own_pair, pairs_of}
use Rattle.rart_walks.specs.BackFields.{IsWalkBack, at_hand, back_cursor, open_back}
use Rattle.rart_walks.specs.BackFrames.{OpenBack, back_segments}
use Rattle.rart_walks.specs.Frames.{behind_path}
use Rattle.rart_walks.specs.Walks.{AreShort, paths_of}
use Rattle.rart_walks.specs.declared.walk_back.WalkBack.{WalkBack}
use Rattle.rart_walks.specs.declared.walk_back.path.Front.{Front}
use Rattle.rart_walks.specs.declared.walk_back.path.Front.TheVariants.{Under, UpTo, Before}
use Rattle.rart_walks.specs.declared.walk_back.path.Reached.{Reached}
use Rattle.rart_walks.specs.declared.walk_back.path.Reached.TheVariants.{All, Own, Nothing}

-- whether a key is in the part
abbrev pub keeps : Front → List ℕ → List ℕ → Bool
keeps Under u key = begins u key
keeps UpTo u key = is_le (byte_order key u)
keeps Before u key = is_lt (byte_order key u)

-- whether a node stands before a string, and does not begin it: so all keys below it stand before
-- the string
abbrev pub stands_before : List ℕ → List ℕ → Bool
stands_before u path = is_lt (byte_order path u) && not (begins path u)

-- whether a node may be left to enter, by its path: those on the way are entered
abbrev pub reaches : Front → List ℕ → List ℕ → Bool
reaches Under u path = begins u path
reaches UpTo u path = stands_before u path
reaches Before u path = stands_before u path

-- the same of a part that an upper bound ends
abbrev pub reaches_to : Bound (List ℕ) → List ℕ → Bool
reaches_to (Included high) path = stands_before high path
reaches_to (Excluded high) path = stands_before high path
reaches_to Unbounded path = true

-- whether the part has what stands before the keys that begin as the string does
abbrev pub has_lower : Front → Bool
has_lower Under = false
has_lower UpTo = true
has_lower Before = true

-- whether it has all of these, those that begin so among them
abbrev pub is_under : Front → Bool
is_under Under = true
is_under UpTo = false
is_under Before = false

-- what it has of a node inside whose prefix the string ends, or with it, as the flag tells
abbrev pub at_end_of : Front → Bool → Reached
at_end_of Under is_whole = All
at_end_of UpTo true = Own
at_end_of UpTo false = Nothing
at_end_of Before is_whole = Nothing

module _ {V : Type 0} where
  -- what the part has of a node that the string leaves behind, with the child under this byte
  abbrev pub passed_frame : Front → Shape V → ℕ → OpenBack V
  passed_frame part s byte = (
    prefix_of s,
    if has_lower part then value_of s else None,
    if has_lower part then children_below byte (children_of s) else [],
  )

  -- what it has of a node at which the way ends: the pairs, the paths of nodes, and the node as it
  -- is opened for them
  abbrev pub reached_pairs : Reached → Shape V → List (List ℕ × V)
  reached_pairs All s = pairs_of s
  reached_pairs Own s = behind_path (prefix_of s) (own_pair (value_of s))
  reached_pairs Nothing s = []

  abbrev pub reached_paths : Reached → Shape V → List (List ℕ)
  reached_paths All s = paths_of s
  reached_paths Own s = []
  reached_paths Nothing s = []

  abbrev pub reached_frames : Reached → Shape V → List (OpenBack V)
  reached_frames All s = (prefix_of s, value_of s, children_of s) ∷ []
  reached_frames Own s = (prefix_of s, value_of s, []) ∷ []
  reached_frames Nothing s = []

-- `partial` is what is known of prefixes, which the type takes for a ghost field
module _ {P V T : Type 0} {partial : _} (Holds : T → List (List ℕ) → Type 0) where
  -- The walk stands above this tree, at no leaf, and no key of the tree is too long for the key
  -- path.
  pub record StandsAbove (greatest : Option ℕ) (s : Shape V)
      (it : WalkBack P V T partial) : Type 0 where
    pub holds : Holds it.key_path (back_segments (open_back it.frames.items))
    pub tree : IsTree s
    pub short : AreShort greatest (behind_path
        (concat (back_segments (open_back it.frames.items))) (pairs_of s))

  -- The node is open for what is reached of it, or, where nothing is, only those above are.
  pub record EntersReached {E : Type 0} (before : WalkBack P V T partial)
      (result : Result (Unit {0}) E) (reached : Reached) (s : Shape V)
      (after : WalkBack P V T partial) : Type 0 where
    pub holds : Holds after.key_path (back_segments (open_back after.frames.items))
    pub frames : OnOk result (open_back after.frames.items
        ≡ open_back before.frames.items ++ reached_frames reached s)
    pub leaf : after.leaf ≡ before.leaf

-- A walk back over the pairs of a tree whose keys pass a test. Of the nodes that are left no more
-- pass any other test than of those whose paths pass this one. On the way to the last pair, at most
-- `most` nodes were entered, and one at least.
pub record StartsWithin {P V T : Type 0} {partial : _} {E : Type 0}
    (holds : T → List (List ℕ) → Type 0) (greatest : Option ℕ)
    (result : Result (WalkBack P V T partial) E) (keeping reaching : List ℕ → Bool) (most : ℕ)
    (s : Shape V) (start now : Counts) : Type 0 where
  pub walk : IfOk result (IsWalkBack holds greatest)
  pub pairs : IfOk result (λ it. (back_cursor it).pairs
      ≡ reverse (filter (λ pair. keeping pair.0) (pairs_of s)))
  pub few : IfOk result (λ it. (test : List ℕ → Bool)
      → count_by test (back_cursor it).paths ≤ count_by test (filter reaching (paths_of s)))
  pub counted : CountsUpTo most 0 start now
  pub entered : start.entered < now.entered
  pub at_hand : IfOk result (λ it. start.entered + at_hand it ≤ now.entered)

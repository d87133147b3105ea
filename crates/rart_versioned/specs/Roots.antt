-- What a root stands for, or the lack of one: a finite map. When it is sound, and what a value lent
-- from below it leaves.
use Rattle.std.specs.Prelude.{◌≡◌, ◌++◌, ℕ, ◌≤◌, List, [], Option, Some, None, IsSome, Result, ⊤, if◌then◌else◌}
use Rattle.std.specs.Option.{option_map}
use Rattle.std.specs.Result.{IsOk, OnErr}
use Rattle.std.specs.Str.{bytes_eq}
use Rattle.std.specs.Borrow.{RattleType, MutBor, Fml, follows_so, name_if_ok}
use Rattle.std.specs.FinMap as finite
use Rattle.std.specs.contracts.option.Option as option
use Rattle.rart_below.specs.Bytes.{begins}
use Rattle.rart_maps.specs.Versions.{Map}
use Rattle.rart_below.specs.declared.partial.Partial.{Ghosts as Prefixes}
use Rattle.rart_node.specs.contracts.node_ref.NodeRef as pointer
use Rattle.rart_node.specs.Seen.{Seen, shape_of}
use Rattle.rart_node.specs.Shape.{Shape}
use Rattle.rart_node.specs.Trees.{found, pairs_of, IsTree}
use Rattle.rart_versioned.specs.Keys.{IsKey}

module _ {V : Type 0} where
  -- what is below a root
  abbrev pub below_root : Option (Seen V) → Option (Shape V)
  below_root = option_map shape_of

  -- the map that a root stands for, or the lack of one
  abbrev pub map_of : Option (Shape V) → Map V
  map_of None = finite.empty
  map_of (Some root) = finite.from_entries (pairs_of root)

  -- the pairs below a root, or the lack of one, in the order of the tree
  abbrev pub pairs_in : Option (Shape V) → List (List ℕ × V)
  pairs_in None = []
  pairs_in (Some root) = pairs_of root

  -- the value of a string below a root, or the lack of one
  abbrev pub found_in : Option (Shape V) → List ℕ → Option V
  found_in None q = None
  found_in (Some root) q = found root q

  -- Below the root, if there is one, all is in order.
  abbrev pub IsTreeIn : Option (Shape V) → Type 0
  IsTreeIn None = ⊤
  IsTreeIn (Some root) = IsTree root

  -- Below the root all is in order, each key is a string that it may be, and there are at most so
  -- many keys.
  abbrev pub IsSound : Option ℕ → ℕ → Option (Shape V) → Type 0
  IsSound most count None = ⊤
  IsSound most count (Some root) =
      IsTree root
      × ((key : List ℕ) → IsSome (found root key) → IsKey most key)
      × (finite.len (map_of (Some root)) ≤ count)

  -- After, the key has the value below the root, and every other string has what it had.
  abbrev pub IsPutBelow : List ℕ → V → Option (Shape V) → Option (Shape V) → Type 0
  IsPutBelow key value before after = (q : List ℕ) →
      found_in after q ≡ (if bytes_eq q key then Some value else found_in before q)

  -- After, below the root, if there is one, is what was there under p, and nothing else.
  abbrev pub IsUnderIn : List ℕ → Option (Shape V) → Option (Shape V) → Type 0
  IsUnderIn p before after =
      IsTreeIn after
      × ((q : List ℕ) → found_in after q ≡ (if begins p q then found_in before q else None))

  -- Below the root, if there is one, a key is found that p begins.
  abbrev pub HasSomeIn : List ℕ → Option (Shape V) → Type 0
  HasSomeIn p root = (rest : List ℕ) × IsSome (found_in root (p ++ rest))

  -- After, there is what the part has where p begins it, and else what was there.
  abbrev pub IsReplacedUnder : List ℕ → Option (Shape V) → Option (Shape V) → Option (Shape V)
      → Type 0
  IsReplacedUnder p part before after =
      IsTreeIn after × ((q : List ℕ) →
      found_in after q ≡ (if begins p q then found_in part q else found_in before q))

  -- Sound as it was: for keys of that length, and for as many of them.
  abbrev pub StaysSound : Option (Shape V) → Option (Shape V) → Type 0
  StaysSound before after =
      (most : Option ℕ) (count : ℕ) → IsSound most count before → IsSound most count after

-- Over the rows of prefixes and values, and the ghosts of the prefixes' trait.
module _ (P V : RattleType) (prefixes : Prefixes P.Denot) where
  -- The root has the key set to the value as it was left behind the result, and refused, what it
  -- had.
  -- It stays sound.
  abbrev pub LendsBelow : {E : Type 0} →
      MutBor (Option (Seen V.Denot)) → List ℕ → Result (MutBor V.Denot) E → Fml
  LendsBelow lender key result =
      follows_so (option.the_row (pointer.the_row P V prefixes)) V lender.ghost_name
      (name_if_ok (λ value. value.ghost_name) result)
      (λ left after. (IsOk result → IsPutBelow key left (below_root lender.now) (below_root after))
      × StaysSound (below_root lender.now) (below_root after))
      (λ after. OnErr result (below_root after ≡ below_root lender.now)
      × StaysSound (below_root lender.now) (below_root after))

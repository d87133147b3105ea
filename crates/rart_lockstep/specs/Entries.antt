-- Entries of what two trees have in common.
use Rattle.std.specs.Prelude.{ℕ, List, [], ◌∷◌, ◌++◌, Option, Some, None, map}
use Rattle.std.specs.Borrow.{Bor}
use Rattle.rart_maps.specs.Visits.{ByValuePair}
use Rattle.rart_node.specs.Shape.{Shape}
use Rattle.rart_lockstep.specs.TreeCursors.{value_here}

-- the two, where there are both
abbrev pub both : {A : Type 0} → Option A → Option A → Option (A × A)
both (Some one) (Some other) = Some (one, other)
both (Some one) None = None
both None other = None

-- the entry of a key that ends here, if both have a value
abbrev pub own_entry : {V : Type 0} → List ℕ → Option V → Option V → List (List ℕ × V × V)
own_entry path (Some one) (Some other) = (path, one, other) ∷ []
own_entry path (Some one) None = []
own_entry path None other = []

module _ {V : Type 0} where
  -- an entry by references to both values, its key by nothing
  abbrev pub ByItsValues : Bor V × (Bor V × Unit {0}) → List ℕ × V × V → Type 0
  ByItsValues shown entry = ByValuePair shown (entry.1, entry.2)

  -- the entry of the key that ends where both stand, if both have a value there
  abbrev pub entry_here : List ℕ → Shape V → Shape V → List (List ℕ × V × V)
  entry_here path left right = own_entry path (value_here left) (value_here right)

  -- what is in common, with this string before each key
  abbrev pub behind_key : List ℕ → List (List ℕ × V × V) → List (List ℕ × V × V)
  behind_key path entries = map (λ entry. (path ++ entry.0, entry.1, entry.2)) entries

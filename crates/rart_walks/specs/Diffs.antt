-- What the pairs of two maps differ in.
use Rattle.std.specs.Prelude.{◌≡◌, ℕ, Bool, List, ◌++◌, Option, All, length}
use Rattle.std.specs.FinMap as finite
use Rattle.rart_below.specs.Bytes.{IsAdmitted}
use Rattle.rart_maps.specs.ChangeLists.{Change, changes}
use Rattle.rart_maps.specs.Order.{IsBefore}
use Rattle.rart_maps.specs.Versions.{Map}
use Rattle.rart_walks.specs.Walks.{pending_pair}

module _ {V : Type 0} where
  abbrev pub map_with : List (List ℕ × V) → Map V
  map_with pairs = finite.from_entries pairs

  -- the changes from the map of these pairs to the map of those
  abbrev pub changes_between :
      (V → V → Bool) → List (List ℕ × V) → List (List ℕ × V) → List (Change V)
  changes_between same old new = changes same (map_with old) (map_with new)

  -- The key stands before each key of these.
  abbrev pub AreBehind : List ℕ → List (List ℕ × V) → Type 0
  AreBehind key pairs = All (λ pair. IsBefore key pair.0) pairs

  -- A key can be made of each.
  abbrev pub AreAdmitted : Option ℕ → List (List ℕ × V) → Type 0
  AreAdmitted most pairs = All (λ pair. IsAdmitted most (length pair.0)) pairs

  -- Of the pairs before, those after are left behind the key: the others are the key with the
  -- value, if there is one.
  pub record Leads (key : List ℕ) (value : Option V) (before after : List (List ℕ × V))
      : Type 0 where
    pub pairs : before ≡ pending_pair key value ++ after
    pub behind : AreBehind key after

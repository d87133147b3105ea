-- The one form that a list of changes has as bytes.
use Rattle.std.specs.Prelude.{◌<◌, ◌^◌, ℕ, List, [], ◌∷◌, ◌++◌, Option, Some, None, Contains, length, map, codes}
use Rattle.sha2.specs.Sha256.{sha256}
use Rattle.rart_maps.specs.ChangeLists.{Change}
use Rattle.rart_maps.specs.FoundLaws.{KeysAscend}
use Rattle.rart_versioned.specs.Keys.{IsKeyLength}
use Rattle.rart_saved.specs.Forms.{entries}
use Rattle.rart_saved.specs.Numbers.{leb}

-- the name of all files of changes, the number of the format, and the kind of values
unfoldable pub changes_head : ℕ → List ℕ
changes_head kind = codes "changes" ++ 1 ∷ kind ∷ []

module _ {V : Type 0} where
  -- a change as a pair: its key, and what was there with what is there now
  abbrev pub as_pair : Change V → List ℕ × (Option V × Option V)
  as_pair change = (change.0, (change.1, change.2))

  -- What a change does, by which of the two values there are: it inserts, removes or replaces. It
  -- is 0 where there are none.
  unfoldable pub deed : Option V → Option V → ℕ
  deed None None = 0
  deed None (Some after) = 1
  deed (Some before) None = 2
  deed (Some before) (Some after) = 3

module _ {V : Type 0} (written : V → List ℕ) where
  -- the form of a value, where there is one
  unfoldable pub if_there : Option V → List ℕ
  if_there None = []
  if_there (Some x) = written x

  -- The values of a change: what it does, the value before, and the one after.
  unfoldable pub both_written : Option V × Option V → List ℕ
  both_written values = deed values.0 values.1 ∷ (if_there values.0 ++ if_there values.1)

  -- all but the sum: the head, how many changes there are, and these, as the pairs of a version
  unfoldable pub changes_body : ℕ → List (Change V) → List ℕ
  changes_body kind list =
      changes_head kind ++ leb (length list) ++ entries both_written [] (map as_pair list)

  -- A list of changes as bytes: its body, and the SHA-256 sum of that.
  unfoldable pub saved_changes : ℕ → List (Change V) → List ℕ
  saved_changes kind list = changes_body kind list ++ sha256 (changes_body kind list)

module _ {V : Type 0} where
  -- A list of changes of ascending keys that have at most this length.
  pub record IsChangeList (most : Option ℕ) (list : List (Change V)) : Type 0 where
    pub ascends : KeysAscend (λ change. change.0) list
    pub fits : length list < 2 ^ 64
    pub lengths : (change : Change V) → Contains list change → IsKeyLength most (length change.0)

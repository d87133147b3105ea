-- What is not there where bytes were refused as changes, and what is given back where they are
-- not.
use Rattle.std.specs.Prelude.{◌≡◌, ◌≢◌, ◌⊎◌, ℕ, List, [], ◌++◌, Bool, true, Contains, Option, Result, MatchResult, length, map}
use Rattle.rart_maps.specs.ChangeLists.{Change}
use Rattle.rart_maps.specs.FoundLaws.{KeysAscend}
use Rattle.rart_changes.specs.Shown.{shown_change}
use Rattle.rart_changes.specs.declared.tracked.plain.listing.KeyChange.{KeyChange}
use Rattle.rart_versioned.specs.Keys.{IsKeyLength}
use Rattle.rart_saved.specs.declared.error.LoadError.{LoadError}
use Rattle.rart_saved.specs.declared.error.LoadError.TheVariants.{Io, Memory}
use Rattle.rart_saved.specs.ChangeForms.{IsChangeList, as_pair, saved_changes}
use Rattle.rart_saved.specs.Forms.{entries}
use Rattle.rart_saved.specs.Values.{LacksValue}

-- changes as pairs
abbrev pub shown_pairs : {K V : Type 0} → (K → List ℕ) → List (KeyChange K V)
    → List (List ℕ × (Option V × Option V))
shown_pairs bytes items = map as_pair (map (shown_change bytes) items)

module _ {V : Type 0} (written : V → List ℕ) where
  -- A value is to be there, and none has its form where these bytes begin.
  abbrev pub LacksOne : Bool → List ℕ → Type 0
  LacksOne is_there bytes = (is_there ≡ true) × LacksValue written bytes

  -- No list of so many pairs of ascending keys has its form there.
  abbrev pub LacksEntries : Option ℕ → ℕ → List ℕ → Type 0
  LacksEntries most count bytes = (all : List (List ℕ × V)) (rest : List ℕ) → length all ≡ count
      → KeysAscend (λ pair. pair.0) all
      → ((pair : List ℕ × V) → Contains all pair → IsKeyLength most (length pair.0))
      → bytes ≢ entries written [] all ++ rest

  -- The bytes are of no list of changes of keys of at most this length.
  abbrev pub LacksChanges : ℕ → Option ℕ → List ℕ → Type 0
  LacksChanges kind most bytes = (list : List (Change V)) → IsChangeList most list
      → bytes ≢ saved_changes written kind list

  -- Where the bytes are of a list of changes of keys of at most this length, the answer is that
  -- list, or memory was refused.
  abbrev pub GivesBackChanges : {T : Type 0} → ℕ → Option ℕ → Result T LoadError
      → (T → List (Change V)) → List ℕ → Type 0
  GivesBackChanges kind most result shown bytes = (list : List (Change V)) → IsChangeList most list
      → bytes ≡ saved_changes written kind list
      → MatchResult result (λ found. shown found ≡ list) (λ error. error ≡ Memory)

  -- The same, or reading failed.
  abbrev pub GivesBackChangesUnlessIo : {T : Type 0} → ℕ → Option ℕ → Result T LoadError
      → (T → List (Change V)) → List ℕ → Type 0
  GivesBackChangesUnlessIo kind most result shown bytes = (list : List (Change V))
      → IsChangeList most list → bytes ≡ saved_changes written kind list
      → MatchResult result (λ found. shown found ≡ list)
      (λ error. (error ≡ Memory) ⊎ (error ≡ Io))

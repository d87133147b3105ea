-- What is not there where bytes were refused, and what is given back where they were not.
use Rattle.std.specs.Prelude.{◌≡◌, ◌≢◌, ◌⊎◌, ℕ, Bool, List, [], ◌++◌, Option, Result, IsTrue, MatchResult, length}
use Rattle.std.specs.FinMap as finite
use Rattle.rart_below.specs.Bytes.{IsAdmitted}
use Rattle.rart_maps.specs.Pairs.{pairs}
use Rattle.rart_maps.specs.Versions.{Map, Version, has_key}
use Rattle.rart_versioned.specs.Keys.{IsKeyLength}
use Rattle.rart_saved.specs.declared.error.LoadError.{LoadError}
use Rattle.rart_saved.specs.declared.error.LoadError.TheVariants.{Io, Memory}
use Rattle.rart_saved.specs.Forms.{IsVersionOf, entries, entry, saved}
use Rattle.rart_saved.specs.Keys.{IsNext}
use Rattle.rart_saved.specs.Refusals.{IsTooLong}

-- Each key of the version is within this limit.
abbrev pub HasKeysWithin : {V : Type 0} → Option ℕ → Version V → Type 0
HasKeysWithin longest v = (key : List ℕ) → IsTrue (has_key v key) → IsAdmitted longest (length key)

module _ {V : Type 0} (written : V → List ℕ) where
  -- No pair that may come next has its form where these bytes begin.
  abbrev pub LacksPair : Option ℕ → Bool → List ℕ → List ℕ → Type 0
  LacksPair most is_first before bytes = (key : List ℕ) (x : V) (rest : List ℕ)
      → IsNext is_first before key → IsKeyLength most (length key)
      → bytes ≢ entry written before (key, x) ++ rest

  -- No map of so many keys has its pairs there.
  abbrev pub LacksPairs : Option ℕ → ℕ → List ℕ → Type 0
  LacksPairs most count bytes = (m : Map V) (rest : List ℕ) → finite.len m ≡ count
      → ((key : List ℕ) → IsTrue (finite.contains_key m key) → IsKeyLength most (length key))
      → bytes ≢ entries written [] (pairs m) ++ rest

  -- The bytes are no version's whose keys have at most this length.
  abbrev pub LacksVersion : ℕ → Option ℕ → List ℕ → Type 0
  LacksVersion kind most bytes = (v : Version V) → IsVersionOf most v
      → bytes ≢ saved written kind v

  -- Where the bytes are a version's whose keys have at most this length, the answer is that
  -- version, or memory was refused.
  abbrev pub GivesBack : ℕ → Option ℕ → Result (Version V) LoadError → List ℕ → Type 0
  GivesBack kind most result bytes = (v : Version V) → IsVersionOf most v
      → bytes ≡ saved written kind v
      → MatchResult result (λ tree. tree ≡ v) (λ error. error ≡ Memory)

  -- The same, with how many keys there are; or a key is longer than a limit, and the answer says
  -- so.
  abbrev pub GivesBackWithin : ℕ → Option ℕ → Option ℕ → Result (Version V × ℕ) LoadError → List ℕ
      → Type 0
  GivesBackWithin kind longest most result bytes = (v : Version V) → IsVersionOf most v
      → bytes ≡ saved written kind v
      → MatchResult result (λ found. found.0 ≡ v)
      (λ error. (error ≡ Memory) ⊎ (IsTooLong error × ¬ (HasKeysWithin longest v)))

  -- The same as `GivesBack`, or reading failed.
  abbrev pub GivesBackUnlessIo : ℕ → Option ℕ → Result (Version V) LoadError → List ℕ → Type 0
  GivesBackUnlessIo kind most result bytes = (v : Version V) → IsVersionOf most v
      → bytes ≡ saved written kind v
      → MatchResult result (λ tree. tree ≡ v) (λ error. (error ≡ Memory) ⊎ (error ≡ Io))

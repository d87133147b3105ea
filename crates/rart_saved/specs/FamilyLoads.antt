-- What is not there where bytes were refused as a family, and what is given back where they are
-- not.
use Rattle.std.specs.Prelude.{◌≡◌, ◌≢◌, ◌⊎◌, ℕ, Bool, List, [], ◌∷◌, ◌++◌, Option, Result, Contains, IfSome, IsTrue, MatchResult, length, map}
use Rattle.std.specs.FinMap as finite
use Rattle.std.specs.Int.{from_bool}
use Rattle.rart_maps.specs.ChangeLists.{changes, differ}
use Rattle.rart_maps.specs.Versions.{Map, Version}
use Rattle.rart_family.specs.Families.{Family}
use Rattle.rart_versioned.specs.Keys.{IsKeyLength}
use Rattle.rart_saved.specs.declared.error.LoadError.{LoadError}
use Rattle.rart_saved.specs.declared.error.LoadError.TheVariants.{Io, Memory}
use Rattle.rart_saved.specs.Forms.{IsVersionOf, entries, entry}
use Rattle.rart_saved.specs.FamilyForms.{IsFamilyOf, as_setting, optional, place, places, saved_family, version_behind}
use Rattle.rart_saved.specs.Keys.{IsNext}
use Rattle.rart_saved.specs.Loads.{HasKeysWithin}
use Rattle.rart_saved.specs.Refusals.{IsTooLong}

-- Neither the byte that tells of nothing behind it nor the one that tells of something is there.
abbrev pub LacksMark : List ℕ → Type 0
LacksMark bytes = (is_there : Bool) (rest : List ℕ) → bytes ≢ from_bool is_there ∷ rest

-- Each key of each version of the family is within this limit.
abbrev pub HasVersionsWithin : {V : Type 0} → Option ℕ → Family V → Type 0
HasVersionsWithin {V} longest family =
    (one : Option (Version V)) → Contains family one → IfSome one (HasKeysWithin longest)

module _ {V : Type 0} (written : V → List ℕ) (same : V → V → Bool) (most : Option ℕ) where
  -- No change of this map that may come next has its form where these bytes begin.
  abbrev pub LacksSetting : Map V → Bool → List ℕ → List ℕ → Type 0
  LacksSetting old is_first before bytes = (key : List ℕ) (now : Option V) (rest : List ℕ)
      → IsNext is_first before key → IsKeyLength most (length key)
      → IsTrue (differ same (finite.get old key) now)
      → bytes ≢ entry (optional written) before (key, now) ++ rest

  -- So many changes lead from this map to none whose keys have at most this length.
  abbrev pub LacksSettings : Map V → ℕ → List ℕ → Type 0
  LacksSettings old count bytes = (new : Map V) (rest : List ℕ)
      → length (changes same old new) ≡ count
      → ((key : List ℕ) → IsTrue (finite.contains_key new key) → IsKeyLength most (length key))
      → bytes ≢ entries (optional written) [] (map as_setting (changes same old new)) ++ rest

  -- No version has its form there behind this map,
  abbrev pub LacksVersionBehind : Map V → List ℕ → Type 0
  LacksVersionBehind before bytes = (v : Version V) (rest : List ℕ) → IsVersionOf most v
      → bytes ≢ version_behind written same before v ++ rest

  -- no place,
  abbrev pub LacksPlace : Map V → List ℕ → Type 0
  LacksPlace before bytes = (one : Option (Version V)) (rest : List ℕ)
      → IfSome one (IsVersionOf most) → bytes ≢ place written same before one ++ rest

  -- no family of so many.
  abbrev pub LacksPlaces : ℕ → List ℕ → Type 0
  LacksPlaces count bytes = (family : Family V) (rest : List ℕ) → length family ≡ count
      → IsFamilyOf most family → bytes ≢ places written same finite.empty family ++ rest

  -- The bytes are no family's whose keys have at most this length.
  abbrev pub LacksFamily : ℕ → List ℕ → Type 0
  LacksFamily kind bytes = (family : Family V) → IsFamilyOf most family
      → bytes ≢ saved_family written same kind family

module _ {V : Type 0} (written : V → List ℕ) (same : V → V → Bool) (kind : ℕ) where
  -- Where the bytes are a family's whose keys have at most this length, the answer is that family,
  -- or memory was refused.
  abbrev pub GivesBackFamily : Option ℕ → Result (Family V) LoadError → List ℕ → Type 0
  GivesBackFamily most result bytes = (family : Family V) → IsFamilyOf most family
      → bytes ≡ saved_family written same kind family
      → MatchResult result (λ found. found ≡ family) (λ error. error ≡ Memory)

  -- The same; or a key is longer than a limit, and the answer says so.
  abbrev pub GivesBackFamilyWithin : Option ℕ → Option ℕ → Result (Family V) LoadError → List ℕ
      → Type 0
  GivesBackFamilyWithin longest most result bytes = (family : Family V) → IsFamilyOf most family
      → bytes ≡ saved_family written same kind family
      → MatchResult result (λ found. found ≡ family)
      (λ error. (error ≡ Memory) ⊎ (IsTooLong error × ¬ (HasVersionsWithin longest family)))

  -- The same as `GivesBackFamily`, or reading failed.
  abbrev pub GivesBackFamilyUnlessIo : Option ℕ → Result (Family V) LoadError → List ℕ → Type 0
  GivesBackFamilyUnlessIo most result bytes = (family : Family V) → IsFamilyOf most family
      → bytes ≡ saved_family written same kind family
      → MatchResult result (λ found. found ≡ family) (λ error. (error ≡ Memory) ⊎ (error ≡ Io))

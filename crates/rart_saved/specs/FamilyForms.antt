-- The one form that a family of versions has as bytes: of each version what changed from the one
-- before it.
use Rattle.std.specs.Prelude.{ℕ, Bool, List, [], ◌∷◌, ◌++◌, Option, Some, None, Contains, IfSome, length, map, codes}
use Rattle.std.specs.FinMap as finite
use Rattle.sha2.specs.Sha256.{sha256}
use Rattle.rart_maps.specs.ChangeLists.{Change, changes}
use Rattle.rart_maps.specs.Versions.{Map, Version}
use Rattle.rart_family.specs.Families.{Family}
use Rattle.rart_saved.specs.Forms.{IsVersionOf, entries}
use Rattle.rart_saved.specs.Numbers.{leb}

-- the name of all files of families, the number of the format, and the kind of values
unfoldable pub family_head : ℕ → List ℕ
family_head kind = codes "lineage" ++ 1 ∷ kind ∷ []

module _ {V : Type 0} where
  -- a change as a pair: its key, and what is there now
  abbrev pub as_setting : Change V → List ℕ × Option V
  as_setting change = (change.0, change.2)

  -- the map of the version at a place, or the one before it where there is none
  abbrev pub content_or : Map V → Option (Version V) → Map V
  content_or before None = before
  content_or before (Some v) = v.content

module _ {V : Type 0} (written : V → List ℕ) where
  -- a value, or that there is none
  unfoldable pub optional : Option V → List ℕ
  optional None = 0 ∷ []
  optional (Some x) = 1 ∷ written x

-- Two values are the same by `same`.
module _ {V : Type 0} (written : V → List ℕ) (same : V → V → Bool) where
  -- How many keys differ from one map to another, and these, each with what is there now.
  unfoldable pub difference : Map V → Map V → List ℕ
  difference old new =
      leb (length (changes same old new))
      ++ entries (optional written) [] (map as_setting (changes same old new))

  -- A version behind a map: its number, and what changed.
  unfoldable pub version_behind : Map V → Version V → List ℕ
  version_behind before v = leb v.number ++ difference before v.content

  -- A place behind a map: a version, or that there is none.
  abbrev pub place : Map V → Option (Version V) → List ℕ
  place before one = optional (version_behind before) one

  -- Places, each behind the map of the last version before it.
  unfoldable pub places : Map V → Family V → List ℕ
  places before [] = []
  places before (one ∷ later) = place before one ++ places (content_or before one) later

  -- all but the sum: the head, how many places there are, and these
  unfoldable pub family_body : ℕ → Family V → List ℕ
  family_body kind family =
      family_head kind ++ leb (length family) ++ places finite.empty family

  -- A family as bytes: its body, and the SHA-256 sum of that.
  unfoldable pub saved_family : ℕ → Family V → List ℕ
  saved_family kind family = family_body kind family ++ sha256 (family_body kind family)

module _ {V : Type 0} where
  -- Trees whose keys have at most this length may be the versions of this family.
  abbrev pub IsFamilyOf : Option ℕ → Family V → Type 0
  IsFamilyOf most family =
      (one : Option (Version V)) → Contains family one → IfSome one (IsVersionOf most)

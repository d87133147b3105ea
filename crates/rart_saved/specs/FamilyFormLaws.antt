-- What the form of a family fixes, and which families are within a limit on keys.
use Rattle.std.specs.Prelude.{◌≡◌, ◌≢◌, ◌↔◌, ℕ, Bool, List, [], ◌∷◌, ◌++◌, Option, IfSome}
use Rattle.rart_maps.specs.ChangeLaws.{Decides}
use Rattle.rart_maps.specs.ChangeLists.{Change}
use Rattle.rart_maps.specs.Versions.{Version}
use Rattle.rart_family.specs.Families.{Family}
use Rattle.rart_saved.specs.ChangeForms.{saved_changes}
use Rattle.rart_saved.specs.FamilyForms.{saved_family}
use Rattle.rart_saved.specs.FamilyLoads.{HasVersionsWithin}
use Rattle.rart_saved.specs.Forms.{saved}
use Rattle.rart_saved.specs.Loads.{HasKeysWithin}

module _ {V : Type 0} (written : V → List ℕ) (same : V → V → Bool) (kind : ℕ) where
  -- Families of the same form are equal.
  abbrev pub FamilyFormsAreOfOne : Type 0
  FamilyFormsAreOfOne = Decides same → (one other : Family V)
      → saved_family written same kind one ≡ saved_family written same kind other
      → one ≡ other

  -- No family's form begins another's.
  abbrev pub FamilyFormsStandApart : Type 0
  FamilyFormsStandApart = Decides same → (one other : Family V) (r s : List ℕ)
      → saved_family written same kind one ++ r ≡ saved_family written same kind other ++ s
      → (one ≡ other) × (r ≡ s)

  -- No version's form is a family's, and neither begins the other.
  abbrev pub FamiliesAreNoVersion : Type 0
  FamiliesAreNoVersion = (v : Version V) (family : Family V) (r s : List ℕ)
      → saved written kind v ++ r ≢ saved_family written same kind family ++ s

  -- The same of a list of changes.
  abbrev pub FamiliesAreNoChanges : Type 0
  FamiliesAreNoChanges = (list : List (Change V)) (family : Family V) (r s : List ℕ)
      → saved_changes written kind list ++ r ≢ saved_family written same kind family ++ s

-- A family without a place is within any limit on keys. A family is within it where the version of
-- its first place is, if there is one, and the family of the other places is.
abbrev pub LimitsAreOfEachVersion : Type 0 → Type 0
LimitsAreOfEachVersion V = (longest : Option ℕ) → HasVersionsWithin {V = V} longest []
    × ((one : Option (Version V)) (rest : Family V) → HasVersionsWithin longest (one ∷ rest)
    ↔ (IfSome one (HasKeysWithin longest) × HasVersionsWithin longest rest))

-- The worked forms of families, by computation.
use Rattle.std.proofs.Common.{◌≡◌, ℕ, List, [], ◌∷◌, ◌++◌, Some, None, length, map, refl, ap}
use Rattle.std.specs.Prelude.{codes}
use Rattle.std.specs.FinMap as finite
use Rattle.rart_maps.specs.ChangeLists.{Change, changes}
use Rattle.rart_maps.specs.Versions.{Map}
use Rattle.rart_maps.proofs.MapLemmas.{maps}
use Rattle.rart_saved.specs.FamilyForms.{as_setting, difference, family_body, family_head, optional, places, version_behind}
use Rattle.rart_saved.specs.Forms.{entries, entry, key_form}
use Rattle.rart_saved.specs.Numbers.{groups, leb}
use Rattle.rart_saved.specs.Values.{bytes_of, eight_bytes}
use Rattle.rart_saved.specs.WorkedFamilies.{DiscardedPlace, EmptyFamily, OneEmptyVersion, OneOfEachStep, same_number}

pub empty_family : EmptyFamily
unfolding family_body family_head places leb groups
empty_family = refl

nothing : changes same_number finite.empty finite.empty ≡ []
nothing = simp maps refl

-- a version with these changes
version : ℕ → List (Change ℕ) → List ℕ
version number changed =
    1 ∷ (leb number ++ (leb (length changed)
    ++ entries (optional eight_bytes) [] (map as_setting changed)))

pub one_empty_version : OneEmptyVersion
unfolding family_body family_head places optional version_behind difference version entries leb
    groups
one_empty_version =
    ap (λ changed. family_head 1 ++ leb 1 ++ (version 5 changed ++ [])) nothing

pub discarded_place : DiscardedPlace
unfolding family_body family_head places optional version_behind difference version entries leb
    groups
discarded_place =
    ap (λ changed. family_head 1 ++ leb 2 ++ ((0 ∷ []) ++ (version 0 changed ++ []))) nothing

first : Map ℕ
first = finite.from_entries ((codes "a", 1) ∷ (codes "b", 2) ∷ (codes "c", 3) ∷ [])

later : Map ℕ
later = finite.from_entries ((codes "a", 4) ∷ (codes "c", 3) ∷ (codes "d", 5) ∷ [])

changes_to_first : changes same_number finite.empty first
    ≡ (codes "a", None, Some 1) ∷ (codes "b", None, Some 2) ∷ (codes "c", None, Some 3) ∷ []
unfolding first
changes_to_first = simp maps refl

changes_to_later : changes same_number first later
    ≡ (codes "a", Some 1, Some 4) ∷ (codes "b", Some 2, None) ∷ (codes "d", None, Some 5) ∷ []
unfolding first later
changes_to_later = simp maps refl

pub one_of_each_step : OneOfEachStep
unfolding family_body family_head places optional version_behind difference version entries entry
    key_form leb groups eight_bytes bytes_of first later
one_of_each_step =
    λ i. family_head 1 ++ leb 3 ++ (version 3 (changes_to_first i)
    ++ ((0 ∷ []) ++ (version 6 (changes_to_later i) ++ [])))

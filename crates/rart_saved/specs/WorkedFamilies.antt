-- Worked forms of families, written out by hand, without sums.
use Rattle.std.specs.Prelude.{◌≡◌, ◌==◌, ℕ, Bool, [], ◌∷◌, ◌++◌, Some, None, codes}
use Rattle.std.specs.FinMap as finite
use Rattle.rart_maps.specs.Versions.{empty_at}
use Rattle.rart_saved.specs.FamilyForms.{family_body}
use Rattle.rart_saved.specs.Values.{eight_bytes}
use Rattle.rart_saved.specs.WorkedForms.{at_number}

abbrev pub same_number : ℕ → ℕ → Bool
same_number x y = x == y

-- No place: the head, and that there is none.
abbrev pub EmptyFamily : Type 0
EmptyFamily = family_body eight_bytes same_number 1 [] ≡ codes "lineage" ++ 1 ∷ 1 ∷ 0 ∷ []

-- One empty version: that it is there, its number, and that nothing changed.
abbrev pub OneEmptyVersion : Type 0
OneEmptyVersion = family_body eight_bytes same_number 1 (Some (empty_at 5) ∷ [])
    ≡ codes "lineage" ++ 1 ∷ 1 ∷ 1 ∷ 1 ∷ 5 ∷ 0 ∷ []

-- A discarded place is one byte.
abbrev pub DiscardedPlace : Type 0
DiscardedPlace = family_body eight_bytes same_number 1 (None ∷ Some (empty_at 0) ∷ [])
    ≡ codes "lineage" ++ 1 ∷ 1 ∷ 2 ∷ 0 ∷ 1 ∷ 0 ∷ 0 ∷ []

-- Behind a version that has `a`, `b` and `c`, one in which `a` is replaced, `b` taken out and `d`
-- put in: three changes, and nothing of `c`.
abbrev pub OneOfEachStep : Type 0
OneOfEachStep = family_body eight_bytes same_number 1
    (Some (at_number (finite.from_entries
    ((codes "a", 1) ∷ (codes "b", 2) ∷ (codes "c", 3) ∷ [])) 3)
    ∷ None
    ∷ Some (at_number (finite.from_entries
    ((codes "a", 4) ∷ (codes "c", 3) ∷ (codes "d", 5) ∷ [])) 6)
    ∷ [])
    ≡ codes "lineage" ++ 1 ∷ 1 ∷ 3
    ∷ 1 ∷ 3 ∷ 3
    ∷ 0 ∷ 1 ∷ 97 ∷ 1 ∷ 1 ∷ 0 ∷ 0 ∷ 0 ∷ 0 ∷ 0 ∷ 0 ∷ 0
    ∷ 0 ∷ 1 ∷ 98 ∷ 1 ∷ 2 ∷ 0 ∷ 0 ∷ 0 ∷ 0 ∷ 0 ∷ 0 ∷ 0
    ∷ 0 ∷ 1 ∷ 99 ∷ 1 ∷ 3 ∷ 0 ∷ 0 ∷ 0 ∷ 0 ∷ 0 ∷ 0 ∷ 0
    ∷ 0
    ∷ 1 ∷ 6 ∷ 3
    ∷ 0 ∷ 1 ∷ 97 ∷ 1 ∷ 4 ∷ 0 ∷ 0 ∷ 0 ∷ 0 ∷ 0 ∷ 0 ∷ 0
    ∷ 0 ∷ 1 ∷ 98 ∷ 0
    ∷ 0 ∷ 1 ∷ 100 ∷ 1 ∷ 5 ∷ 0 ∷ 0 ∷ 0 ∷ 0 ∷ 0 ∷ 0 ∷ 0 ∷ []

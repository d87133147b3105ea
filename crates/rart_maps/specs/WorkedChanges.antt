-- Worked values of changes and conflicts, found by hand.
use Rattle.std.specs.Prelude.{◌≡◌, ◌==◌, ℕ, [], ◌∷◌, Some, None, codes, map}
use Rattle.std.specs.FinMap as finite
use Rattle.rart_maps.specs.Versions.{Map}
use Rattle.rart_maps.specs.ChangeLists.{changes, effects, patched, reversed}
use Rattle.rart_maps.specs.Merges.{conflicts}

abbrev pub before : Map ℕ
before = finite.from_entries ((codes "a", 1) ∷ (codes "b", 2) ∷ (codes "bc", 3) ∷ [])

abbrev pub after : Map ℕ
after = finite.from_entries ((codes "b", 2) ∷ (codes "bc", 4) ∷ (codes "c", 5) ∷ [])

abbrev pub other : Map ℕ
other = finite.from_entries ((codes "a", 1) ∷ (codes "b", 6) ∷ (codes "bc", 7) ∷ [])

-- One key goes, one stays, one has another value, one comes.
abbrev pub ChangesOfFour : Type 0
ChangesOfFour = changes (λ x y. x == y) before after
    ≡ (codes "a", Some 1, None) ∷ (codes "bc", Some 3, Some 4) ∷ (codes "c", None, Some 5) ∷ []

-- Made on another map: what it alone changed stays.
abbrev pub patch : Map ℕ
patch = patched other (changes (λ x y. x == y) before after)

abbrev pub PatchOfAnother : Type 0
PatchOfAnother = (finite.get patch (codes "a") ≡ None) × (finite.get patch (codes "b") ≡ Some 6)
    × (finite.get patch (codes "bc") ≡ Some 4) × (finite.get patch (codes "c") ≡ Some 5)

-- "a" is to go, which is in the one map and not in the other.
abbrev pub EffectsOnTwo : Type 0
EffectsOnTwo = (effects other (changes (λ x y. x == y) before after) ≡ 3)
    × (effects after (changes (λ x y. x == y) before after) ≡ 2)

-- Both changed "bc", and not to the same.
abbrev pub ConflictOfOne : Type 0
ConflictOfOne = conflicts (λ x y. x == y) before after other
    ≡ (codes "bc", Some 3, Some 4, Some 7) ∷ []

-- From the other side it has theirs first.
abbrev pub ConflictOfTheOther : Type 0
ConflictOfTheOther = conflicts (λ x y. x == y) before other after
    ≡ (codes "bc", Some 3, Some 7, Some 4) ∷ []

-- Reversed, the changes bring "a" back, the old value of "bc", and take "c" out.
abbrev pub undone : Map ℕ
undone = patched after (map reversed (changes (λ x y. x == y) before after))

abbrev pub UndoneFromAfter : Type 0
UndoneFromAfter = (finite.get undone (codes "a") ≡ Some 1)
    × (finite.get undone (codes "b") ≡ Some 2) × (finite.get undone (codes "bc") ≡ Some 3)
    × (finite.get undone (codes "c") ≡ None)

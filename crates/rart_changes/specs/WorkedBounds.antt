-- Worked values of the bounds, of sets within each other, and of what touches a key, found by hand.
use Rattle.std.specs.Prelude.{◌≡◌, ℕ, [], ◌∷◌, Some, None, true, false, codes}
use Rattle.rart_maps.specs.Pairs.{Strings}
use Rattle.rart_maps.specs.Versions.{empty_at, with_key, without_key}
use Rattle.rart_changes.specs.ChangeVisits.{changes_bound, changes_least}
use Rattle.rart_changes.specs.ConflictVisits.{conflicts_bound, conflicts_least}
use Rattle.rart_changes.specs.Merging.{held_in_either}
use Rattle.rart_changes.specs.Rebasing.{IsWithin}
use Rattle.rart_changes.specs.Tracking.{Tracking, after_insertion, after_removal, no_key, tracking_from, updated, with_string}

abbrev pub one_key : Strings
one_key = with_string no_key (codes "a")

abbrev pub two_keys : Strings
two_keys = with_string one_key (codes "bc")

-- Two for each of the two keys. A lookup of the one enters two at most, of the other three, and
-- each is looked up in two maps.
abbrev pub ChangesOfTwo : Type 0
ChangesOfTwo = changes_bound two_keys ≡ 14

-- The same, but each is looked up in three maps.
abbrev pub ConflictsOfTwo : Type 0
ConflictsOfTwo = conflicts_bound two_keys ≡ 19

-- two keys touched since a map without one, of which one is there
abbrev pub one_of_two : Tracking ℕ
one_of_two =
    record { base = empty_at 0; current = with_key (empty_at 0) (codes "a") 7 2; touched = two_keys }

-- the same, but that the one was there at first, and is gone
abbrev pub none_of_two : Tracking ℕ
none_of_two =
    record { base = with_key (empty_at 0) (codes "a") 7 1; current = empty_at 3; touched = two_keys }

-- At least one for each of the two keys, and one more for each in the one of two maps with a key,
-- or in two of three.
abbrev pub LeastOfTwo : Type 0
LeastOfTwo = (changes_least one_of_two ≡ 4)
    × (changes_least none_of_two ≡ 4)
    × (conflicts_least one_of_two one_of_two.current ≡ 6)
    × (conflicts_least one_of_two one_of_two.base ≡ 4)
    × (conflicts_least none_of_two none_of_two.current ≡ 4)

-- The other key is not in the one set.
abbrev pub OneWithinTwo : Type 0
OneWithinTwo = IsWithin one_key two_keys × ¬ IsWithin two_keys one_key

-- begun with a map with one key, at number 1
abbrev pub begun : Tracking ℕ
begun = tracking_from (with_key (empty_at 0) (codes "a") 7 1)

-- Setting a key touches it, and so does taking it out where it is there, and an update where it
-- answers `true`. Of an absent key removal leaves all, and so does an update that answers `false`.
-- What the base has there makes no difference, and the base stays.
abbrev pub KeysAreTouched : Type 0
KeysAreTouched =
    (begun ≡ record { base = begun.current; current = begun.current; touched = no_key })
    × (after_insertion begun (codes "bc") 8
    ≡ record {
      base = begun.base;
      current = with_key begun.current (codes "bc") 8 1;
      touched = with_string no_key (codes "bc");
    })
    × (after_removal begun (codes "a")
    ≡ record {
      base = begun.base;
      current = without_key begun.current (codes "a") 1;
      touched = one_key;
    })
    × (after_removal begun (codes "bc") ≡ begun)
    × (updated begun (codes "a") true (empty_at 2)
    ≡ record { base = begun.base; current = empty_at 2; touched = one_key })
    × (updated begun (codes "a") false begun.current ≡ begun)
    × (after_insertion none_of_two (codes "d") 8
    ≡ record {
      base = none_of_two.base;
      current = with_key none_of_two.current (codes "d") 8 1;
      touched = with_string two_keys (codes "d");
    })
    × (after_removal none_of_two (codes "a") ≡ none_of_two)
    × (after_removal one_of_two (codes "a")
    ≡ record {
      base = one_of_two.base;
      current = without_key one_of_two.current (codes "a") 1;
      touched = with_string two_keys (codes "a");
    })

-- Of the keys of three changes one is there before and one after; the third is in neither map.
abbrev pub HeldInEither : Type 0
HeldInEither =
    held_in_either none_of_two.base.content (with_key (empty_at 0) (codes "bc") 9 1).content
    ((codes "a", Some 7, None) ∷ (codes "bc", None, Some 9) ∷ (codes "d", None, None) ∷ [])
    ≡ 2

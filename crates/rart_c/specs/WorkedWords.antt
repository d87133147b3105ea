-- What the words of contracts come to: worked values, found by hand, and what lengths and counts
-- tell.
use Rattle.std.specs.Prelude.{◌≡◌, ◌+◌, ℕ, List, [], ◌∷◌, Some, None, Ok, Err, codes, length, true, false}
use Rattle.std.specs.declared.alloc.AllocError.{AllocError}
use Rattle.std.specs.declared.ops.Bound.TheVariants.{Included, Excluded, Unbounded}
use Rattle.rart_c.specs.Answers.{told_equal}
use Rattle.rart_c.specs.Choices.{after_addition}
use Rattle.rart_c.specs.Longest.{longest_length}
use Rattle.rart_c.specs.Pages.{bound_of, lengths_of, string_entry_of, strings_of}
use Rattle.rart_c.specs.Under.{some_under}
use Rattle.rart_maps.specs.Pairs.{longest_prefix_match, under}
use Rattle.rart_maps.specs.Versions.{Version, empty_at, with_key}

-- A bound at a key by its kind: included, excluded, or none, which each greater number says.
abbrev pub WorkedBounds : Type 0
WorkedBounds =
    (bound_of 0 (codes "a") ≡ Included (codes "a"))
    × (bound_of 1 (codes "a") ≡ Excluded (codes "a"))
    × (bound_of 2 (codes "a") ≡ Unbounded)
    × (bound_of 255 (codes "a") ≡ Unbounded)

-- Of a pair a page of byte strings has the key and the value behind it, and where each ends.
abbrev pub WorkedStrings : Type 0
WorkedStrings =
    (strings_of (codes "ab", codes "xyz") ≡ codes "abxyz")
    × (string_entry_of 4 (codes "ab", codes "xyz") ≡ record { key_end = 6; end = 9 })
    × (lengths_of (codes "ab", codes "xyz") ≡ (2, 3))

-- what a comparison answers
abbrev pub WorkedComparisons : Type 0
WorkedComparisons =
    (told_equal (Ok true) ≡ 0) × (told_equal (Ok false) ≡ 8)
    × ((refused : AllocError) → told_equal (Err refused) ≡ 3)

abbrev pub one_key : Version ℕ
one_key = with_key (empty_at 0) (codes "a") 1 1

-- A key is added where it is absent. Else all stays.
abbrev pub WorkedAdditions : Type 0
WorkedAdditions =
    (after_addition one_key (codes "a") 2 ≡ one_key)
    × (after_addition one_key (codes "b") 2 ≡ with_key one_key (codes "b") 2 1)

module _ (V : Type 0) where
  -- The longest match is told by how long its key is, and its value.
  abbrev pub LongestIsTold : Type 0
  LongestIsTold = (v : Version V) (probe key : List ℕ) (value : V)
      → (longest_prefix_match v.content probe ≡ Some (key, value)
      → longest_length v probe ≡ Some (length key, value))
      × (longest_prefix_match v.content probe ≡ None → longest_length v probe ≡ None)

  -- How many keys a prefix begins is told where there is one.
  abbrev pub CountIsTold : Type 0
  CountIsTold = (v : Version V) (prefix : List ℕ) (first : List ℕ × V) (others : List (List ℕ × V))
      → (under v.content prefix ≡ first ∷ others
      → some_under v prefix ≡ Some (length others + 1))
      × (under v.content prefix ≡ [] → some_under v prefix ≡ None)

-- Worked values of what is read off maps, found by hand.
use Rattle.std.specs.Prelude.{◌≡◌, ℕ, [], ◌∷◌, Some, None, IsTrue, codes}
use Rattle.std.specs.declared.ops.Bound.TheVariants.{Included, Excluded, Unbounded}
use Rattle.std.specs.FinMap as finite
use Rattle.std.specs.FinSet as set
use Rattle.rart_maps.specs.Versions.{Map}
use Rattle.rart_maps.specs.Pairs.{within, under, prefix_matches, longest_prefix_match, common, shared}

abbrev pub letters : Map ℕ
letters = finite.from_entries
    ((codes "c", 3) ∷ (codes "a", 1) ∷ (codes "ca", 4) ∷ (codes "b", 2) ∷ [])

-- ---- within two bounds

-- Both bounds include their key.
abbrev pub WithinIncluded : Type 0
WithinIncluded = within letters (Included (codes "a")) (Included (codes "c"))
    ≡ (codes "a", 1) ∷ (codes "b", 2) ∷ (codes "c", 3) ∷ []

-- Both bounds exclude their key.
abbrev pub WithinExcluded : Type 0
WithinExcluded = within letters (Excluded (codes "a")) (Excluded (codes "c")) ≡ (codes "b", 2) ∷ []

-- A bound need not be a key of the map.
abbrev pub WithinOtherKeys : Type 0
WithinOtherKeys = within letters (Included (codes "aa")) (Excluded (codes "caa"))
    ≡ (codes "b", 2) ∷ (codes "c", 3) ∷ (codes "ca", 4) ∷ []

-- One bound alone.
abbrev pub WithinLowAlone : Type 0
WithinLowAlone = within letters (Excluded (codes "b")) Unbounded
    ≡ (codes "c", 3) ∷ (codes "ca", 4) ∷ []

abbrev pub WithinHighAlone : Type 0
WithinHighAlone = within letters Unbounded (Included (codes "b"))
    ≡ (codes "a", 1) ∷ (codes "b", 2) ∷ []

-- No key lies within bounds the other way round.
abbrev pub WithinReversed : Type 0
WithinReversed = within letters (Included (codes "c")) (Included (codes "a")) ≡ []

-- Of one key twice, the bounds include it alone or exclude all.
abbrev pub WithinOneKey : Type 0
WithinOneKey = within letters (Included (codes "b")) (Included (codes "b")) ≡ (codes "b", 2) ∷ []

abbrev pub WithinNoKey : Type 0
WithinNoKey = within letters (Excluded (codes "b")) (Excluded (codes "b")) ≡ []

-- ---- under a prefix

abbrev pub words : Map ℕ
words = finite.from_entries
    ((codes "abcxyz", 2) ∷ (codes "abd", 3) ∷ (codes "abcdef", 1) ∷ [])

abbrev pub UnderTwo : Type 0
UnderTwo = under words (codes "abc") ≡ (codes "abcdef", 1) ∷ (codes "abcxyz", 2) ∷ []

-- The prefix ends inside the part that one key has alone.
abbrev pub UnderOne : Type 0
UnderOne = under words (codes "abcde") ≡ (codes "abcdef", 1) ∷ []

-- A key is under itself, and the empty string begins each.
abbrev pub UnderItself : Type 0
UnderItself = under words (codes "abd") ≡ (codes "abd", 3) ∷ []

abbrev pub UnderEmpty : Type 0
UnderEmpty = under words [] ≡ (codes "abcdef", 1) ∷ (codes "abcxyz", 2) ∷ (codes "abd", 3) ∷ []

abbrev pub UnderNone : Type 0
UnderNone = under words (codes "abdx") ≡ []

-- ---- keys that begin a string

abbrev pub stems : Map ℕ
stems = finite.from_entries
    ((codes "ab", 2) ∷ ([], 0) ∷ (codes "abc", 3) ∷ (codes "b", 4) ∷ (codes "a", 1) ∷ [])

abbrev pub PrefixMatchesShortestFirst : Type 0
PrefixMatchesShortestFirst = prefix_matches stems (codes "abd")
    ≡ ([], 0) ∷ (codes "a", 1) ∷ (codes "ab", 2) ∷ []

-- A key begins itself, and no shorter string.
abbrev pub PrefixMatchesOfKey : Type 0
PrefixMatchesOfKey = prefix_matches stems (codes "b") ≡ ([], 0) ∷ (codes "b", 4) ∷ []

abbrev pub PrefixMatchesNone : Type 0
PrefixMatchesNone = prefix_matches words (codes "abc") ≡ []

-- The longest of them, which may be the string itself or the empty one.
abbrev pub LongestInside : Type 0
LongestInside = longest_prefix_match stems (codes "abd") ≡ Some (codes "ab", 2)

abbrev pub LongestIsItself : Type 0
LongestIsItself = longest_prefix_match stems (codes "b") ≡ Some (codes "b", 4)

abbrev pub LongestIsEmpty : Type 0
LongestIsEmpty = longest_prefix_match stems (codes "cab") ≡ Some ([], 0)

abbrev pub LongestNone : Type 0
LongestNone = longest_prefix_match words (codes "abc") ≡ None

-- ---- keys in common

abbrev pub more_letters : Map ℕ
more_letters = finite.from_entries
    ((codes "cab", 50) ∷ (codes "c", 30) ∷ (codes "aa", 40) ∷ (codes "b", 20) ∷ [])

-- The left map's value comes first.
abbrev pub CommonLeftFirst : Type 0
CommonLeftFirst = common letters more_letters ≡ (codes "b", 2, 20) ∷ (codes "c", 3, 30) ∷ []

-- A key of the one that only begins a key of the other is not in common.
abbrev pub CommonNone : Type 0
CommonNone = common words stems ≡ []

abbrev pub few : Map ℕ
few = finite.from_entries ((codes "a", 1) ∷ (codes "ab", 2) ∷ (codes "b", 3) ∷ [])

abbrev pub tens : Map ℕ
tens = finite.from_entries ((codes "ab", 20) ∷ (codes "b", 30) ∷ (codes "c", 40) ∷ [])

abbrev pub CommonOfTwo : Type 0
CommonOfTwo = common few tens ≡ (codes "ab", 2, 20) ∷ (codes "b", 3, 30) ∷ []

abbrev pub one_key : ℕ → Map ℕ
one_key value = finite.from_entries ((codes "abc", value) ∷ [])

abbrev pub CommonOfOne : Type 0
CommonOfOne = common (one_key 1) (one_key 10) ≡ (codes "abc", 1, 10) ∷ []

-- With a map of no key nothing is in common.
abbrev pub CommonOfEmpty : Type 0 → Type 0
CommonOfEmpty V = (m : Map V) → (common finite.empty m ≡ []) × (common m finite.empty ≡ [])

-- ---- strings that begin keys of both

-- Four, "", a, ab and b. The key a of the one only begins a key of the other.
abbrev pub SharedOfTwo : Type 0
SharedOfTwo = (set.len (shared few tens) ≡ 4)
    × IsTrue (set.contains (shared few tens) [])
    × IsTrue (set.contains (shared few tens) (codes "a"))
    × IsTrue (set.contains (shared few tens) (codes "ab"))
    × IsTrue (set.contains (shared few tens) (codes "b"))

-- Each prefix of the key, "", a, ab and abc.
abbrev pub SharedOfOne : Type 0
SharedOfOne = set.len (shared (one_key 1) (one_key 10)) ≡ 4

-- With a map of no key none is shared.
abbrev pub SharedOfEmpty : Type 0 → Type 0
SharedOfEmpty V = (m : Map V) →
    (set.len (shared finite.empty m) ≡ 0) × (set.len (shared m finite.empty) ≡ 0)

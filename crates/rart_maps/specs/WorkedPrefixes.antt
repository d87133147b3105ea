-- Worked values of maps cut at a prefix, found by hand.
use Rattle.std.specs.Prelude.{◌≡◌, ℕ, [], ◌∷◌, codes}
use Rattle.std.specs.FinMap as finite
use Rattle.rart_maps.specs.Pairs.{pairs}
use Rattle.rart_maps.specs.Prefixes.{pairs_under, without_prefix, with_prefix_of}
use Rattle.rart_maps.specs.Versions.{Map}

-- today's keys, and yesterday's
abbrev pub today : Map ℕ
today = finite.from_entries
    ((codes "a", 1) ∷ (codes "ab", 2) ∷ (codes "abc", 3) ∷ (codes "ac", 4) ∷ (codes "b", 5) ∷ [])

abbrev pub yesterday : Map ℕ
yesterday = finite.from_entries ((codes "aba", 20) ∷ (codes "abc", 30) ∷ (codes "b", 50) ∷ [])

-- The key that is the prefix is under it, and one that begins it is not.
abbrev pub UnderKeepsTheKeyItself : Type 0
UnderKeepsTheKeyItself = pairs (pairs_under today (codes "ab"))
    ≡ (codes "ab", 2) ∷ (codes "abc", 3) ∷ []

-- A neighbour that shares a part of the prefix stays.
abbrev pub WithoutKeepsNeighbours : Type 0
WithoutKeepsNeighbours = pairs (without_prefix today (codes "ab"))
    ≡ (codes "a", 1) ∷ (codes "ac", 4) ∷ (codes "b", 5) ∷ []

-- Under the prefix all is as it was yesterday: a key that was not there goes, one comes back.
abbrev pub RestoredTakesTheOthers : Type 0
RestoredTakesTheOthers = pairs (with_prefix_of (codes "ab") yesterday today)
    ≡ (codes "a", 1) ∷ (codes "aba", 20) ∷ (codes "abc", 30) ∷ (codes "ac", 4)
    ∷ (codes "b", 5) ∷ []

-- Nothing is under a longer prefix than any key.
abbrev pub UnderNothing : Type 0
UnderNothing = pairs (pairs_under today (codes "abcd")) ≡ []

-- Worked forms, written out by hand: all but the sums.
use Rattle.std.specs.Prelude.{◌≡◌, ◌-◌, ◌^◌, ℕ, [], ◌∷◌, ◌++◌, codes}
use Rattle.std.specs.FinMap as finite
use Rattle.rart_maps.specs.Versions.{Map, Version, empty_at}
use Rattle.rart_saved.specs.Forms.{body, saved}
use Rattle.rart_saved.specs.Numbers.{leb}
use Rattle.rart_saved.specs.Values.{eight_bytes, sized}
use Rattle.sha2.specs.Sha256.{sha256}

-- ---- numbers

-- One byte up to 127, and two from there.
abbrev pub NumberOfOneByte : Type 0
NumberOfOneByte = (leb 0 ≡ 0 ∷ []) × (leb 127 ≡ 127 ∷ [])

abbrev pub NumberOfTwoBytes : Type 0
NumberOfTwoBytes = (leb 128 ≡ 128 ∷ 1 ∷ []) × (leb 300 ≡ 172 ∷ 2 ∷ [])

-- The greatest number has ten.
abbrev pub GreatestNumber : Type 0
GreatestNumber = leb (2 ^ 64 - 1)
    ≡ 255 ∷ 255 ∷ 255 ∷ 255 ∷ 255 ∷ 255 ∷ 255 ∷ 255 ∷ 255 ∷ 1 ∷ []

-- As a value a number has eight bytes.
abbrev pub NumberAsValue : Type 0
NumberAsValue = eight_bytes 258 ≡ 2 ∷ 1 ∷ 0 ∷ 0 ∷ 0 ∷ 0 ∷ 0 ∷ 0 ∷ []

-- ---- versions

-- The empty version: the head, its number, and no pair.
abbrev pub EmptyVersion : Type 0
EmptyVersion = body eight_bytes 1 (empty_at 0) ≡ codes "comfrey" ++ 1 ∷ 1 ∷ 0 ∷ 0 ∷ []

-- The greatest number stands in the head alone.
abbrev pub GreatestVersion : Type 0
GreatestVersion = body eight_bytes 1 (empty_at (2 ^ 64 - 1)) ≡ codes "comfrey" ++ 1 ∷ 1
    ∷ 255 ∷ 255 ∷ 255 ∷ 255 ∷ 255 ∷ 255 ∷ 255 ∷ 255 ∷ 255 ∷ 1 ∷ 0 ∷ []

-- a version with this number
abbrev pub at_number : {V : Type 0} → Map V → ℕ → Version V
at_number m n = record { content = m; number = n }

-- The empty key has nothing in common and no byte more.
abbrev pub EmptyKey : Type 0
EmptyKey = body eight_bytes 1 (at_number (finite.from_entries (([], 7) ∷ [])) 3)
    ≡ codes "comfrey" ++ 1 ∷ 1 ∷ 3 ∷ 1 ∷ 0 ∷ 0 ∷ 7 ∷ 0 ∷ 0 ∷ 0 ∷ 0 ∷ 0 ∷ 0 ∷ 0 ∷ []

-- Keys that begin one another, whose values are byte strings, one of them empty.
abbrev pub KeysInKeys : Type 0
KeysInKeys = body sized 2 (at_number (finite.from_entries
    ((codes "ab", codes "x") ∷ (codes "a", []) ∷ (codes "abc", codes "yz") ∷ (codes "b", [])
    ∷ [])) 4)
    ≡ codes "comfrey" ++ 1 ∷ 2 ∷ 4 ∷ 4
    ∷ 0 ∷ 1 ∷ 97 ∷ 0
    ∷ 1 ∷ 1 ∷ 98 ∷ 1 ∷ 120
    ∷ 2 ∷ 1 ∷ 99 ∷ 2 ∷ 121 ∷ 122
    ∷ 0 ∷ 1 ∷ 98 ∷ 0 ∷ []

-- The sum is of all before it.
abbrev pub SumBehind : Type 0
SumBehind = saved eight_bytes 1 (empty_at 0)
    ≡ (codes "comfrey" ++ 1 ∷ 1 ∷ 0 ∷ 0 ∷ []) ++ sha256 (codes "comfrey" ++ 1 ∷ 1 ∷ 0 ∷ 0 ∷ [])

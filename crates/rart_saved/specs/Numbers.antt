-- Numbers as bytes: LEB128 (DWARF 5, 7.6), each number in its shortest form.
use Rattle.std.specs.Prelude.{◌≢◌, ℕ, zero, suc, ◌+◌, ◌/◌, ◌%◌, ◌<◌, ◌^◌, List, [], ◌∷◌, ◌++◌, nat_lt, if◌then◌else◌}

-- A number in groups of seven bits, the least first, as few as it takes but at most so many and
-- one. Each byte but the last has 128 more than its group.
unfoldable pub groups : ℕ → ℕ → List ℕ
groups zero n = n ∷ []
groups (suc more) n = if nat_lt n 128 then n ∷ [] else (n % 128 + 128) ∷ groups more (n / 128)

-- The form of a number below 2^64. It has ten groups at most.
unfoldable pub leb : ℕ → List ℕ
leb n = groups 9 n

-- No number's form begins these bytes.
abbrev pub LacksNumber : List ℕ → Type 0
LacksNumber bytes = (n : ℕ) (rest : List ℕ) → n < 2 ^ 64 → bytes ≢ leb n ++ rest

-- The same of numbers that so many groups and one hold.
abbrev pub LacksGroups : ℕ → List ℕ → Type 0
LacksGroups more bytes = (n : ℕ) (rest : List ℕ) → n < 2 ^ 64 → n < 128 ^ suc more
    → bytes ≢ groups more n ++ rest

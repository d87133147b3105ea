-- Byte strings: lists of numbers 0 to 255.
use Rattle.std.specs.Prelude.{ℕ, suc, ◌≤◌, ◌==◌, ◌&&◌, Bool, true, false, List, [], ◌∷◌, Option, Some, None, if◌then◌else◌, ⊤}
use Rattle.std.specs.declared.cmp.Ordering.{Ordering}
use Rattle.std.specs.Ordering.{nat_cmp}
use Rattle.std.specs.Cmp.Lexicographic.{slice_cmp}

-- Byte strings are in lexicographic order, a string before the longer ones that it begins.
abbrev pub byte_order : List ℕ → List ℕ → Ordering
byte_order = slice_cmp nat_cmp

-- u begins w. It may be empty, or equal w.
abbrev pub begins : List ℕ → List ℕ → Bool
begins [] w = true
begins (b ∷ u) [] = false
begins (b ∷ u) (c ∷ w) = b == c && begins u w

-- the length of the longest common prefix
abbrev pub common_length : List ℕ → List ℕ → ℕ
common_length [] w = 0
common_length (b ∷ u) [] = 0
common_length (b ∷ u) (c ∷ w) = if b == c then suc (common_length u w) else 0

-- A type of keys or prefixes whose greatest length is this admits that length.
abbrev pub IsAdmitted : Option ℕ → ℕ → Type 0
IsAdmitted None length = ⊤
IsAdmitted (Some most) length = length ≤ most

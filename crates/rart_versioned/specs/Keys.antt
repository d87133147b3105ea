-- Which strings the keys of a version are.
use Rattle.std.specs.Prelude.{ℕ, ◌<◌, ◌^◌, List, Option, All, length}
use Rattle.rart_below.specs.Bytes.{IsAdmitted}

-- A length that a key of the type may have, and that a number of 64 bits holds.
abbrev pub IsKeyLength : Option ℕ → ℕ → Type 0
IsKeyLength most count = IsAdmitted most count × (count < 2 ^ 64)

-- A string of such a length, and of bytes.
abbrev pub IsKey : Option ℕ → List ℕ → Type 0
IsKey most key = IsKeyLength most (length key) × All (λ b. b < 256) key

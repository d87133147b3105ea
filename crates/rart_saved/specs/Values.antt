-- Values as bytes: numbers as eight bytes, byte strings by their length.
use Rattle.std.specs.Prelude.{◌≢◌, ℕ, zero, suc, ◌/◌, ◌%◌, List, [], ◌∷◌, ◌++◌, length}
use Rattle.rart_saved.specs.Numbers.{leb}

-- A number by its bytes, the least first, so many and one. The last has what the others leave.
unfoldable pub bytes_of : ℕ → ℕ → List ℕ
bytes_of zero n = n ∷ []
bytes_of (suc more) n = n % 256 ∷ bytes_of more (n / 256)

-- a number below 2^64
unfoldable pub eight_bytes : ℕ → List ℕ
eight_bytes n = bytes_of 7 n

-- a byte string
unfoldable pub sized : List ℕ → List ℕ
sized w = leb (length w) ++ w

-- No value's form begins these bytes.
abbrev pub LacksValue : {V : Type 0} → (V → List ℕ) → List ℕ → Type 0
LacksValue {V} written bytes = (x : V) (rest : List ℕ) → bytes ≢ written x ++ rest

-- The lines of a listing.
use Rattle.std.specs.Prelude.{◌≡◌, ◌++◌, ℕ, List}
use Rattle.rart_versioned.specs.declared.VectorKey.{VectorKey}

-- a line by the bytes of its name, and its price
abbrev pub line_of : VectorKey × ℕ → List ℕ × ℕ
line_of line = (line.0.bytes.items, line.1)

-- The first list is the second as far as it goes.
abbrev pub IsPrefix : {A : Type 0} → List A → List A → Type 0
IsPrefix {A} front list = (rest : List A) × (list ≡ front ++ rest)

-- The lines of an input, the words of a line, and the number that a word is.
use Rattle.std.specs.Prelude.{ℕ, ◌+◌, ◌-◌, ◌*◌, ◌^◌, List, [], ◌∷◌, length, take, Bool, ◌&&◌, ◌==◌, nat_lt, nat_le, Option, Some, None, if◌then◌else◌}
use Rattle.std.specs.List.{slice_split}
use Rattle.std.specs.Str.{all_ascii_digits}

-- lines with a byte before the first of them, or before the end
abbrev pub onto_line : ℕ → List (List ℕ) → List (List ℕ)
onto_line byte [] = (byte ∷ []) ∷ []
onto_line byte (line ∷ lines) = (byte ∷ line) ∷ lines

-- The lines of a text: each ends at a line feed, which the last may lack.
abbrev pub lines_of : List ℕ → List (List ℕ)
lines_of [] = []
lines_of (byte ∷ bytes) =
    if byte == 10 then [] ∷ lines_of bytes else onto_line byte (lines_of bytes)

-- The lines that are read of an input: 2^64 - 1 bytes read count as its end.
abbrev pub input_lines : List ℕ → List (List ℕ)
input_lines input = lines_of (take (2 ^ 64 - 1) input)

-- The words of a line, parted by exactly one space.
abbrev pub words : List ℕ → List (List ℕ)
words line = slice_split (λ byte. byte == 32) line

-- The number that digits make behind the number so far.
abbrev pub value_from : ℕ → List ℕ → ℕ
value_from number [] = number
value_from number (digit ∷ digits) = value_from (number * 10 + (digit - 48)) digits

-- Whether a word is a number: 1 to 20 decimal digits, below 2^64.
abbrev pub is_number : List ℕ → Bool
is_number word =
    (nat_lt 0 (length word) && nat_le (length word) 20)
    && (all_ascii_digits word && nat_lt (value_from 0 word) (2 ^ 64))

-- The number that a word is.
abbrev pub number_of : List ℕ → Option ℕ
number_of word = if is_number word then Some (value_from 0 word) else None

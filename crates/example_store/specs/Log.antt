-- The bytes of a log: for each line an entry, under a sum over all lines so far.
use Rattle.std.specs.Prelude.{◌<◌, ℕ, List, [], ◌∷◌, ◌++◌, length, take, codes}
use Rattle.hex.specs.Hex.{encode_lower}
use Rattle.sha2.specs.Sha256.{sha256}
use Rattle.vtree_lines.specs.Laws.{HasNoFeed}

-- The sum before the first line of all: the name of the format.
abbrev pub origin : List ℕ
origin = codes "example_store 1\n"

-- The sum behind a line: 16 hexadecimal digits of the digest of the sum before and the line.
abbrev pub next_sum : List ℕ → List ℕ → List ℕ
next_sum sum line = encode_lower (take 8 (sha256 (sum ++ line)))

-- a sum, a space, a line
abbrev pub entry_text : List ℕ → List ℕ → List ℕ
entry_text sum line = sum ++ 32 ∷ line

-- The entry of a line behind a sum: the sum behind it, a space, the line, a line feed.
abbrev pub entry : List ℕ → List ℕ → List ℕ
entry sum line = next_sum sum line ++ 32 ∷ (line ++ 10 ∷ [])

-- The log of lines behind a sum: their entries.
abbrev pub entries : List ℕ → List (List ℕ) → List ℕ
entries sum [] = []
entries sum (line ∷ lines) = entry sum line ++ entries (next_sum sum line) lines

-- the sum behind lines
abbrev pub sum_behind : List ℕ → List (List ℕ) → List ℕ
sum_behind sum [] = sum
sum_behind sum (line ∷ lines) = sum_behind (next_sum sum line) lines

-- A torn tail: it has no line feed, and is shorter than the longest entry.
abbrev pub IsTorn : List ℕ → Type 0
IsTorn tail = HasNoFeed tail × (length tail < 218)

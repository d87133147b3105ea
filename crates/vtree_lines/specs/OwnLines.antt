-- The line that is a command's own: its name and what it has, each number in decimal.
use Rattle.std.specs.Prelude.{ℕ, ◌<◌, ◌^◌, List, [], ◌∷◌, ◌++◌, map, codes, decimal, ⊤}
use Rattle.std.specs.List.{join_with_byte}
use Rattle.vtree_lines.specs.Grammar.{Said, Word, Number, Key, Included, Excluded, Text, Bytes, IsKeyText, form_of}

-- the text that is read as a word, a number without zeros before it
abbrev pub text_of : Word → List ℕ
text_of (Number number) = decimal number
text_of (Key key) = codes "'" ++ key
text_of (Included key) = codes "i'" ++ key
text_of (Excluded key) = codes "x'" ++ key
text_of (Text text) = text
text_of Bytes = []

-- the command's own words
abbrev pub own_words : Said → List (List ℕ)
own_words command = map text_of (form_of command)

-- the command's own line: its words, parted by one space
abbrev pub line_of : Said → List ℕ
line_of command = join_with_byte 32 (own_words command)

-- a number that fits 64 bits
abbrev pub Fits : ℕ → Type 0
Fits number = number < 2 ^ 64

-- What a word tells can stand in a line: a number fits 64 bits, and a key is one.
abbrev pub WordStands : Word → Type 0
WordStands (Number number) = Fits number
WordStands (Key key) = IsKeyText key
WordStands (Included key) = IsKeyText key
WordStands (Excluded key) = IsKeyText key
WordStands word = ⊤

-- each member is so
abbrev pub Each : {X : Type 0} → (X → Type 0) → List X → Type 0
Each Is [] = ⊤
Each Is (x ∷ xs) = Is x × Each Is xs

-- A command can stand in a line: its keys can, and its numbers fit 64 bits.
abbrev pub CanStand : Said → Type 0
CanStand command = Each WordStands (form_of command)

-- The program's words, as definitions see them.
use Rattle.std.specs.Prelude.{◌≤◌, List, [], ◌∷◌, length, ⊤}
use Rattle.vtree_lines.specs.declared.words.Word as program
use Rattle.vtree_lines.specs.declared.words.Word.TheVariants as program_variants
use Rattle.vtree_lines.specs.Grammar.{Word, Number, Key, Included, Excluded, Text, Bytes}

-- how the program's word is seen
abbrev pub word_value : program.Word → Word
word_value (program_variants.Number number) = Number number
word_value (program_variants.Key key) = Key key.now
word_value (program_variants.Included key) = Included key.now
word_value (program_variants.Excluded key) = Excluded key.now
word_value (program_variants.Text text) = Text text.now
word_value program_variants.Bytes = Bytes

-- A key has at most 16 bytes.
abbrev pub IsShort : Word → Type 0
IsShort (Key key) = length key ≤ 16
IsShort (Included key) = length key ≤ 16
IsShort (Excluded key) = length key ≤ 16
IsShort word = ⊤

abbrev pub AreShort : List Word → Type 0
AreShort [] = ⊤
AreShort (word ∷ words) = IsShort word × AreShort words

-- Laws that show what the definitions of lines, replies and transcripts mean.
use Rattle.std.specs.Prelude.{◌≡◌, ◌≢◌, ◌≤◌, ◌⊎◌, ◌↔◌, ℕ, List, [], ◌∷◌, ◌++◌, length, replicate, codes, decimal, map, true, false, Some, ⊤}
use Rattle.std.specs.List.{AllPass}
use Rattle.std.specs.Char.{is_ascii_graphic}
use Rattle.rart_family.specs.Replies.{Reply, Place, Number, Value, Entries, Values, Stopped, Pairs, ValuePairs, Count, Failed, NoMemory}
use Rattle.rart_family.specs.Families.{Family, reply_to, after}
use Rattle.vtree_lines.specs.Lines.{lines_of, number_of}
use Rattle.vtree_lines.specs.Grammar.{Said, Key, Included, Excluded, Text, IsKeyText, word_of, Says, IsLineOf, IsBad}
use Rattle.vtree_lines.specs.Grammar as grammar
use Rattle.vtree_lines.specs.ReplyTexts.{reply_line, bad_line}
use Rattle.vtree_lines.specs.Transcript.{LineGives, Transcript}
use Rattle.vtree_lines.specs.OwnLines.{own_words, line_of, CanStand, Fits, Each}

-- A word is a number exactly where `number_of` gives it, a key where it is an apostrophe and then
-- the key, a bound where `i` or `x` stands before these; and a text is itself.
abbrev pub WordsAreRead : Type 0
WordsAreRead =
    (word : List ℕ)
    → ((number : ℕ) → (word_of word ≡ grammar.Number number) ↔ (number_of word ≡ Some number))
    × ((key : List ℕ)
    → (word_of word ≡ Key key) ↔ ((word ≡ codes "'" ++ key) × IsKeyText key))
    × ((key : List ℕ)
    → (word_of word ≡ Included key) ↔ ((word ≡ codes "i'" ++ key) × IsKeyText key))
    × ((key : List ℕ)
    → (word_of word ≡ Excluded key) ↔ ((word ≡ codes "x'" ++ key) × IsKeyText key))
    × ((text : List ℕ) → word_of word ≡ Text text → word ≡ text)

-- No words are two commands.
abbrev pub WordsAreOneCommand : Type 0
WordsAreOneCommand =
    (words : List (List ℕ)) (one other : Said) → Says one words → Says other words → one ≡ other

-- A command that can stand in a line has a line of its own, which is that command and no other.
abbrev pub OwnLinesAreRead : Type 0
OwnLinesAreRead =
    (command : Said) → CanStand command
    → IsLineOf (line_of command) command
    × ((other : Said) → IsLineOf (line_of command) other → other ≡ command)

-- A word is this one; or this one is a number, and zeros stand before it, to at most 20 digits.
abbrev pub IsOwnWord : List ℕ → List ℕ → Type 0
IsOwnWord own word =
    (word ≡ own)
    ⊎ ((number : ℕ) × (zeros : ℕ) × Fits number
    × (own ≡ decimal number) × (word ≡ replicate zeros 48 ++ own) × (length word ≤ 20))

-- Words are these, one by one.
abbrev pub AreOwnWords : List (List ℕ) → List (List ℕ) → Type 0
AreOwnWords [] [] = ⊤
AreOwnWords (own ∷ owns) (word ∷ words) = IsOwnWord own word × AreOwnWords owns words
AreOwnWords owns words = ⊥

-- The words of a good line are its command's own, but that zeros may stand before numbers; and the
-- command can stand in a line.
abbrev pub GoodWordsAreOwn : Type 0
GoodWordsAreOwn =
    (words : List (List ℕ)) (command : Said) → Says command words
    → CanStand command × AreOwnWords (own_words command) words

-- Such words of a command that can stand in a line are read as it.
abbrev pub OwnWordsAreGood : Type 0
OwnWordsAreGood =
    (words : List (List ℕ)) (command : Said) → CanStand command
    → AreOwnWords (own_words command) words → Says command words

-- the bytes of a text are no line feed
abbrev pub HasNoFeed : List ℕ → Type 0
HasNoFeed [] = ⊤
HasNoFeed (byte ∷ text) = (byte ≢ 10) × HasNoFeed text

-- the text of lines that each end by a line feed
abbrev pub ended : List (List ℕ) → List ℕ
ended [] = []
ended (line ∷ lines) = line ++ (codes "\n" ++ ended lines)

-- The lines of a text are those that it was made of, each ended by its line feed; a last one may
-- lack it, where it isn't empty.
abbrev pub LinesAreRead : Type 0
LinesAreRead =
    (lines : List (List ℕ)) → Each HasNoFeed lines
    → (lines_of (ended lines) ≡ lines)
    × ((last : List ℕ) → HasNoFeed last → last ≢ []
    → lines_of (ended lines ++ last) ≡ lines ++ last ∷ [])

-- What a reply has can stand in a line: numbers fit 64 bits, and keys are of bytes from `!` to `~`.
abbrev pub Stands : Reply ℕ → Type 0
Stands (Place place) = Fits place
Stands (Number number) = Fits number
Stands (Value (Some value)) = Fits value
Stands (Entries entries) = Each (λ e. AllPass is_ascii_graphic e.0 × Fits e.1) entries
Stands (Values values) = Each Fits values
Stands (Stopped values failed) = Each Fits values
Stands (Pairs entries) = Each (λ e. AllPass is_ascii_graphic e.0 × Fits e.1 × Fits e.2) entries
Stands (ValuePairs pairs) = Each (λ p. Fits p.0 × Fits p.1) pairs
Stands (Count count) = Fits count
Stands reply = ⊤

-- A reply's text has one line feed, at its end.
abbrev pub TextsAreLines : Type 0
TextsAreLines =
    (reply : Reply ℕ) → Stands reply
    → (text : List ℕ) × (reply_line reply ≡ text ++ codes "\n") × HasNoFeed text

-- No reply is written as a bad line is.
abbrev pub BadTextIsNoReply : Type 0
BadTextIsNoReply = (reply : Reply ℕ) → reply_line reply ≢ bad_line

-- What a text tells: a visit that stopped reads as the list of its values, and the failure of a
-- callback as a visit that failed at no value.
abbrev pub told : Reply ℕ → Reply ℕ
told (Stopped values false) = Values values
told Failed = Stopped [] true
told reply = reply

-- Two replies of one text tell the same.
abbrev pub TextsTell : Type 0
TextsTell =
    (one other : Reply ℕ) → Stands one → Stands other
    → reply_line one ≡ reply_line other → told one ≡ told other

-- and those that tell the same have one text
abbrev pub TellingFixesText : Type 0
TellingFixesText =
    (one other : Reply ℕ) → told one ≡ told other → reply_line one ≡ reply_line other

-- no text says that memory was refused
abbrev pub NoneRefused : List (List ℕ) → Type 0
NoneRefused texts = Each (λ text. text ≢ reply_line NoMemory) texts

-- Two transcripts of the same lines are one where none says that memory was refused.
abbrev pub TranscriptsAgree : Type 0
TranscriptsAgree =
    (old one other : Family ℕ) (lines texts others : List (List ℕ))
    → Transcript old lines texts one → Transcript old lines others other
    → NoneRefused texts → NoneRefused others → (texts ≡ others) × (one ≡ other)

-- Each line gives a text and a family.
abbrev pub EachLineGives : Type 0
EachLineGives =
    (old : Family ℕ) (line : List ℕ)
    → (text : List ℕ) × (new : Family ℕ) × LineGives old line text new

-- A bad line is answered `bad line`, and changes nothing.
abbrev pub BadLinesChangeNothing : Type 0
BadLinesChangeNothing =
    (old new : Family ℕ) (line text : List ℕ)
    → IsBad line → LineGives old line text new → (text ≡ bad_line) × (new ≡ old)

-- the texts of commands' own replies, and the family behind them
abbrev pub own_texts : Family ℕ → List Said → List (List ℕ)
own_texts old [] = []
own_texts old (command ∷ commands) =
    reply_line (reply_to (λ key. key) old command)
    ∷ own_texts (after (λ key. key) old command) commands

abbrev pub own_family : Family ℕ → List Said → Family ℕ
own_family old [] = old
own_family old (command ∷ commands) = own_family (after (λ key. key) old command) commands

-- Commands that can stand in lines have a transcript: their own lines, replied their own replies.
abbrev pub OwnRepliesAreTranscripts : Type 0
OwnRepliesAreTranscripts =
    (old : Family ℕ) (commands : List Said) → Each CanStand commands
    → Transcript old (map line_of commands) (own_texts old commands) (own_family old commands)

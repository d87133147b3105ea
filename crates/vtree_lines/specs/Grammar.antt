-- Which words are which command: one row a command. A key is its bytes.
use Rattle.std.specs.Prelude.{◌≡◌, ◌≤◌, ℕ, List, [], ◌∷◌, map, length, codes, Bool, true, false, ◌&&◌, take, drop, nat_le, Option, Some, None, if◌then◌else◌}
use Rattle.std.specs.Option.{unwrap_or, option_map}
use Rattle.std.specs.List.{list_all, AllPass}
use Rattle.std.specs.Str.{bytes_eq}
use Rattle.std.specs.Char.{is_ascii_graphic}
use Rattle.std.specs.declared.ops.Bound.{Bound}
use Rattle.std.specs.declared.ops.Bound.TheVariants as bound
use Rattle.rart_versioned.specs.SlotUpdate.{SlotUpdate}
use Rattle.rart_versioned.specs.SlotUpdate.TheVariants as slot
use Rattle.rart_family.specs.declared.family.command.Command.{Command}
use Rattle.rart_family.specs.declared.family.command.Command.TheVariants.{New, NewAt, Snapshot, Duplicate, Discard, Version, IsEmpty, Get, GetMut, Insert, Replace, Remove, Delete, Update, TryUpdate, Iter, Values, Range, Prefix, Matches, MatchesEach, Views, PrefixViews, RangeViews, PrefixValues, Until, Intersect, IntersectViews, IntersectValues, IntersectCount, Flatten, Longest}
use Rattle.vtree_lines.specs.Lines.{words, number_of}

-- a command whose key is its bytes, and whose value is a number
abbrev pub Said : Type 0
Said = Command (List ℕ) ℕ

-- What a word of a line can be.
pub data Word : Type 0 where
  -- 1 to 20 decimal digits, below 2^64
  Number : ℕ → Word
  -- an apostrophe, and then the key: 0 to 16 bytes from `!` to `~`
  Key : List ℕ → Word
  -- the same behind `i`, or behind `x`: a bound that is included, or excluded
  Included : List ℕ → Word
  Excluded : List ℕ → Word
  -- any other word of bytes from `!` to `~`
  Text : List ℕ → Word
  -- and any other word
  Bytes : Word

-- what can stand as a key
abbrev pub is_key_text : List ℕ → Bool
is_key_text key = nat_le (length key) 16 && list_all is_ascii_graphic key

-- the same as a fact
abbrev pub IsKeyText : List ℕ → Type 0
IsKeyText key = (length key ≤ 16) × AllPass is_ascii_graphic key

-- the key that stands behind a mark
abbrev pub key_behind : List ℕ → List ℕ → Option (List ℕ)
key_behind mark word =
    if bytes_eq (take (length mark) word) mark && is_key_text (drop (length mark) word)
    then Some (drop (length mark) word) else None

-- what a word is
abbrev pub word_of : List ℕ → Word
word_of word =
    unwrap_or (option_map Number (number_of word))
    (unwrap_or (option_map Key (key_behind (codes "'") word))
    (unwrap_or (option_map Included (key_behind (codes "i'") word))
    (unwrap_or (option_map Excluded (key_behind (codes "x'") word))
    (if list_all is_ascii_graphic word then Text word else Bytes))))

-- a bound, `-` for none
abbrev pub bound_form : Bound (List ℕ) → Word
bound_form (bound.Included key) = Included key
bound_form (bound.Excluded key) = Excluded key
bound_form bound.Unbounded = Text (codes "-")

-- what is written, `-` for nothing
abbrev pub write_form : Option ℕ → Word
write_form None = Text (codes "-")
write_form (Some number) = Number number

-- what a callback answers
abbrev pub answer_form : SlotUpdate ℕ → List Word
answer_form slot.Keep = Text (codes "keep") ∷ []
answer_form slot.Remove = Text (codes "remove") ∷ []
answer_form (slot.Insert number) = Text (codes "insert") ∷ Number number ∷ []

-- or that it fails
abbrev pub tried_form : Option (SlotUpdate ℕ) → List Word
tried_form None = Text (codes "fail") ∷ []
tried_form (Some answer) = answer_form answer

-- how a visit ends
abbrev pub end_form : Bool → Word
end_form false = Text (codes "stop")
end_form true = Text (codes "fail")

-- the words of a command's line
abbrev pub form_of : Said → List Word
form_of New = Text (codes "new") ∷ []
form_of (NewAt number) = Text (codes "new-at") ∷ Number number ∷ []
form_of (Snapshot place) = Text (codes "snapshot") ∷ Number place ∷ []
form_of (Duplicate place) = Text (codes "clone") ∷ Number place ∷ []
form_of (Discard place) = Text (codes "discard") ∷ Number place ∷ []
form_of (Version place) = Text (codes "version") ∷ Number place ∷ []
form_of (IsEmpty place) = Text (codes "empty") ∷ Number place ∷ []
form_of (Get place key) = Text (codes "get") ∷ Number place ∷ Key key ∷ []
form_of (GetMut place key value) =
    Text (codes "get-mut") ∷ Number place ∷ Key key ∷ Number value ∷ []
form_of (Insert place key value) =
    Text (codes "insert") ∷ Number place ∷ Key key ∷ Number value ∷ []
form_of (Replace place key value) =
    Text (codes "replace") ∷ Number place ∷ Key key ∷ Number value ∷ []
form_of (Remove place key) = Text (codes "remove") ∷ Number place ∷ Key key ∷ []
form_of (Delete place key) = Text (codes "delete") ∷ Number place ∷ Key key ∷ []
form_of (Update place key write answer) =
    Text (codes "update") ∷ Number place ∷ Key key ∷ write_form write ∷ answer_form answer
form_of (TryUpdate place key write answer) =
    Text (codes "try-update") ∷ Number place ∷ Key key ∷ write_form write ∷ tried_form answer
form_of (Iter place) = Text (codes "iter") ∷ Number place ∷ []
form_of (Values place) = Text (codes "values") ∷ Number place ∷ []
form_of (Views place) = Text (codes "views") ∷ Number place ∷ []
form_of (Range place lo hi) =
    Text (codes "range") ∷ Number place ∷ bound_form lo ∷ bound_form hi ∷ []
form_of (RangeViews place lo hi) =
    Text (codes "range-views") ∷ Number place ∷ bound_form lo ∷ bound_form hi ∷ []
form_of (Prefix place prefix) = Text (codes "prefix") ∷ Number place ∷ Key prefix ∷ []
form_of (PrefixViews place prefix) = Text (codes "prefix-views") ∷ Number place ∷ Key prefix ∷ []
form_of (PrefixValues place prefix) =
    Text (codes "prefix-values") ∷ Number place ∷ Key prefix ∷ []
form_of (Matches place key) = Text (codes "matches") ∷ Number place ∷ Key key ∷ []
form_of (MatchesEach place key) = Text (codes "matches-each") ∷ Number place ∷ Key key ∷ []
form_of (Until place prefix visits fails) =
    Text (codes "until") ∷ Number place ∷ Key prefix ∷ Number visits ∷ end_form fails ∷ []
form_of (Intersect left right) = Text (codes "intersect") ∷ Number left ∷ Number right ∷ []
form_of (IntersectViews left right) =
    Text (codes "intersect-views") ∷ Number left ∷ Number right ∷ []
form_of (IntersectValues left right) =
    Text (codes "intersect-values") ∷ Number left ∷ Number right ∷ []
form_of (IntersectCount left right) =
    Text (codes "intersect-count") ∷ Number left ∷ Number right ∷ []
form_of (Flatten place) = Text (codes "flatten") ∷ Number place ∷ []
form_of (Longest place key) = Text (codes "longest") ∷ Number place ∷ Key key ∷ []

-- Words are a command's.
abbrev pub Says : Said → List (List ℕ) → Type 0
Says command words = map word_of words ≡ form_of command

-- A line, without its line feed, is the command: it has at most 200 bytes, and its words are the
-- command's.
abbrev pub IsLineOf : List ℕ → Said → Type 0
IsLineOf line command = (length line ≤ 200) × Says command (words line)

-- Every other line is a bad one.
abbrev pub IsBad : List ℕ → Type 0
IsBad line = (command : Said) → IsLineOf line command → ⊥

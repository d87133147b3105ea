-- The line that is written for a reply, with its line feed: one row a reply.
use Rattle.std.specs.Prelude.{ℕ, List, [], ◌++◌, codes, decimal, true, false, Some, None}
use Rattle.std.specs.List.{flat_map}
use Rattle.rart_family.specs.Replies.{Reply, Place, Discarded, Number, Flag, Value, Entries, Values, Stopped, Pairs, ValuePairs, Count, Failed, NoVersion, NoRoom, NoMemory}

-- a space, and a number in decimal without leading zeros
abbrev pub number_text : ℕ → List ℕ
number_text number = codes " " ++ decimal number

-- a space, and a key behind an apostrophe
abbrev pub key_text : List ℕ → List ℕ
key_text key = codes " '" ++ key

-- a key and its value
abbrev pub entry_text : List ℕ × ℕ → List ℕ
entry_text (key, value) = key_text key ++ number_text value

-- a key and the values on the left and on the right
abbrev pub pair_text : List ℕ × ℕ × ℕ → List ℕ
pair_text (key, left, right) = key_text key ++ (number_text left ++ number_text right)

-- the values on the left and on the right
abbrev pub value_pair_text : ℕ × ℕ → List ℕ
value_pair_text (left, right) = number_text left ++ number_text right

-- a word, what stands behind it, and the line feed
abbrev pub line : List ℕ → List ℕ → List ℕ
line word behind = word ++ (behind ++ codes "\n")

abbrev pub reply_line : Reply ℕ → List ℕ
reply_line (Place place) = line (codes "at") (number_text place)
reply_line Discarded = line (codes "discarded") []
reply_line (Number number) = line (codes "version") (number_text number)
reply_line (Flag true) = line (codes "true") []
reply_line (Flag false) = line (codes "false") []
reply_line (Value (Some value)) = line (codes "some") (number_text value)
reply_line (Value None) = line (codes "none") []
reply_line (Entries entries) = line (codes "entries") (flat_map entry_text entries)
reply_line (Values values) = line (codes "values") (flat_map number_text values)
reply_line (Stopped values false) = line (codes "values") (flat_map number_text values)
reply_line (Stopped values true) = line (codes "failed") (flat_map number_text values)
reply_line (Pairs entries) = line (codes "pairs") (flat_map pair_text entries)
reply_line (ValuePairs pairs) = line (codes "value-pairs") (flat_map value_pair_text pairs)
reply_line (Count count) = line (codes "count") (number_text count)
reply_line Failed = line (codes "failed") []
reply_line NoVersion = line (codes "no version") []
reply_line NoRoom = line (codes "no room") []
reply_line NoMemory = line (codes "no memory") []

-- the line that is written for a bad one
abbrev pub bad_line : List ℕ
bad_line = codes "bad line\n"

-- Worked lines, found by hand: numbers, splits, bad lines, texts of replies, and what can stand.
use Rattle.std.specs.Prelude.{◌≡◌, [], ◌∷◌, ◌++◌, codes, true, false, Some, None}
use Rattle.rart_family.specs.Replies.{Place, Discarded, Number, Flag, Value, Entries, Values, Stopped, Pairs, ValuePairs, Count, Failed, NoVersion, NoRoom, NoMemory}
use Rattle.vtree_lines.specs.Lines.{lines_of, words, number_of}
use Rattle.vtree_lines.specs.Grammar.{IsBad}
use Rattle.vtree_lines.specs.ReplyTexts.{reply_line, bad_line}
use Rattle.vtree_lines.specs.Laws.{Stands}

-- Numbers have 1 to 20 digits, and are below 2^64.
abbrev pub WorkedNumbers : Type 0
WorkedNumbers =
    (number_of (codes "0") ≡ Some 0)
    × (number_of (codes "00000000000000000007") ≡ Some 7)
    × (number_of (codes "000000000000000000007") ≡ None)
    × (number_of (codes "18446744073709551615") ≡ Some 18446744073709551615)
    × (number_of (codes "18446744073709551616") ≡ None)
    × (number_of (codes "99999999999999999999") ≡ None)
    × (number_of [] ≡ None)
    × (number_of (codes "-1") ≡ None)
    × (number_of (codes "1a") ≡ None)

-- A line ends at its line feed, which the last may lack; words are parted by one space.
abbrev pub WorkedSplits : Type 0
WorkedSplits =
    (lines_of [] ≡ [])
    × (lines_of (codes "new\nversion 0") ≡ codes "new" ∷ codes "version 0" ∷ [])
    × (lines_of (codes "new\nversion 0\n") ≡ codes "new" ∷ codes "version 0" ∷ [])
    × (lines_of (codes "\n\n") ≡ [] ∷ [] ∷ [])
    × (words [] ≡ [] ∷ [])
    × (words (codes "get 0 'a") ≡ codes "get" ∷ codes "0" ∷ codes "'a" ∷ [])
    × (words (codes " new") ≡ [] ∷ codes "new" ∷ [])
    × (words (codes "a  b") ≡ codes "a" ∷ [] ∷ codes "b" ∷ [])

-- Bad lines: an empty line, a word too many, a word too few, no such word, a carriage return, two
-- spaces, a space at the end, 2^64, 21 digits, keys for bounds, a key without its apostrophe, a
-- visit that failed, an update that fails, seven words, bytes 127, 233, 9 and 13 in a key, keys of
-- 17 bytes, one alone, and one of a bound of each kind; no word for a write, a bound that is no
-- word, and other words for an end and an answer; bounds that lack their key, updates that lack
-- what is written and answered, a comment, and the longest good line with a word behind it.
abbrev pub WorkedBadLines : Type 0
WorkedBadLines =
    IsBad []
    × IsBad (codes "new 0")
    × IsBad (codes "new-at")
    × IsBad (codes "old")
    × IsBad (codes "new" ++ 13 ∷ [])
    × IsBad (codes "version  0")
    × IsBad (codes "version 0 ")
    × IsBad (codes "new-at 18446744073709551616")
    × IsBad (codes "new-at 000000000000000000007")
    × IsBad (codes "range 0 'a 'b")
    × IsBad (codes "get 0 a")
    × IsBad (codes "until 0 'a 1 failed")
    × IsBad (codes "update 0 'a - fail")
    × IsBad (codes "try-update 0 'a - insert 1 1")
    × IsBad (codes "get 0 '" ++ 127 ∷ [])
    × IsBad (codes "get 0 '" ++ 233 ∷ [])
    × IsBad (codes "get 0 'abcdefghijklmnopq")
    × IsBad (codes "range 0 - i'abcdefghijklmnopq")
    × IsBad (codes "range-views 0 x'abcdefghijklmnopq -")
    × IsBad (codes "update 0 'a  keep")
    × IsBad (codes "range 0  -")
    × IsBad (codes "until 0 'a 1 keep")
    × IsBad (codes "update 0 'a - kept")
    × IsBad (codes "get 0 '" ++ 9 ∷ [])
    × IsBad (codes "get 0 '" ++ 13 ∷ [])
    × IsBad (codes "range 0 i- -")
    × IsBad (codes "range 0 - x-")
    × IsBad (codes "update 0 'a")
    × IsBad (codes "try-update 0 'a")
    × IsBad (codes "// new")
    × IsBad (codes
    "try-update 00000000000000000000 'abcdefghijklmnop 18446744073709551615 insert 18446744073709551614 1")

-- Texts of replies, each kind of them, and the text of a bad line.
abbrev pub WorkedTexts : Type 0
WorkedTexts =
    (reply_line (Place 10) ≡ codes "at 10\n")
    × (reply_line Discarded ≡ codes "discarded\n")
    × (reply_line (Number 18446744073709551615) ≡ codes "version 18446744073709551615\n")
    × (reply_line (Flag true) ≡ codes "true\n")
    × (reply_line (Flag false) ≡ codes "false\n")
    × (reply_line (Value None) ≡ codes "none\n")
    × (reply_line (Value (Some 0)) ≡ codes "some 0\n")
    × (reply_line (Entries []) ≡ codes "entries\n")
    × (reply_line (Entries ((codes "a", 1) ∷ ([], 20) ∷ [])) ≡ codes "entries 'a 1 ' 20\n")
    × (reply_line (Values (9 ∷ 8 ∷ [])) ≡ codes "values 9 8\n")
    × (reply_line (Stopped (9 ∷ 8 ∷ []) false) ≡ codes "values 9 8\n")
    × (reply_line (Stopped (9 ∷ []) true) ≡ codes "failed 9\n")
    × (reply_line (Pairs ((codes "k", 1, 2) ∷ [])) ≡ codes "pairs 'k 1 2\n")
    × (reply_line (ValuePairs ((1, 2) ∷ [])) ≡ codes "value-pairs 1 2\n")
    × (reply_line (Count 2) ≡ codes "count 2\n")
    × (reply_line Failed ≡ codes "failed\n")
    × (reply_line NoVersion ≡ codes "no version\n")
    × (reply_line NoRoom ≡ codes "no room\n")
    × (reply_line NoMemory ≡ codes "no memory\n")
    × (bad_line ≡ codes "bad line\n")

-- A reply of each kind can stand in a line with the greatest number, 2^64 - 1, and with a key of
-- the least and the greatest byte, `!` and `~`.
abbrev pub WorkedReplies : Type 0
WorkedReplies =
    Stands (Place 18446744073709551615)
    × Stands Discarded
    × Stands (Number 18446744073709551615)
    × Stands (Flag true)
    × Stands (Value (Some 18446744073709551615))
    × Stands (Value None)
    × Stands (Entries ((33 ∷ 126 ∷ [], 18446744073709551615) ∷ ([], 0) ∷ []))
    × Stands (Values (18446744073709551615 ∷ 0 ∷ []))
    × Stands (Stopped (18446744073709551615 ∷ []) true)
    × Stands (Pairs ((33 ∷ 126 ∷ [], 18446744073709551615, 18446744073709551615) ∷ []))
    × Stands (ValuePairs ((18446744073709551615, 18446744073709551615) ∷ []))
    × Stands (Count 18446744073709551615)
    × Stands Failed
    × Stands NoVersion
    × Stands NoRoom
    × Stands NoMemory

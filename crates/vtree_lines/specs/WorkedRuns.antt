-- Worked runs, found by hand: what the program writes for an input, and how it was served.
use Rattle.std.specs.Prelude.{◌≡◌, ℕ, List, [], ◌∷◌, ◌++◌, codes, replicate}
use Rattle.vtree_lines.specs.declared.served.Served.{Served}
use Rattle.vtree_lines.specs.declared.served.Served.TheVariants.{Clean, BadLine}
use Rattle.vtree_lines.specs.Lines.{lines_of}
use Rattle.vtree_lines.specs.Laws.{NoneRefused}
use Rattle.vtree_lines.specs.Transcript.{Serves}

-- An input can be served so, and is served in no other way where memory isn't refused.
abbrev pub RunsTo : List ℕ → Served → List ℕ → Type 0
RunsTo input served written =
    Serves (lines_of input) served written
    × ((other : Served) (bytes : List ℕ) (h : Serves (lines_of input) other bytes)
    → NoneRefused h.texts → (bytes ≡ written) × (other ≡ served))

-- the first run's lines
abbrev pub first_lines : List ℕ
first_lines =
    codes "new\ninsert 0 'key1 1\nsnapshot 0\nget 1 'key1\nversion 0\nversion 1\n"

-- what they are replied
abbrev pub first_replies : List ℕ
first_replies = codes "at 0\nfalse\nat 1\nsome 1\nversion 1\nversion 2\n"

-- The first run.
abbrev pub FirstRun : Type 0
FirstRun = RunsTo first_lines Clean first_replies

-- 201 letters
abbrev pub long_line : List ℕ
long_line = replicate 201 97

abbrev pub bad_lines : List ℕ
bad_lines = codes "new\ninsert 0 a 1\n\nget 7 'a\n"

abbrev pub bad_replies : List ℕ
bad_replies = codes "at 0\nbad line\nbad line\nno version\n"

abbrev pub long_key_lines : List ℕ
long_key_lines =
    codes "new\ninsert 0 'abcdefghijklmnop 1\ninsert 0 'abcdefghijklmnopq 2\n"
    ++ codes "get 0 'abcdefghijklmnop\ninsert 0 ' 3\niter 0\n"

abbrev pub long_key_replies : List ℕ
long_key_replies =
    codes "at 0\nfalse\nbad line\nsome 1\nfalse\nentries ' 3 'abcdefghijklmnop 1\n"

abbrev pub great_number_lines : List ℕ
great_number_lines =
    codes "new-at 18446744073709551613\ninsert 0 'a 1\ntry-update 0 'a 2 keep\nversion 0\n"
    ++ codes "update 0 'a 2 keep\nupdate 0 'a 3 keep\ndelete 0 'x\nclone 0\nget 1 'a\n"
    ++ codes "new-at 18446744073709551616\n"

abbrev pub great_number_replies : List ℕ
great_number_replies =
    codes "at 0\nfalse\nno room\nversion 18446744073709551614\ntrue\nno room\nno room\n"
    ++ codes "at 1\nsome 2\nbad line\n"

-- Other runs: no line; a last line without its line feed; a bad line among good ones; an empty line
-- behind a good one; a carriage return before the line feed; two spaces; more than 200 bytes. A bad
-- key, no word, and a place that isn't there; keys of 16, 17 and no bytes; and the greatest
-- numbers.
abbrev pub WorkedRuns : Type 0
WorkedRuns =
    RunsTo [] Clean []
    × RunsTo (codes "new") Clean (codes "at 0\n")
    × RunsTo (codes "new\nold\nversion 0\n") BadLine (codes "at 0\nbad line\nversion 0\n")
    × RunsTo (codes "new\n\n") BadLine (codes "at 0\nbad line\n")
    × RunsTo (codes "new" ++ 13 ∷ 10 ∷ []) BadLine (codes "bad line\n")
    × RunsTo (codes "new\nversion  0\n") BadLine (codes "at 0\nbad line\n")
    × RunsTo (long_line ++ codes "\nnew\n") BadLine (codes "bad line\nat 0\n")
    × RunsTo bad_lines BadLine bad_replies
    × RunsTo long_key_lines BadLine long_key_replies
    × RunsTo great_number_lines BadLine great_number_replies

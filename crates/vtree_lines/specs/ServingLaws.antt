-- Laws of what is left where an input ends, and where its serving ends early.
use Rattle.std.specs.Prelude.{◌≡◌, ◌≢◌, ◌<◌, ◌^◌, ℕ, List, [], ◌++◌, ◌⊎◌, length, codes, Option, Some}
use Rattle.rart_family.specs.Replies.{Reply, NoVersion, NoRoom, NoMemory}
use Rattle.rart_family.specs.Families.{Family, reply_to}
use Rattle.rart_family.specs.Laws.{TakesNoMemory}
use Rattle.vtree_lines.specs.declared.served.Served.{Served}
use Rattle.vtree_lines.specs.declared.served.ServeError.TheVariants.{Read, Write, Memory}
use Rattle.vtree_lines.specs.Lines.{lines_of, input_lines}
use Rattle.vtree_lines.specs.Grammar.{Said}
use Rattle.vtree_lines.specs.ReplyTexts.{reply_line}
use Rattle.vtree_lines.specs.Laws.{NoneRefused}
use Rattle.vtree_lines.specs.Transcript.{Replies, Serves, EndsBy, Gains}

-- An input of fewer than 2^64 bytes is read to its end.
abbrev pub InputIsRead : Type 0
InputIsRead = (input : List ℕ) → length input < 2 ^ 64 → input_lines input ≡ lines_of input

-- a refusal of a command
abbrev pub IsRefusal : Reply ℕ → Type 0
IsRefusal reply = (reply ≡ NoVersion) ⊎ ((reply ≡ NoRoom) ⊎ (reply ≡ NoMemory))

-- A command that is refused changes nothing.
abbrev pub RefusalsChangeNothing : Type 0
RefusalsChangeNothing =
    (old new : Family ℕ) (command : Said) (reply : Reply ℕ)
    → IsRefusal reply → Replies old command reply new → new ≡ old

-- A command that takes no memory, or lacks a version or room, is not replied `no memory`.
abbrev pub RefusalsAreOfMemory : Type 0
RefusalsAreOfMemory =
    (old new : Family ℕ) (command : Said)
    → TakesNoMemory (List ℕ) ℕ (λ key. key) old command
    ⊎ ((reply_to (λ key. key) old command ≡ NoVersion)
    ⊎ (reply_to (λ key. key) old command ≡ NoRoom))
    → ¬ Replies old command NoMemory new

-- What a writer held stays, and what was written stands behind it.
abbrev pub WritingIsBehind : Type 0
WritingIsBehind =
    (old : List ℕ) (new : Option (List ℕ)) (lines : List (List ℕ)) (served : Served)
    → Gains (Some old) new (Serves lines served)
    → (written : List ℕ) × (new ≡ Some (old ++ written)) × Serves lines served written

-- nothing, or bytes of which the last is a line feed
abbrev pub AreWholeLines : List ℕ → Type 0
AreWholeLines text = (text ≡ []) ⊎ ((front : List ℕ) × (text ≡ front ++ codes "\n"))

-- Whole lines are written where all were served, and where reading failed.
abbrev pub WholeLinesAreWritten : Type 0
WholeLinesAreWritten =
    (lines : List (List ℕ)) (written : List ℕ)
    → ((served : Served) → Serves lines served written → AreWholeLines written)
    × (EndsBy Read lines written → AreWholeLines written)

-- Where reading failed, what is written is a prefix of what the whole serving writes, unless
-- memory is refused.
abbrev pub FailedReadsLeaveAPrefix : Type 0
FailedReadsLeaveAPrefix =
    (lines : List (List ℕ)) (served : Served) (all written : List ℕ)
    (whole : Serves lines served all) (early : EndsBy Read lines written)
    → NoneRefused whole.texts → NoneRefused early.texts
    → (lost : List ℕ) × (all ≡ written ++ lost)

-- So it is where writing failed.
abbrev pub FailedWritesLeaveAPrefix : Type 0
FailedWritesLeaveAPrefix =
    (lines : List (List ℕ)) (served : Served) (all written : List ℕ)
    (whole : Serves lines served all) (early : EndsBy Write lines written)
    → NoneRefused whole.texts → NoneRefused early.texts → early.text ≢ reply_line NoMemory
    → (lost : List ℕ) × (all ≡ written ++ lost)

-- No serving ends for memory for what it reads.
abbrev pub ReadingTakesNoMemory : Type 0
ReadingTakesNoMemory = (lines : List (List ℕ)) (written : List ℕ) → EndsBy Memory lines written → ⊥

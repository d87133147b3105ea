-- Laws that show what the definitions of logs mean, and that a crash loses nothing.
use Rattle.std.specs.Prelude.{◌≡◌, ℕ, List, [], ◌∷◌, ◌++◌, ◌⊎◌}
use Rattle.rart_family.specs.Families.{Family}
use Rattle.vtree_lines.specs.Laws.{NoneRefused}
use Rattle.vtree_lines.specs.Transcript.{Transcript}
use Rattle.example_store.specs.Checkpoints.{checkpoint, checkpoint_of}
use Rattle.example_store.specs.Log.{next_sum, entry, entries, sum_behind}
use Rattle.example_store.specs.Kept.{IsKept, Leads}
use Rattle.example_store.specs.Replays.{IsLog, IsDamagedAt}
use Rattle.example_store.specs.declared.checkpoint.Base.{Base}

-- Kept lines lead where their transcript does, in which none is refused for memory.
abbrev pub KeptLinesAreServed : Type 0
KeptLinesAreServed =
    (old : Family ℕ) (lines : List (List ℕ)) (new : Family ℕ) → Leads old lines new
    → (texts : List (List ℕ)) × Transcript old lines texts new × NoneRefused texts

-- Bytes are the log of one list of lines, which lead to one family.
abbrev pub LogsAreOne : Type 0
LogsAreOne =
    (base : Base) (bytes : List ℕ) (lines others : List (List ℕ)) (one other : Family ℕ)
    → IsLog base bytes lines one → IsLog base bytes others other
    → (lines ≡ others) × (one ≡ other)

-- Each front of a log is the log of some first lines.
abbrev pub FrontsAreLogs : Type 0
FrontsAreLogs =
    (base : Base) (lines : List (List ℕ)) (family : Family ℕ) (bytes lost : List ℕ)
    → Leads base.family lines family → entries base.sum lines ≡ bytes ++ lost
    → (front later : List (List ℕ)) × (mid : Family ℕ)
    × (lines ≡ front ++ later) × IsLog base bytes front mid

-- A log that is damaged is the log of no lines.
abbrev pub DamageIsNoLog : Type 0
DamageIsNoLog =
    (base : Base) (bytes : List ℕ) (number at : ℕ) (lines : List (List ℕ)) (family : Family ℕ)
    → IsDamagedAt base bytes number at → IsLog base bytes lines family → ⊥

-- A crash while the entry of a line is written behind a log leaves a front of it: what is found
-- then is the family before the line, or the one behind it.
abbrev pub CrashesLoseNothing : Type 0
CrashesLoseNothing =
    (base : Base) (lines : List (List ℕ)) (family : Family ℕ) (line : List ℕ) (new : Family ℕ)
    (part lost : List ℕ) → Leads base.family lines family → IsKept family line new
    → entry (sum_behind base.sum lines) line ≡ part ++ lost
    → IsLog base (entries base.sum lines ++ part) lines family
    ⊎ IsLog base (entries base.sum lines ++ part) (lines ++ line ∷ []) new

-- A log without a byte is that of no line, and leads to what it stands behind.
abbrev pub EmptyLogsAreOfNoLine : Type 0
EmptyLogsAreOfNoLine =
    (base : Base) (lines : List (List ℕ)) (family : Family ℕ)
    → IsLog base [] [] base.family
    × (IsLog base [] lines family → (lines ≡ []) × (family ≡ base.family))

-- Lines that are kept behind the checkpoint of a family go on from those that led to it.
abbrev pub CheckpointsLoseNothing : Type 0
CheckpointsLoseNothing =
    (old : Family ℕ) (lines more : List (List ℕ)) (family new : Family ℕ) (bytes : List ℕ)
    → Leads old lines family → IsLog (checkpoint_of family) bytes more new
    → Leads old (lines ++ more) new

-- Checkpoints that are equal are of one family.
abbrev pub CheckpointsAreOfOne : Type 0
CheckpointsAreOfOne = (one other : Family ℕ) → checkpoint one ≡ checkpoint other → one ≡ other

-- A log with a line stands behind two checkpoints only where two digests are the same.
abbrev pub LogsAreOfOneCheckpoint : Type 0
LogsAreOfOneCheckpoint =
    (base other : Base) (bytes line : List ℕ) (lines others : List (List ℕ))
    (family found : Family ℕ)
    → IsLog base bytes (line ∷ lines) family → IsLog other bytes others found
    → next_sum base.sum line ≡ next_sum other.sum line

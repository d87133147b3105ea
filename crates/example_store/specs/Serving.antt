-- What a store does with lines, one after another.
use Rattle.std.specs.Prelude.{◌≡◌, ◌≢◌, ◌-◌, ℕ, List, [], ◌∷◌, ◌++◌, length, take, codes, All, Option, Some}
use Rattle.std.specs.List.{concat}
use Rattle.std.specs.Io.KnownBytes.{Appends}
use Rattle.vtree_lines.specs.Lines.{lines_of}
use Rattle.vtree_lines.specs.Transcript.{Transcript}
use Rattle.vtree_lines.specs.Writing.{AppendsPart}
use Rattle.example_store.specs.Log.{entry, entries, sum_behind}
use Rattle.example_store.specs.Kept.{Answered, Leads, answer_text}
use Rattle.example_store.specs.Stores.{AlsoTells, Answers, State}
use Rattle.example_store.specs.declared.store.Pause.{Pause}
use Rattle.example_store.specs.declared.store.Pause.TheVariants.{End, Asked, Due}

-- A line is served: answered, and the text of the answer is written.
abbrev pub ServesLine : List ℕ → State → State → Option (List ℕ) → Option (List ℕ) → Type 0
ServesLine line old new out written =
    (answer : Answered) × Answers line old new answer
    × Appends out written (answer_text answer.reply)

-- Lines are served: their transcript is what is written; and the log gained the entries of those of
-- them that are kept, which alone lead to the same family.
pub record ServesLines (lines : List (List ℕ)) (old new : State)
    (out written : Option (List ℕ)) : Type 0 where
  pub texts : List (List ℕ)
  pub run : Transcript old.family lines texts new.family
  pub wrote : Appends out written (concat texts)
  pub told : AlsoTells lines old.has_bad new.has_bad
  pub kept : List (List ℕ)
  pub leads : Leads old.family kept new.family
  pub sum : new.sum ≡ sum_behind old.sum kept
  pub counted : new.lines_left ≡ old.lines_left - length kept
  pub gained : Appends old.log new.log (entries old.sum kept)

-- A line is not the one that asks for a checkpoint.
abbrev pub DoesNotAsk : List ℕ → Type 0
DoesNotAsk line = line ≢ codes "checkpoint"

-- The lines are all, and nothing is left; or they are those before a line that asks for a
-- checkpoint; or some first ones.
abbrev pub AreUpTo : Pause → List (List ℕ) → List (List ℕ) → List ℕ → Type 0
AreUpTo End lines all rest = (all ≡ lines) × (rest ≡ [])
AreUpTo Asked lines all rest = all ≡ lines ++ codes "checkpoint" ∷ lines_of rest
AreUpTo Due lines all rest = all ≡ lines ++ lines_of rest

-- The lines of an input are served up to a pause, none of which asks for a checkpoint, and the rest
-- is left.
pub record ServesUpTo (pause : Pause) (input : List ℕ) (left : Option (List ℕ)) (old new : State)
    (out written : Option (List ℕ)) : Type 0 where
  pub lines : List (List ℕ)
  pub rest : List ℕ
  pub left_is : left ≡ Some rest
  pub up_to : AreUpTo pause lines (lines_of input) rest
  pub unasked : All DoesNotAsk lines
  pub served : ServesLines lines old new out written

-- The first lines of an input are served, none of which asks for a checkpoint; and of the entry of
-- the next one, of which 201 bytes are looked at, a part is in the log.
pub record BreaksOff (input : List ℕ) (old new : State)
    (out written : Option (List ℕ)) : Type 0 where
  pub lines : List (List ℕ)
  pub line : List ℕ
  pub rest : List ℕ
  pub mid : State
  pub split : lines_of input ≡ lines ++ line ∷ lines_of rest
  pub unasked : All DoesNotAsk lines
  pub served : ServesLines lines old mid out written
  pub part : AppendsPart mid.log new.log (entry mid.sum (take 201 line))

-- The lines that a log keeps, and what they lead to.
use Rattle.std.specs.Prelude.{◌≡◌, ℕ, Bool, List, [], ◌∷◌, ◌⊎◌, Option, Some, None}
use Rattle.rart_family.specs.Replies.{Reply}
use Rattle.rart_family.specs.Families.{Family, call_of}
use Rattle.rart_family.specs.Laws.{OnlyReads}
use Rattle.vtree_lines.specs.Grammar.{Said, IsLineOf}
use Rattle.vtree_lines.specs.Laws.{HasNoFeed}
use Rattle.vtree_lines.specs.ReplyTexts.{reply_line, bad_line}
use Rattle.vtree_lines.specs.ServingLaws.{IsRefusal}
use Rattle.vtree_lines.specs.Transcript.{Replies}

-- A command that only reads leaves a family, and so does one that is refused.
abbrev pub LeavesFamily : Said → Reply ℕ → Type 0
LeavesFamily command reply = OnlyReads {V = ℕ} (call_of (λ key. key) command) ⊎ IsRefusal reply

-- A line is kept: its command is one that may change a family, and is not refused.
pub record IsKept (old : Family ℕ) (line : List ℕ) (new : Family ℕ) : Type 0 where
  pub command : Said
  pub reply : Reply ℕ
  pub whole : HasNoFeed line
  pub says : IsLineOf line command
  pub steps : Replies old command reply new
  pub changes : ¬ LeavesFamily command reply

-- no family is behind the line, as one that is kept
abbrev pub IsNeverKept : Family ℕ → List ℕ → Type 0
IsNeverKept old line = (new : Family ℕ) → IsKept old line new → ⊥

-- Kept lines lead from a family to another.
abbrev pub Leads : Family ℕ → List (List ℕ) → Family ℕ → Type 0
Leads old [] new = new ≡ old
Leads old (line ∷ lines) new = (mid : Family ℕ) × IsKept old line mid × Leads mid lines new

-- What a line is answered: the reply to its command, or none where it is a bad line; and whether
-- the line is to be kept.
pub record Answered : Type 0 where
  pub reply : Option (Reply ℕ)
  pub is_kept : Bool

-- What is written for an answer: the text of a reply, or that of a bad line.
abbrev pub answer_text : Option (Reply ℕ) → List ℕ
answer_text None = bad_line
answer_text (Some reply) = reply_line reply

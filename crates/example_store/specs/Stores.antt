-- A store, and what it does with a line.
use Rattle.std.specs.Prelude.{◌≡◌, ◌↔◌, ◌-◌, ℕ, Bool, List, [], ◌∷◌, Option, ◌⊎◌, IsTrue, false, refl, true}
use Rattle.std.specs.Coded.{Coded, code_by, coded×, coded_bool, coded_list, coded_option, coded_ℕ}
use Rattle.std.specs.Io.KnownBytes.{Appends, Keeps}
use Rattle.rart_family.specs.Families.{Family}
use Rattle.rart_maps.specs.Versions.{version_code}
use Rattle.vtree_lines.specs.Transcript.{HasBad, LineGives}
use Rattle.example_store.specs.Log.{next_sum, entry}
use Rattle.example_store.specs.Kept.{Answered, IsKept, answer_text}

-- What a store is: its family, the sum behind the last line that it kept, how many more it keeps
-- before a checkpoint is due, what its log has, where that is known, and whether some line was bad.
pub record State : Type 0 where
  pub family : Family ℕ
  pub sum : List ℕ
  pub lines_left : ℕ
  pub log : Option (List ℕ)
  pub has_bad : Bool

abbrev pub state_code : Coded State
state_code =
    code_by (Family ℕ × (List ℕ × (ℕ × (Option (List ℕ) × Bool))))
    (coded× (coded_list (coded_option (version_code coded_ℕ)))
    (coded× (coded_list coded_ℕ)
    (coded× coded_ℕ (coded× (coded_option (coded_list coded_ℕ)) coded_bool))))
    (λ s. (s.family, (s.sum, (s.lines_left, (s.log, s.has_bad)))))
    (λ p. record {
      family = p.0;
      sum = p.1.0;
      lines_left = p.1.1.0;
      log = p.1.1.1.0;
      has_bad = p.1.1.1.1;
    })
    (λ _. refl)

-- The line is kept, and its entry is what the log gained.
pub record KeepsLine (line : List ℕ) (old new : State) : Type 0 where
  pub kept : IsKept old.family line new.family
  pub sum : new.sum ≡ next_sum old.sum line
  pub counted : new.lines_left ≡ old.lines_left - 1
  pub gained : Appends old.log new.log (entry old.sum line)

-- The line leaves the family and the log.
pub record LeavesLine (old new : State) : Type 0 where
  pub family : new.family ≡ old.family
  pub sum : new.sum ≡ old.sum
  pub counted : new.lines_left ≡ old.lines_left
  pub same : Keeps old.log new.log

-- It is told whether some line was bad, of those before or of these.
abbrev pub AlsoTells : List (List ℕ) → Bool → Bool → Type 0
AlsoTells lines before behind = IsTrue behind ↔ (IsTrue before ⊎ HasBad lines)

-- A line is answered: as `vtree` does, and with its entry in the log where the answer says that it
-- is kept.
pub record Answers (line : List ℕ) (old new : State) (answer : Answered) : Type 0 where
  pub gives : LineGives old.family line (answer_text answer.reply) new.family
  pub kept : answer.is_kept ≡ true → KeepsLine line old new
  pub left : answer.is_kept ≡ false → LeavesLine old new
  pub told : AlsoTells (line ∷ []) old.has_bad new.has_bad

-- Checkpoints, and what a log stands behind.
use Rattle.std.specs.Prelude.{◌≡◌, ℕ, List, [], Some, Result, MatchResult, nat_eq}
use Rattle.rart_family.specs.Families.{Family}
use Rattle.rart_saved.specs.FamilyForms.{IsFamilyOf, saved_family}
use Rattle.rart_saved.specs.Values.{eight_bytes}
use Rattle.rart_saved.specs.declared.error.LoadError.{LoadError}
use Rattle.rart_saved.specs.declared.error.LoadError.TheVariants.{Memory}
use Rattle.example_store.specs.Log.{origin, next_sum}
use Rattle.example_store.specs.declared.checkpoint.Base.{Base}

-- The checkpoint of a family: its one form as bytes, values being numbers.
abbrev pub checkpoint : Family ℕ → List ℕ
checkpoint family = saved_family eight_bytes nat_eq 1 family

-- The sum before the first line behind a checkpoint: of its bytes, as if they were a line.
abbrev pub first_sum : List ℕ → List ℕ
first_sum bytes = next_sum origin bytes

-- The first log stands behind no checkpoint: there is no version,
abbrev pub no_checkpoint : Base
no_checkpoint = record { family = []; sum = origin }

-- the others behind that of a family.
abbrev pub checkpoint_of : Family ℕ → Base
checkpoint_of family = record { family = family; sum = first_sum (checkpoint family) }

-- Of the checkpoint of a family whose keys are lines' the answer is that family, or memory was
-- refused.
abbrev pub GivesBack : List ℕ → Result Base LoadError → Type 0
GivesBack bytes result = (family : Family ℕ) → IsFamilyOf (Some 16) family
    → bytes ≡ checkpoint family
    → MatchResult result (λ base. base.family ≡ family) (λ error. error ≡ Memory)

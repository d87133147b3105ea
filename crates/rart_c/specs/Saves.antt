-- What the calls tell that write a version as bytes, or read one.
use Rattle.std.specs.Prelude.{◌≡◌, ◌<◌, ◌≤◌, ◌⊎◌, ◌++◌, ℕ, List, None, Some, drop, length}
use Rattle.rart_c.specs.declared.answer.TheConstants.{DONE, MALFORMED, NO_MEMORY, TOO_LONG, TOO_SMALL, TRUNCATED, UNSUPPORTED, WRONG_SUM}
use Rattle.rart_maps.specs.Versions.{Version}
use Rattle.rart_saved.specs.declared.error.LoadError.{LoadError}
use Rattle.rart_saved.specs.declared.error.LoadError.TheVariants.{Memory}
use Rattle.rart_saved.specs.Forms.{IsVersionOf, saved}
use Rattle.rart_saved.specs.Loads.{HasKeysWithin}
use Rattle.rart_saved.specs.Refusals.{IsTooLong}

-- How many these bytes are is told, or that memory was refused, and then the place is as it was.
abbrev pub TellsLength : List ℕ → ℕ → ℕ → ℕ → Type 0
TellsLength bytes answer before after =
    ((answer ≡ DONE) × (after ≡ length bytes)) ⊎ ((answer ≡ NO_MEMORY) × (after ≡ before))

-- Of the caller's room and a length, before and after: the bytes are written over the first of the
-- room and their length is told, or the room is too small and the length alone is told, or memory
-- was refused and none is.
abbrev pub Saves : List ℕ → ℕ → List ℕ × ℕ → List ℕ × ℕ → Type 0
Saves bytes answer before after =
    ((answer ≡ DONE) × (length bytes ≤ length before.0)
    × (after.0 ≡ bytes ++ drop (length bytes) before.0) × (after.1 ≡ length bytes))
    ⊎ (((answer ≡ TOO_SMALL) × (length before.0 < length bytes) × (after.1 ≡ length bytes))
    ⊎ ((answer ≡ NO_MEMORY) × (after.1 ≡ before.1)))

-- The answers that tell at which byte what is read can't be.
abbrev pub TellsByte : ℕ → Type 0
TellsByte answer = (answer ≡ MALFORMED) ⊎ (answer ≡ TOO_LONG)

-- the other answers of a load
abbrev pub TellsNoByte : ℕ → Type 0
TellsNoByte answer =
    (answer ≡ DONE) ⊎ ((answer ≡ NO_MEMORY) ⊎ ((answer ≡ TRUNCATED) ⊎ ((answer ≡ UNSUPPORTED)
    ⊎ (answer ≡ WRONG_SUM))))

-- A byte is told, and is one of those that were to be read; or none is, and its place is as it was.
abbrev pub TellsLoad : List ℕ → ℕ → ℕ → ℕ → Type 0
TellsLoad bytes answer before after =
    (TellsByte answer × (after < length bytes)) ⊎ (TellsNoByte answer × (after ≡ before))

module _ {V : Type 0} (written : V → List ℕ) (kind longest : ℕ) where
  -- Where the bytes are a version's, the tree is that version, or memory was refused, or a key is
  -- longer than this, and the answer says so.
  abbrev pub GivesBack : List ℕ → ℕ → Version V → Type 0
  GivesBack bytes answer found = (v : Version V) → IsVersionOf None v
      → bytes ≡ saved written kind v
      → ((answer ≡ DONE) × (found ≡ v))
      ⊎ ((answer ≡ NO_MEMORY) ⊎ ((answer ≡ TOO_LONG) × ¬ (HasKeysWithin (Some longest) v)))

  -- By the error of a load.
  abbrev pub ExplainsLoad : List ℕ → LoadError → Type 0
  ExplainsLoad bytes error = (v : Version V) → IsVersionOf None v → bytes ≡ saved written kind v
      → (error ≡ Memory) ⊎ (IsTooLong error × ¬ (HasKeysWithin (Some longest) v))

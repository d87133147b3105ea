-- What the numbers that exports answer say.
use Rattle.std.specs.Prelude.{◌≡◌, ◌<◌, ◌≤◌, ℕ, ◌⊎◌, Bool, true, false, Option, Some, None, Result, Ok, Err}
use Rattle.std.specs.declared.alloc.AllocError.{AllocError}
use Rattle.rart_c.specs.declared.answer.TheConstants.{DONE, ABSENT, DIFFERENT, LAST_NUMBER, MALFORMED, NO_MEMORY, TOO_LONG, TOO_SMALL, TRUNCATED, UNSUPPORTED, WRONG_SUM}
use Rattle.rart_c.specs.declared.answer.Refusal.{Refusal}
use Rattle.rart_c.specs.declared.answer.Refusal.TheVariants.{LastNumber, NoMemory}
use Rattle.rart_maps.specs.Versions.{Version, HasRoom}
use Rattle.rart_saved.specs.declared.error.LoadError.{LoadError}
use Rattle.rart_saved.specs.declared.error.LoadError.TheVariants.{Io, Memory, Truncated, Malformed, TooLong, Checksum, Unsupported}

-- The answer tells a value, which is then written to a place, or that there is none, and then the
-- place is as it was.
abbrev pub Tells : {X : Type 0} → Option X → ℕ → X → X → Type 0
Tells None answer before after = (answer ≡ ABSENT) × (after ≡ before)
Tells (Some x) answer before after = (answer ≡ DONE) × (after ≡ x)

-- the number that says whether there was a value
abbrev pub told_there : Bool → ℕ
told_there true = DONE
told_there false = ABSENT

-- the number that says whether two maps are the same
abbrev pub told_equal : Result Bool AllocError → ℕ
told_equal (Ok true) = DONE
told_equal (Ok false) = DIFFERENT
told_equal (Err refused) = NO_MEMORY

-- The answer says that the call was not done.
abbrev pub IsRefused : ℕ → Type 0
IsRefused answer = (answer ≡ LAST_NUMBER) ⊎ (answer ≡ NO_MEMORY)

-- The same of a call that sets a key, which may be longer than a key may be.
abbrev pub IsRefusedKey : ℕ → Type 0
IsRefusedKey answer = (answer ≡ TOO_LONG) ⊎ IsRefused answer

-- the number that says so
abbrev pub number_of : Refusal → ℕ
number_of LastNumber = LAST_NUMBER
number_of NoMemory = NO_MEMORY

-- A change that raises the number so much was refused for room where there is none, else for
-- memory.
abbrev pub ExplainsRise : {V : Type 0} → Version V → ℕ → Refusal → Type 0
ExplainsRise v more LastNumber = ¬ (HasRoom v more)
ExplainsRise v more NoMemory = HasRoom v more

-- The same where it raises the number by one.
abbrev pub Explains : {V : Type 0} → Version V → Refusal → Type 0
Explains v refusal = ExplainsRise v 1 refusal

-- A number is told that was found, or that memory was refused, and then the place is as it was.
abbrev pub TellsFound : Result ℕ AllocError → ℕ → ℕ → ℕ → Type 0
TellsFound (Ok n) answer before after = (answer ≡ DONE) × (after ≡ n)
TellsFound (Err refused) answer before after = (answer ≡ NO_MEMORY) × (after ≡ before)

-- The same of how many bytes were to be written to so much room, which may be too few for them.
abbrev pub TellsWritten : Result ℕ AllocError → ℕ → ℕ → ℕ → ℕ → Type 0
TellsWritten (Ok n) room answer before after =
    (after ≡ n) × (((answer ≡ DONE) × (n ≤ room)) ⊎ ((answer ≡ TOO_SMALL) × (room < n)))
TellsWritten (Err refused) room answer before after = (answer ≡ NO_MEMORY) × (after ≡ before)

-- The answer tells why bytes were not read. The byte is written where one is told.
abbrev pub TellsUnread : LoadError → ℕ → ℕ → ℕ → Type 0
TellsUnread Io answer before after = (answer ≡ NO_MEMORY) × (after ≡ before)
TellsUnread Memory answer before after = (answer ≡ NO_MEMORY) × (after ≡ before)
TellsUnread Truncated answer before after = (answer ≡ TRUNCATED) × (after ≡ before)
TellsUnread (Malformed at) answer before after = (answer ≡ MALFORMED) × (after ≡ at)
TellsUnread (TooLong at) answer before after = (answer ≡ TOO_LONG) × (after ≡ at)
TellsUnread Checksum answer before after = (answer ≡ WRONG_SUM) × (after ≡ before)
TellsUnread (Unsupported format) answer before after = (answer ≡ UNSUPPORTED) × (after ≡ before)

-- What a call tells that reads a byte string out into the caller's bytes.
use Rattle.std.specs.Prelude.{◌≡◌, ◌≤◌, ◌<◌, ◌++◌, ◌⊎◌, ℕ, List, Option, Some, None, drop, length}
use Rattle.rart_c.specs.declared.answer.TheConstants.{DONE, ABSENT, TOO_SMALL}

-- Of the caller's bytes and a length, before and after: the byte string is written over the first
-- of them and its length is told, or they are too few and the length alone is told, or there is no
-- byte string and nothing is written.
abbrev pub Reads : Option (List ℕ) → ℕ → List ℕ × ℕ → List ℕ × ℕ → Type 0
Reads None answer before after = (answer ≡ ABSENT) × (after ≡ before)
Reads (Some bytes) answer before after =
    (after.1 ≡ length bytes)
    × (((answer ≡ DONE) × (length bytes ≤ length before.0)
    × (after.0 ≡ bytes ++ drop (length bytes) before.0))
    ⊎ ((answer ≡ TOO_SMALL) × (length before.0 < length bytes) × (after.0 ≡ before.0)))

-- what is at a place where this is written if it is there
abbrev pub written : {X : Type 0} → Option X → X → X
written None before = before
written (Some x) before = x

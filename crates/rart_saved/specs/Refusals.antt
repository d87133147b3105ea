-- What is said of other errors than want of memory.
use Rattle.std.specs.Prelude.{◌≡◌, ◌≢◌, ◌<◌, ℕ, ⊤, List, Option, Result, IfErr, length}
use Rattle.rart_saved.specs.declared.error.LoadError.{LoadError}
use Rattle.rart_saved.specs.declared.error.LoadError.TheVariants.{Io, Memory, Truncated, Malformed, TooLong, Checksum, Unsupported}
use Rattle.rart_saved.specs.Keys.{narrowed}

-- so where it was refused, and not for memory
abbrev pub OnOtherErr : {T : Type 0} → Result T LoadError → Type 0 → Type 0
OnOtherErr result P = IfErr result (λ error. error ≢ Memory → P)

-- The error is that a key is longer than a limit that was given.
abbrev pub IsTooLong : LoadError → Type 0
IsTooLong error = (at : ℕ) × (error ≡ TooLong at)

-- How long the keys may be of what an error tells to be lacking: a limit that was given counts for
-- the one error alone that names it.
abbrev pub limit_of : Option ℕ → Option ℕ → LoadError → Option ℕ
limit_of longest most Io = most
limit_of longest most Memory = most
limit_of longest most Truncated = most
limit_of longest most (Malformed at) = most
limit_of longest most (TooLong at) = narrowed longest most
limit_of longest most Checksum = most
limit_of longest most (Unsupported format) = most

-- as `OnOtherErr`, of keys that may be so long
abbrev pub OnErrWithin : {T : Type 0} → Option ℕ → Option ℕ → Result T LoadError
    → (Option ℕ → Type 0) → Type 0
OnErrWithin longest most result P =
    IfErr result (λ error. error ≢ Memory → P (limit_of longest most error))

-- A byte that the error tells of is one of these.
abbrev pub PointsInto : List ℕ → LoadError → Type 0
PointsInto bytes Io = ⊤
PointsInto bytes Memory = ⊤
PointsInto bytes Truncated = ⊤
PointsInto bytes (Malformed at) = at < length bytes
PointsInto bytes (TooLong at) = at < length bytes
PointsInto bytes Checksum = ⊤
PointsInto bytes (Unsupported format) = ⊤

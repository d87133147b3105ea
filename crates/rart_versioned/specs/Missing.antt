-- Why a value isn't lent.
use Rattle.std.specs.Prelude.{◌≡◌, Option, Some, None, IsSome, Result, Ok, Err}
use Rattle.std.specs.declared.alloc.AllocError.{AllocError}
use Rattle.rart_versioned.specs.declared.counted.missing.Missing.{Missing}
use Rattle.rart_versioned.specs.declared.counted.missing.Missing.TheVariants.{Absent, Memory}

-- Why there is no reference: nothing is at the key, or something is and a copy was refused.
abbrev pub Explains : {V : Type 0} → Missing → Option V → Type 0
Explains Absent was = was ≡ None
Explains (Memory error) was = IsSome was

-- the same answer, where an absent key is no failure
abbrev pub found_value : {A : Type 0} → Result A Missing → Result (Option A) AllocError
found_value (Ok x) = Ok (Some x)
found_value (Err Absent) = Ok None
found_value (Err (Memory error)) = Err error

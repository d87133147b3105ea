-- What is told of a lent value, told of the same answer where an absent key is no failure.
use Rattle.std.proofs.Common.{◌≡◌, Option, Some, IsSome, Result, Ok, Err, IfOk, IfErr, OnErr, refl, sym}
use Rattle.std.specs.Option.{option_map}
use Rattle.std.specs.Borrow.{MutBor, name_if_ok}
use Rattle.rart_versioned.specs.Lent.{found_name}
use Rattle.rart_versioned.specs.Missing.{Explains, found_value}
use Rattle.rart_versioned.specs.declared.counted.missing.Missing.{Missing}
use Rattle.rart_versioned.specs.declared.counted.missing.Missing.TheVariants.{Absent, Memory}

module _ {A : Type 0} where
  pub same-name : (lent : Result (MutBor A) Missing)
      → name_if_ok (λ value. value.ghost_name) lent ≡ found_name (found_value lent)
  same-name (Ok value) = refl
  same-name (Err Absent) = refl
  same-name (Err (Memory error)) = refl

  pub found-was : (was : Option A) (lent : Result (MutBor A) Missing)
      → IfOk lent (λ value. was ≡ Some value.now) → IfErr lent (λ missing. Explains missing was)
      → IfOk (found_value lent) (λ found. option_map (λ value. value.now) found ≡ was)
  found-was was (Ok value) there missing = sym there
  found-was was (Err Absent) there missing = sym missing
  found-was was (Err (Memory error)) there missing = tt

  pub refused-there : (was : Option A) (lent : Result (MutBor A) Missing)
      → IfErr lent (λ missing. Explains missing was) → OnErr (found_value lent) (IsSome was)
  refused-there was (Ok value) missing = tt
  refused-there was (Err Absent) missing = tt
  refused-there was (Err (Memory error)) missing = missing

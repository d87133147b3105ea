-- How many keys a prefix begins, as it is told.
use Rattle.std.specs.Prelude.{ℕ, zero, suc, List, Option, Some, None, length}
use Rattle.rart_maps.specs.Pairs.{under}
use Rattle.rart_maps.specs.Versions.{Version}

-- a number of things, where there are some
abbrev pub some_of : ℕ → Option ℕ
some_of zero = None
some_of (suc more) = Some (suc more)

-- how many pairs of the version the prefix begins, where it begins some
abbrev pub some_under : {V : Type 0} → Version V → List ℕ → Option ℕ
some_under v p = some_of (length (under v.content p))

-- What a search along a probe has found: how much of the probe is a key, and a reference to its
-- value.
use Rattle.std.specs.Prelude.{ℕ, List, Option, take}
use Rattle.std.specs.Borrow.{Bor}
use Rattle.std.specs.Option.{option_map}

-- the pair of it
abbrev pub pair_found : {V : Type 0} → List ℕ → Option (ℕ × Bor V) → Option (List ℕ × V)
pair_found probe found = option_map (λ found. (take found.0 probe, found.1.now)) found

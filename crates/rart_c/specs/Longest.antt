-- The longest key that begins a probe, by its length.
use Rattle.std.specs.Prelude.{ℕ, List, Option, length}
use Rattle.std.specs.Borrow.{Bor}
use Rattle.std.specs.Option.{option_map}
use Rattle.rart_maps.specs.Pairs.{longest_prefix_match}
use Rattle.rart_maps.specs.Versions.{Version}

-- its length and its value, where there is one
abbrev pub longest_length : {V : Type 0} → Version V → List ℕ → Option (ℕ × V)
longest_length {V} v probe =
    option_map {U = ℕ × V} (λ pair. (length pair.0, pair.1)) (longest_prefix_match v.content probe)

-- a length and a reference to a value that were found, by the value
abbrev pub length_found : {V : Type 0} → Option (ℕ × Bor V) → Option (ℕ × V)
length_found found = option_map (λ pair. (pair.0, pair.1.now)) found

-- A pair that was found: its key, or how many bytes of a probe that is, and a reference to its
-- value.
use Rattle.std.specs.Prelude.{ℕ, List, Option, take}
use Rattle.std.specs.Borrow.{Bor}
use Rattle.std.specs.Option.{option_map}

-- the pair, by the key's bytes
abbrev pub entry_found :
    {K V : Type 0} → (K → List ℕ) → Option (K × Bor V) → Option (List ℕ × V)
entry_found bytes found = option_map (λ entry. (bytes entry.0, entry.1.now)) found

-- the pair, by how many of the probe's bytes the key is
abbrev pub prefix_found :
    {V : Type 0} → List ℕ → Option (ℕ × Bor V) → Option (List ℕ × V)
prefix_found probe found = option_map (λ entry. (take entry.0 probe, entry.1.now)) found

-- What two price lists have in common.
use Rattle.std.specs.Prelude.{ℕ, List, map}
use Rattle.rart_versioned.specs.declared.VectorKey.{VectorKey}

-- names with two prices, each name as its bytes
abbrev pub named : List (VectorKey × ℕ × ℕ) → List (List ℕ × ℕ × ℕ)
named entries = map (λ entry. (entry.0.bytes.items, entry.1, entry.2)) entries

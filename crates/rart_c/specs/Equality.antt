-- What the answer of a comparison says of two maps: that they are the same, that they aren't, or
-- that memory was refused.
use Rattle.std.specs.Prelude.{◌≡◌, ◌⊎◌, ℕ}
use Rattle.rart_c.specs.declared.answer.TheConstants.{DONE, DIFFERENT, NO_MEMORY}
use Rattle.rart_maps.specs.Versions.{Map}

abbrev pub TellsEqual : {V : Type 0} → Map V → Map V → ℕ → Type 0
TellsEqual one other answer =
    ((answer ≡ DONE) × (one ≡ other))
    ⊎ (((answer ≡ DIFFERENT) × ¬ (one ≡ other)) ⊎ (answer ≡ NO_MEMORY))

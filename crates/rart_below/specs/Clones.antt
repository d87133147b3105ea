-- What every call that copies a value asks of its type.
use Rattle.std.specs.Prelude.{◌≡◌}

-- A clone of a value equals it.
abbrev pub ClonesEqual : {V : Type 0} → (V → V → Type 0) → Type 0
ClonesEqual {V} is_clone = (value copy : V) → is_clone value copy → copy ≡ value

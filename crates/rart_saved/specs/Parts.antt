-- Where in some bytes a part stands.
use Rattle.std.specs.Prelude.{◌≡◌, ◌≤◌, ◌++◌, ℕ, List, drop, length}

-- From one place to the other stands this part.
pub record HasPart (bytes : List ℕ) (from : ℕ) (part : List ℕ) (to : ℕ) : Type 0 where
  pub within : to ≤ length bytes
  pub stands : drop from bytes ≡ part ++ drop to bytes

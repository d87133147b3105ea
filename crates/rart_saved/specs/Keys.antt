-- Which keys may stand behind which.
use Rattle.std.specs.Prelude.{◌≡◌, ◌≢◌, ◌≤◌, ◌⊎◌, ◌++◌, ℕ, Bool, true, List, Option, Some, None, min, take, length}
use Rattle.rart_below.specs.Bytes.{common_length}
use Rattle.rart_maps.specs.Order.{IsBefore}
use Rattle.rart_versioned.specs.Keys.{IsKeyLength}
use Rattle.rart_saved.specs.Forms.{key_form}

-- the lesser of a limit on the length of keys, if there is one, and that of their type
abbrev pub narrowed : Option ℕ → Option ℕ → Option ℕ
narrowed None most = most
narrowed (Some longest) None = Some longest
narrowed (Some longest) (Some most) = Some (min longest most)

-- The key is the first, or the one before it stands before it.
abbrev pub IsNext : Bool → List ℕ → List ℕ → Type 0
IsNext is_first before key = (is_first ≡ true) ⊎ IsBefore before key

-- So many bytes of the key before, and these, are a key that may come next and has no more bytes in
-- common with it.
pub record Follows (is_first : Bool) (before : List ℕ) (shared : ℕ) (rest : List ℕ) : Type 0 where
  pub within : shared ≤ length before
  pub common : common_length before (take shared before ++ rest) ≡ shared
  pub next : IsNext is_first before (take shared before ++ rest)

-- No key that may come next has its form where these bytes begin.
abbrev pub LacksKey : Bool → List ℕ → List ℕ → Type 0
LacksKey is_first before bytes = (key rest : List ℕ) → IsNext is_first before key
    → bytes ≢ key_form before key ++ rest

-- The same of a key of at most this length.
abbrev pub LacksAdmittedKey : Option ℕ → Bool → List ℕ → List ℕ → Type 0
LacksAdmittedKey most is_first before bytes = (key rest : List ℕ) → IsNext is_first before key
    → IsKeyLength most (length key) → bytes ≢ key_form before key ++ rest

-- The first of some pairs, as a call finds it: by the length of its key, its value, and the bytes
-- of its key in room of the caller's.
use Rattle.std.specs.Prelude.{◌≡◌, ◌≤◌, ℕ, Bool, false, List, [], ◌∷◌, Option, Some, None, length, take, drop}
use Rattle.std.specs.Borrow.{Bor}

module _ {V : Type 0} where
  -- The first pair has this value and a key so long, which stands at the front of the room, if it
  -- fits there. Behind it the room is as before.
  pub record IsFirst (pairs : List (List ℕ × V)) (len : ℕ) (value : V) (before after : List ℕ)
      : Type 0 where
    pub key : List ℕ
    pub others : List (List ℕ × V)
    pub first : pairs ≡ (key, value) ∷ others
    pub long : len ≡ length key
    pub written : len ≤ length before → take len after ≡ key
    pub behind : drop len after ≡ drop len before

  -- The first pair was found, or there is none, and the room is as before.
  abbrev pub Finds : List (List ℕ × V) → Option (ℕ × Bor V) → List ℕ → List ℕ → Type 0
  Finds pairs None before after = (pairs ≡ []) × (after ≡ before)
  Finds pairs (Some found) before after = IsFirst pairs found.0 found.1.now before after

  -- how long the key is that was found
  abbrev pub found_length : Option (ℕ × Bor V) → ℕ
  found_length None = 0
  found_length (Some found) = found.0

  -- whether the first pair is there and its key passes a test
  abbrev pub first_passes : (List ℕ → Bool) → List (List ℕ × V) → Bool
  first_passes test [] = false
  first_passes test (pair ∷ others) = test pair.0

-- The first of some pairs, as it is told to C.
use Rattle.std.specs.Prelude.{◌≡◌, ◌<◌, ◌≤◌, ℕ, List, [], ◌∷◌, Some, drop, length, take}
use Rattle.rart_c.specs.Answers.{Tells}
use Rattle.rart_c.specs.Reads.{Reads}
use Rattle.rart_c.specs.declared.answer.TheConstants.{ABSENT, TOO_SMALL}

-- Of how a value is told, and of what of it is written where there is no room for its key.
module _ {V X : Type 0} (Told : V → ℕ → X → X → Type 0) (Left : V → X → X → Type 0) where
  -- Of the room for a key and a length: where the room is as long as the key, it begins with the
  -- key, and the value is told; else the answer says that. Behind the key the room is as before,
  -- and the key's length is written.
  pub record TellsPair (key : List ℕ) (value : V) (answer : ℕ) (before after : List ℕ × ℕ)
      (was is : X) : Type 0 where
    pub fits : length key ≤ length before.0
        → (take (length key) after.0 ≡ key) × Told value answer was is
    pub too_small : length before.0 < length key → (answer ≡ TOO_SMALL) × Left value was is
    pub behind : drop (length key) after.0 ≡ drop (length key) before.0
    pub long : after.1 ≡ length key

  -- The first of the pairs is told; or the answer says that there is none, and nothing is written.
  abbrev pub TellsFirstSo :
      List (List ℕ × V) → ℕ → List ℕ × ℕ → List ℕ × ℕ → X → X → Type 0
  TellsFirstSo [] answer before after was is =
      (answer ≡ ABSENT) × (after ≡ before) × (is ≡ was)
  TellsFirstSo (pair ∷ others) answer before after was is =
      TellsPair pair.0 pair.1 answer before after was is

-- Its value is a number, and is not written where there is no room for the key.
abbrev pub TellsFirst :
    List (List ℕ × ℕ) → ℕ → List ℕ × ℕ → List ℕ × ℕ → ℕ → ℕ → Type 0
TellsFirst = TellsFirstSo (λ value. Tells (Some value)) (λ value was is. is ≡ was)

-- Its value is a byte string, read out into the caller's bytes. Of it the length alone is written
-- where there is no room for the key.
abbrev pub ReadsFirst :
    List (List ℕ × List ℕ) → ℕ → List ℕ × ℕ → List ℕ × ℕ → List ℕ × ℕ → List ℕ × ℕ → Type 0
ReadsFirst =
    TellsFirstSo (λ value. Reads (Some value)) (λ value was is. is ≡ (was.0, length value))

-- Lines that are taken of an input.
use Rattle.std.specs.Prelude.{◌≡◌, ◌≢◌, ℕ, List, [], ◌∷◌, ◌++◌, take, Option, Some, MatchOption, IfSome, ◌⊎◌}
use Rattle.vtree_lines.specs.Laws.{HasNoFeed}
use Rattle.std.specs.Io.KnownBytes.{Consumes, IsAtEnd, Keeps}

-- This line was taken of the input, and the rest is left: it was ended by its line feed, or was the
-- last, which has none.
pub record IsTaken (input line rest : List ℕ) : Type 0 where
  pub feedless : HasNoFeed line
  pub split : (input ≡ line ++ 10 ∷ rest) ⊎ ((input ≡ line) × (line ≢ []) × (rest ≡ []))

-- The next line was taken, of which 201 bytes are looked at; or none was left.
abbrev pub TakesLine : List ℕ → Option (List ℕ) → Option (List ℕ) → Type 0
TakesLine input looked left =
    MatchOption looked ((input ≡ []) × (left ≡ Some []))
    (λ front. (line rest : List ℕ) × (left ≡ Some rest) × (front ≡ take 201 line)
    × IsTaken input line rest)

-- The next byte was taken, or none was left.
abbrev pub TakesByte : Option ℕ → Option (List ℕ) → Option (List ℕ) → Type 0
TakesByte byte old new =
    MatchOption byte (IsAtEnd new × Keeps old new) (λ b. Consumes old new (b ∷ []))

-- Of the input these first bytes of a line are read, of which 201 are kept.
pub record IsReading (known now : Option (List ℕ)) (kept : List ℕ) : Type 0 where
  pub line : List ℕ
  pub feedless : HasNoFeed line
  pub kept_are : kept ≡ take 201 line
  pub input : IfSome known (λ input. (rest : List ℕ) × (now ≡ Some rest) × (input ≡ line ++ rest))

-- What a call has written of a text.
use Rattle.std.specs.Prelude.{◌≡◌, ℕ, List, ◌++◌, Result, Option, MatchResult}
use Rattle.std.specs.Io.KnownBytes.{Appends}

-- Known bytes grew by a prefix of the text.
pub record AppendsPart (old new : Option (List ℕ)) (text : List ℕ) : Type 0 where
  pub part : List ℕ
  pub rest : List ℕ
  pub whole : text ≡ part ++ rest
  pub appended : Appends old new part

-- On `Ok` known bytes grew by the text, on `Err` by a prefix of it.
abbrev pub Writes : {T E : Type 0} →
    Result T E → Option (List ℕ) → Option (List ℕ) → List ℕ → Type 0
Writes result old new text =
    MatchResult result (λ _. Appends old new text) (λ _. AppendsPart old new text)

-- A text stands behind what was held: some of it all was sent, and the rest is held.
pub record Follows (old new : Option (List ℕ)) (held kept : List ℕ) (text : List ℕ) : Type 0 where
  pub sent : List ℕ
  pub appended : Appends old new sent
  pub all : held ++ text ≡ sent ++ kept

-- On `Ok` the text stands behind what was held, on `Err` a prefix of both was written.
abbrev pub Puts : {T E : Type 0} →
    Result T E → Option (List ℕ) → Option (List ℕ) → List ℕ → List ℕ → List ℕ → Type 0
Puts result old new held kept text =
    MatchResult result (λ _. Follows old new held kept text)
    (λ _. AppendsPart old new (held ++ text))

-- What a session has done with the bytes that it took.
use Rattle.std.specs.Prelude.{◌≡◌, ℕ, ◌-◌, ◌^◌, List, [], ◌∷◌, ◌++◌, ◌⊎◌, length, take, min, Option, Result, MatchOption, MatchResult}
use Rattle.std.specs.List.{concat}
use Rattle.std.specs.Io.KnownBytes.{Appends}
use Rattle.vtree_lines.specs.declared.session.Session.{Session}
use Rattle.vtree_lines.specs.declared.served.Served.{Served}
use Rattle.vtree_lines.specs.declared.served.Served.TheVariants.{BadLine}
use Rattle.vtree_lines.specs.Lines.{lines_of, onto_line}
use Rattle.vtree_lines.specs.Grammar.{Said, IsLineOf, IsBad}
use Rattle.vtree_lines.specs.Writing.{Writes}
use Rattle.vtree_lines.specs.Transcript.{BadGives, GoodGives, Transcript, Tells, Serves, Stops, Gains}

-- These bytes of a line are read.
pub record IsReading (session : Session) (front : List ℕ) : Type 0 where
  pub kept : session.line.items ≡ take 200 front
  pub counted : session.length ≡ min (length front) (2 ^ 64 - 1)

-- A line gave this text, and is remembered where it was a bad one.
abbrev pub Ends : List ℕ → Session → Session → List ℕ → Type 0
Ends line old new text =
    (BadGives old.family line text new.family × (new.served ≡ BadLine))
    ⊎ (GoodGives old.family line text new.family × (new.served ≡ old.served))

-- The line that was read is ended, and its text is written.
abbrev pub EndsLine : {T E : Type 0} → Session → Session → Result T E → Option (List ℕ) →
    Option (List ℕ) → Type 0
EndsLine old new result before behind =
    (line : List ℕ) → IsReading old line
    → (text : List ℕ) × Ends line old new text × Writes result before behind text

-- A line's command; none where the line is a bad one.
abbrev pub Commands : {C : Type 0} → (C → Said) → List ℕ → Option C → Type 0
Commands view line answer =
    MatchOption answer (IsBad line) (λ command. IsLineOf line (view command))

-- bytes that go onto the first line
abbrev pub onto : List ℕ → List (List ℕ) → List (List ℕ)
onto [] lines = lines
onto (byte ∷ front) lines = onto_line byte (onto front lines)

-- These bytes are taken: lines of them were served, and known bytes grew by their texts. Of the
-- next line a front is read.
pub record Serving (taken : List ℕ) (session : Session)
    (origin now : Option (List ℕ)) : Type 0 where
  pub done : List (List ℕ)
  pub front : List ℕ
  pub texts : List (List ℕ)
  pub split : (rest : List ℕ) → lines_of (taken ++ rest) ≡ done ++ onto front (lines_of rest)
  pub run : Transcript [] done texts session.family
  pub status : Tells session.served done
  pub written : Appends origin now (concat texts)
  pub reading : IsReading session front

-- One more byte is taken; or writing failed.
abbrev pub Takes : {T E : Type 0} → ℕ → Session → Session → Result T E → Option (List ℕ) →
    Option (List ℕ) → Type 0
Takes byte old new result before behind =
    (taken : List ℕ) (origin : Option (List ℕ)) → Serving taken old origin before
    → MatchResult result (λ _. Serving (taken ++ byte ∷ []) new origin behind)
    (λ _. (rest : List ℕ) → Gains origin behind (Stops (lines_of (taken ++ byte ∷ rest))))

-- The bytes that were taken are all; or writing failed.
abbrev pub Finishes : {E : Type 0} → Session → Result Served E → Option (List ℕ) → Option (List ℕ) →
    Type 0
Finishes old result before behind =
    (taken : List ℕ) (origin : Option (List ℕ)) → Serving taken old origin before
    → MatchResult result (λ served. Gains origin behind (Serves (lines_of taken) served))
    (λ _. Gains origin behind (Stops (lines_of taken)))

-- Texts made of lines are split into these lines.
use Rattle.std.proofs.Common.{◌≡◌, ◌≢◌, ℕ, List, [], ◌∷◌, ◌++◌, refl, sym, ◌∙◌, ap, append_assoc, Bool, true, false, eqb}
use Rattle.std.proofs.lemmas.Bool.{ne_eqb}
use Rattle.std.proofs.lemmas.List.{append-nil}
use Rattle.std.specs.Prelude.{if◌then◌else◌}
use Rattle.vtree_lines.specs.Lines.{lines_of, onto_line}
use Rattle.vtree_lines.specs.OwnLines.{Each}
use Rattle.vtree_lines.specs.Laws.{HasNoFeed, ended, LinesAreRead}

-- two choices by a test that does not hold
chosen : {A : Type 0} (test : Bool) (one other : A) → test ≡ false →
    (if test then one else other) ≡ other
chosen true one other e = absurd (cc)
chosen false one other e = refl

-- a byte that is no feed goes onto the first line
goes_on : (byte : ℕ) (bytes : List ℕ) → byte ≢ 10 →
    lines_of (byte ∷ bytes) ≡ onto_line byte (lines_of bytes)
goes_on byte bytes h = chosen (eqb byte 10) ([] ∷ lines_of bytes) (onto_line byte (lines_of bytes))
    (ne_eqb byte 10 h)

split_line : (line rest : List ℕ) → HasNoFeed line →
    lines_of (line ++ 10 ∷ rest) ≡ line ∷ lines_of rest
split_line [] rest h = refl
split_line (byte ∷ line) rest h = goes_on byte (line ++ 10 ∷ rest) h.0
    ∙ ap (onto_line byte) (split_line line rest h.1)

-- a last line that lacks its feed
last_line : (byte : ℕ) (line : List ℕ) → HasNoFeed (byte ∷ line) →
    lines_of (byte ∷ line) ≡ (byte ∷ line) ∷ []
last_line byte [] h = goes_on byte [] h.0
last_line byte (next ∷ line) h = goes_on byte (next ∷ line) h.0
    ∙ ap (onto_line byte) (last_line next line h.1)

last_alone : (last : List ℕ) → HasNoFeed last → last ≢ [] → lines_of last ≡ last ∷ []
last_alone [] h some = absurd (some refl)
last_alone (byte ∷ line) h some = last_line byte line h

-- lines before a text are its first ones
lines_before : (lines : List (List ℕ)) (rest : List ℕ) → Each HasNoFeed lines →
    lines_of (ended lines ++ rest) ≡ lines ++ lines_of rest
lines_before [] rest h = refl
lines_before (line ∷ lines) rest h =
    ap lines_of (append_assoc line (10 ∷ ended lines) rest)
    ∙ split_line line (ended lines ++ rest) h.0
    ∙ ap (λ s. line ∷ s) (lines_before lines rest h.1)

pub lines_are_read : LinesAreRead
lines_are_read lines h = (
  sym (ap lines_of (append-nil (ended lines))) ∙ lines_before lines [] h ∙ append-nil lines,
  λ last feedless some. lines_before lines last h
      ∙ ap (λ s. lines ++ s) (last_alone last feedless some),
)

-- What a program of lines writes: a text a line, from a family without a place.
use Rattle.std.specs.Prelude.{◌≡◌, ℕ, List, [], ◌∷◌, ◌++◌, ◌⊎◌, Option}
use Rattle.std.specs.List.{concat}
use Rattle.std.specs.Io.KnownBytes.{Appends}
use Rattle.rart_family.specs.Replies.{Reply}
use Rattle.rart_family.specs.Families.{Family}
use Rattle.rart_family.specs.Runs.{Step}
use Rattle.vtree_lines.specs.declared.served.Served.{Served}
use Rattle.vtree_lines.specs.declared.served.Served.TheVariants.{Clean, BadLine}
use Rattle.vtree_lines.specs.declared.served.ServeError.{ServeError}
use Rattle.vtree_lines.specs.declared.served.ServeError.TheVariants.{Read, Write, Memory}
use Rattle.vtree_lines.specs.Grammar.{Said, IsLineOf, IsBad}
use Rattle.vtree_lines.specs.ReplyTexts.{reply_line, bad_line}

-- A command's reply is one that a step of the family allows.
abbrev pub Replies : Family ℕ → Said → Reply ℕ → Family ℕ → Type 0
Replies old command reply new = Step (λ key. key) old command reply new

-- a bad line says so, and changes nothing
abbrev pub BadGives : Family ℕ → List ℕ → List ℕ → Family ℕ → Type 0
BadGives old line text new = IsBad line × (text ≡ bad_line) × (new ≡ old)

-- a good line's text is that of a reply to its command
abbrev pub GoodGives : Family ℕ → List ℕ → List ℕ → Family ℕ → Type 0
GoodGives old line text new =
    (command : Said) × (reply : Reply ℕ)
    × IsLineOf line command × Replies old command reply new × (text ≡ reply_line reply)

-- A line, its text, and the family behind it.
abbrev pub LineGives : Family ℕ → List ℕ → List ℕ → Family ℕ → Type 0
LineGives old line text new = BadGives old line text new ⊎ GoodGives old line text new

-- Lines one after another, a text each.
abbrev pub Transcript : Family ℕ → List (List ℕ) → List (List ℕ) → Family ℕ → Type 0
Transcript old [] [] new = new ≡ old
Transcript old (line ∷ lines) (text ∷ texts) new =
    (mid : Family ℕ) × LineGives old line text mid × Transcript mid lines texts new
Transcript old [] (text ∷ texts) new = ⊥
Transcript old (line ∷ lines) [] new = ⊥

-- some line is a bad one
abbrev pub HasBad : List (List ℕ) → Type 0
HasBad [] = ⊥
HasBad (line ∷ lines) = IsBad line ⊎ HasBad lines

-- What is told of the lines: whether one of them was bad.
abbrev pub Tells : Served → List (List ℕ) → Type 0
Tells BadLine lines = HasBad lines
Tells Clean lines = HasBad lines → ⊥

-- Each line was served, and what is written are the texts.
pub record Serves (lines : List (List ℕ)) (served : Served) (written : List ℕ) : Type 0 where
  pub texts : List (List ℕ)
  pub family : Family ℕ
  pub run : Transcript [] lines texts family
  pub all : written ≡ concat texts
  pub status : Tells served lines

-- Some first lines were served, and what is written are their texts.
pub record Begins (lines : List (List ℕ)) (written : List ℕ) : Type 0 where
  pub done : List (List ℕ)
  pub rest : List (List ℕ)
  pub texts : List (List ℕ)
  pub family : Family ℕ
  pub first : lines ≡ done ++ rest
  pub run : Transcript [] done texts family
  pub all : written ≡ concat texts

-- Some first lines were served, and the next one was done; what is written are their texts, and of
-- the next one's a prefix.
pub record Stops (lines : List (List ℕ)) (written : List ℕ) : Type 0 where
  pub done : List (List ℕ)
  pub line : List ℕ
  pub rest : List (List ℕ)
  pub texts : List (List ℕ)
  pub mid : Family ℕ
  pub text : List ℕ
  pub new : Family ℕ
  pub prefix : List ℕ
  pub lost : List ℕ
  pub first : lines ≡ done ++ line ∷ rest
  pub run : Transcript [] done texts mid
  pub last : LineGives mid line text new
  pub part : text ≡ prefix ++ lost
  pub all : written ≡ concat texts ++ prefix

-- Why the serving of lines ended before these did.
abbrev pub EndsBy : ServeError → List (List ℕ) → List ℕ → Type 0
EndsBy Read lines written = Begins lines written
EndsBy Write lines written = Stops lines written
EndsBy Memory lines written = ⊥

-- Known bytes gained some that are so.
abbrev pub Gains : Option (List ℕ) → Option (List ℕ) → (List ℕ → Type 0) → Type 0
Gains old new Is = (written : List ℕ) × Appends old new written × Is written

-- Transcripts of the same lines agree, and own replies are one.
use Rattle.std.proofs.Common.{inl, inr, ◌≡◌, ◌≢◌, ℕ, List, [], ◌∷◌, refl, sym, ◌∙◌, ap, subst, ◌≤◌, ◌<◌, length, map, true, false, leb, arith}
use Rattle.std.proofs.lemmas.Bool.Decides.{leb_tells}
use Rattle.std.specs.Prelude.{◌⊎◌}
use Rattle.rart_family.specs.Replies.{Reply, NoMemory}
use Rattle.rart_family.specs.Families.{Family, reply_to, after}
use Rattle.rart_family.proofs.CallerLemmas.{own_replies}
use Rattle.vtree_lines.specs.Grammar.{Said, word_of, form_of, IsLineOf}
use Rattle.vtree_lines.specs.Lines.{words}
use Rattle.vtree_lines.specs.ReplyTexts.{reply_line, bad_line}
use Rattle.vtree_lines.specs.Transcript.{Replies, LineGives, Transcript}
use Rattle.vtree_lines.specs.Laws.{EachLineGives, TranscriptsAgree, BadLinesChangeNothing, OwnRepliesAreTranscripts}
use Rattle.vtree_lines.proofs.GrammarLemmas.{Finds, form_found, line_is_one_command}
use Rattle.vtree_lines.proofs.OwnLineLemmas.{own_line}

-- a reply that does not say that memory was refused is the command's own
pub own_reply : (old new : Family ℕ) (command : Said) (reply : Reply ℕ) →
    Replies old command reply new → reply ≢ NoMemory →
    (reply ≡ reply_to (λ key. key) old command) × (new ≡ after (λ key. key) old command)
own_reply old new command reply step other =
    own_replies (List ℕ) ℕ (λ key. key) old new command reply step other

pub line_agrees : (old one other : Family ℕ) (line text next : List ℕ) →
    LineGives old line text one → LineGives old line next other → text ≢ reply_line NoMemory →
    next ≢ reply_line NoMemory → (text ≡ next) × (one ≡ other)
line_agrees old one other line text next (inl b) (inl c) p q = (b.1 ∙ sym c.1, b.2 ∙ sym c.2)
line_agrees old one other line text next (inl b) (inr g) p q = absurd (b.0 g.0 g.2)
line_agrees old one other line text next (inr g) (inl b) p q = absurd (b.0 g.0 g.2)
line_agrees old one other line text next (inr g) (inr k) p q =
    let same : g.0 ≡ k.0 = line_is_one_command line g.0 k.0 g.2 k.2 in
    let left = own_reply old one g.0 g.1 g.3 (λ e. p (g.4 ∙ ap reply_line e)) in
    let right = own_reply old other k.0 k.1 k.3 (λ e. q (k.4 ∙ ap reply_line e)) in (
      g.4 ∙ ap reply_line (left.0 ∙ ap (reply_to (λ key. key) old) same ∙ sym right.0) ∙ sym k.4,
      left.1 ∙ ap (after (λ key. key) old) same ∙ sym right.1,
    )

pub transcripts_agree : TranscriptsAgree
transcripts_agree old one other [] [] [] h k p q = (refl, h ∙ sym k)
transcripts_agree old one other [] (t ∷ ts) us h k p q = absurd h
transcripts_agree old one other [] [] (u ∷ us) h k p q = absurd k
transcripts_agree old one other (l ∷ ls) [] us h k p q = absurd h
transcripts_agree old one other (l ∷ ls) (t ∷ ts) [] h k p q = absurd k
transcripts_agree old one other (l ∷ ls) (t ∷ ts) (u ∷ us) h k p q =
    let first = line_agrees old h.0 k.0 l t u h.1 k.1 p.0 q.0 in
    let rest = transcripts_agree h.0 one other ls ts us h.2
    (subst (λ (f : Family ℕ). Transcript f ls us other) (sym first.1) k.2) p.1 q.1 in
    (rw (first.0, rest.0) refl, rest.1)

pub bad_lines_change_nothing : BadLinesChangeNothing
bad_lines_change_nothing old new line text bad (inl b) = (b.1, b.2)
bad_lines_change_nothing old new line text bad (inr g) = absurd (bad g.0 g.2)

pub own_replies_are_transcripts : OwnRepliesAreTranscripts
own_replies_are_transcripts old [] h = refl
own_replies_are_transcripts old (c ∷ cs) h = (
  after (λ key. key) old c,
  inr (c, reply_to (λ key. key) old c, own_line c h.0, inl (refl, refl), refl),
  own_replies_are_transcripts (after (λ key. key) old c) cs h.1,
)

-- what transcripts of the same lines have in common
pub ruleset transcripts = (transcripts_agree, bad_lines_change_nothing, own_replies_are_transcripts)

-- ---- each line is a command's, or a bad one

line_at : (line : List ℕ) → ((leb (length line) 200 ≡ true) × (length line ≤ 200)) ⊎
    ((leb (length line) 200 ≡ false) × (200 < length line)) →
    Finds Said (λ command. map word_of (words line) ≡ form_of command) →
    Finds Said (IsLineOf line)
line_at line (inr l) found = inr (λ c h. absurd (omega (arith, l.1, h.0)))
line_at line (inl l) (inl found) = inl (found.0, (l.1, found.1))
line_at line (inl l) (inr none) = inr (λ c h. none c h.1)

gives_at : (old : Family ℕ) (line : List ℕ) → Finds Said (IsLineOf line) →
    (text : List ℕ) × (new : Family ℕ) × LineGives old line text new
gives_at old line (inl found) = (
  reply_line (reply_to (λ key. key) old found.0),
  after (λ key. key) old found.0,
  inr (found.0, reply_to (λ key. key) old found.0, found.1, inl (refl, refl), refl),
)
gives_at old line (inr bad) = (bad_line, old, inl (bad, refl, refl))

pub each_line_gives : EachLineGives
each_line_gives old line = gives_at old line
    (line_at line (leb_tells (length line) 200) (form_found (map word_of (words line))))

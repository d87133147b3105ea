-- What a line does to a family, and whether it is kept.
use Rattle.std.proofs.Common.{inl, inr, ◌≡◌, ◌≢◌, ℕ, ◌-◌, List, [], ◌∷◌, refl, sym, ◌∙◌, ap, subst, Bool, true, false}
use Rattle.std.specs.Prelude.{◌⊎◌, ◌↔◌, IsTrue}
use Rattle.std.specs.declared.option.Option.{Option}
use Rattle.std.specs.declared.option.Option.TheVariants.{Some, None}
use Rattle.std.specs.Io.KnownBytes.{Appends, Keeps}
use Rattle.rart_family.specs.Replies.{Reply, NoMemory}
use Rattle.rart_family.specs.Families.{Family, call_of, reply_to}
use Rattle.rart_family.specs.Laws.{OnlyReads}
use Rattle.rart_family.proofs.CallerLemmas.{reads_leave_family}
use Rattle.vtree_lines.specs.Grammar.{Said, IsLineOf, IsBad}
use Rattle.vtree_lines.specs.ReplyTexts.{reply_line, bad_line}
use Rattle.vtree_lines.specs.ServingLaws.{IsRefusal}
use Rattle.vtree_lines.specs.Transcript.{Replies, LineGives}
use Rattle.vtree_lines.proofs.GrammarLemmas.{line_is_one_command}
use Rattle.vtree_lines.proofs.ServingLawLemmas.{refusals_change_nothing}
use Rattle.vtree_lines.proofs.TranscriptLemmas.{own_reply}
use Rattle.example_store.specs.Kept.{Answered, IsKept, IsNeverKept, LeavesFamily, answer_text}
use Rattle.example_store.specs.Log.{next_sum, entry}
use Rattle.example_store.specs.Stores.{AlsoTells, Answers, KeepsLine, LeavesLine, State}

pub bad_gives : (old : Family ℕ) (line : List ℕ) → IsBad line → LineGives old line bad_line old
bad_gives old line bad = inl (bad, refl, refl)

pub bad_never : (old : Family ℕ) (line : List ℕ) → IsBad line → IsNeverKept old line
bad_never old line bad = λ new k. bad k.command k.says

pub good_gives : (old new : Family ℕ) (line : List ℕ) (command : Said) (reply : Reply ℕ) →
    IsLineOf line command → Replies old command reply new →
    LineGives old line (reply_line reply) new
good_gives old new line command reply is steps = inr (command, reply, is, steps, refl)

-- a command that only reads, or is refused, leaves the family
pub good_left : (old new : Family ℕ) (command : Said) (reply : Reply ℕ) →
    Replies old command reply new → LeavesFamily command reply → new ≡ old
good_left old new command reply steps (inl reads) =
    reads_leave_family (List ℕ) ℕ (λ key. key) old new command reply reads steps
good_left old new command reply steps (inr refused) =
    refusals_change_nothing old new command reply refused steps

-- a reply that refuses for a lack is the only one
lack_never : (old new : Family ℕ) (line : List ℕ) (command : Said) (reply : Reply ℕ) →
    IsLineOf line command → Replies old command reply new → reply ≢ NoMemory → IsRefusal reply →
    IsNeverKept old line
lack_never old new line command reply is steps other refused = λ found k.
    let same : command ≡ k.command = line_is_one_command line command k.command is k.says in
    let mine = own_reply old new command reply steps other in
    let its = own_reply old found k.command k.reply k.steps (λ e. k.changes (inr (inr (inr e)))) in
    k.changes (inr (subst IsRefusal
    (mine.0 ∙ ap (reply_to (λ key. key) old) same ∙ sym its.0) refused))

pub good_never : (old new : Family ℕ) (line : List ℕ) (command : Said) (reply : Reply ℕ) →
    IsLineOf line command → Replies old command reply new → LeavesFamily command reply →
    (Some reply ≡ Some NoMemory) ⊎ IsNeverKept old line
good_never old new line command reply is steps (inl reads) = inr (λ found k.
    k.changes (inl (subst (λ (c : Said). OnlyReads (call_of (λ key. key) c))
    (line_is_one_command line command k.command is k.says) reads)))
good_never old new line command reply is steps (inr (inr (inr memory))) = inl (ap Some memory)
good_never old new line command reply is steps (inr (inl version)) = inr (lack_never old new line
    command reply is steps (λ e. absurd (cc)) (inl version))
good_never old new line command reply is steps (inr (inr (inl room))) = inr (lack_never old new line
    command reply is steps (λ e. absurd (cc)) (inr (inl room)))

-- ---- whether some line was bad

-- a line that is not bad tells nothing new
pub tells_good : (before behind : Bool) (line : List ℕ) → behind ≡ before → ¬ IsBad line →
    AlsoTells (line ∷ []) before behind
tells_good before behind line same good = (
  (λ e. inl (sym same ∙ e)),
  (λ h. elim h [
    | inl e ↦ same ∙ e
    | inr bad ↦ elim bad [
      | inl is ↦ absurd (good is)
      | inr none ↦ absurd none
    ]
  ]),
)

-- a bad line is one that gets no reply
pub tells_reply : (before behind : Bool) (line : List ℕ) (reply : Option (Reply ℕ)) →
    IsTrue behind ↔ (IsTrue before ⊎ (reply ≡ None)) →
    (reply ≡ None) ↔ IsBad line → AlsoTells (line ∷ []) before behind
tells_reply before behind line reply told bad = (
  (λ e. elim (told.0 e) [
    | inl was ↦ inl was
    | inr none ↦ inr (inl (bad.0 none))
  ]),
  (λ h. elim h [
    | inl was ↦ told.1 (inl was)
    | inr has ↦ elim has [
      | inl is ↦ told.1 (inr (bad.1 is))
      | inr none ↦ absurd none
    ]
  ]),
)

-- ---- what a store does with a line

-- a line that is kept is a good one
kept_good : (old new : Family ℕ) (line : List ℕ) → IsKept old line new → ¬ IsBad line
kept_good old new line kept = λ bad. bad kept.command kept.says

pub answers_kept : (line : List ℕ) (old new : State) (answer : Answered) (mid : Family ℕ) →
    answer.is_kept ≡ true →
    LineGives old.family line (answer_text answer.reply) mid → IsKept old.family line mid →
    new.family ≡ mid → new.sum ≡ next_sum old.sum line → new.lines_left ≡ old.lines_left - 1 →
    Appends old.log new.log (entry old.sum line) → new.has_bad ≡ old.has_bad →
    Answers line old new answer
answers_kept line old new answer mid keep gives kept same sum counted gained served = record {
  gives = subst (LineGives old.family line (answer_text answer.reply)) (sym same) gives;
  kept = λ _. record {
    kept = subst (IsKept old.family line) (sym same) kept;
    sum = sum;
    counted = counted;
    gained = gained;
  };
  left = λ lose. let e : true ≡ false = sym keep ∙ lose in absurd (cc);
  told = tells_good old.has_bad new.has_bad line served (kept_good old.family mid line kept);
}

keeps_same : (known : Option (List ℕ)) → Keeps known known
keeps_same None = tt
keeps_same (Some xs) = refl

pub answers_left : (line : List ℕ) (old new : State) (answer : Answered) →
    answer.is_kept ≡ false →
    LineGives old.family line (answer_text answer.reply) new.family → new.family ≡ old.family →
    new.sum ≡ old.sum → new.lines_left ≡ old.lines_left → new.log ≡ old.log →
    AlsoTells (line ∷ []) old.has_bad new.has_bad → Answers line old new answer
answers_left line old new answer lose gives family sum counted log told = record {
  gives = gives;
  kept = λ keep. let e : true ≡ false = sym keep ∙ lose in absurd (cc);
  left = λ _. record {
    family = family;
    sum = sum;
    counted = counted;
    same = subst (Keeps old.log) (sym log) (keeps_same old.log);
  };
  told = told;
}

by_kept : {A B : Type 0} (kept : Bool) → (kept ≡ true → A) → (kept ≡ false → B) → A ⊎ B
by_kept true keep lose = inl (keep refl)
by_kept false keep lose = inr (lose refl)

-- a line is kept or leaves the store
pub answer_done : (line : List ℕ) (old new : State) (answer : Answered) →
    Answers line old new answer → KeepsLine line old new ⊎ LeavesLine old new
answer_done line old new answer h = by_kept answer.is_kept h.kept h.left

-- the same of a store as it shows
pub answers_shown : (line : List ℕ) (seen old new : State) (answer : Answered) → seen ≡ old →
    Answers line seen new answer → Answers line old new answer
answers_shown line seen old new answer is h =
    subst (λ (s : State). Answers line s new answer) is h

-- What is left where an input ends, and where its serving ends early.
use Rattle.std.proofs.Common.{inl, inr, ◌≡◌, ◌≢◌, ◌+◌, ◌⊎◌, Bool, true, false, ℕ, zero, suc, List, [], ◌∷◌, ◌++◌, refl, sym, ◌∙◌, ap, subst, arith, append_assoc, append-nil}
use Rattle.std.proofs.lemmas.List.{take_all}
use Rattle.std.proofs.lemmas.List.Folds.{concat-append}
use Rattle.std.specs.Prelude.{◌^◌, ◌-◌, codes, if◌then◌else◌, nat_lt, slice_set, Option}
use Rattle.std.specs.List.{concat, flat_map}
use Rattle.std.specs.declared.option.Option.TheVariants.{Some, None}
use Rattle.rart_maps.specs.Versions.{Version}
use Rattle.rart_family.specs.Replies.{Reply, Place, Discarded, Number, Flag, Value, Entries, Values, Stopped, Pairs, ValuePairs, Count, Failed, NoVersion, NoRoom, NoMemory}
use Rattle.rart_family.specs.Families.{Family, Outcome, Call, Makes, Copies, Discards, Reads, Meets, Changes, version_at, call_outcome, with_room, placement, called, call_of, outcome}
use Rattle.rart_family.proofs.CallerLemmas.{Answers, command_answers, is_refusal, no_want, no_want_before_lack, no_want_without_memory}
use Rattle.vtree_lines.specs.Lines.{lines_of}
use Rattle.vtree_lines.specs.Grammar.{Said}
use Rattle.vtree_lines.specs.ReplyTexts.{number_text, entry_text, pair_text, value_pair_text, line, reply_line}
use Rattle.vtree_lines.specs.Laws.{NoneRefused}
use Rattle.vtree_lines.specs.Transcript.{LineGives, Transcript}
use Rattle.vtree_lines.specs.ServingLaws.{InputIsRead, RefusalsChangeNothing, RefusalsAreOfMemory, WritingIsBehind, AreWholeLines, WholeLinesAreWritten, FailedReadsLeaveAPrefix, FailedWritesLeaveAPrefix, ReadingTakesNoMemory}
use Rattle.vtree_lines.proofs.TranscriptLemmas.{line_agrees, transcripts_agree}

pub input_is_read : InputIsRead
input_is_read input short = ap lines_of (take_all (2 ^ 64 - 1) input (omega (arith, short)))

-- ---- refusals

-- a version or room is lacking
abbrev pub IsLack : Reply ℕ → Type 0
IsLack reply = (reply ≡ NoVersion) ⊎ (reply ≡ NoRoom)

-- where something is lacking, the outcome leaves the family
abbrev pub Stays : Family ℕ → Outcome ℕ → Type 0
Stays f out = IsLack out.0 → out.1 ≡ f

call_stays : (f : Family ℕ) (call : Version ℕ → Outcome ℕ) (at : Option (Version ℕ)) →
    ((v : Version ℕ) → Stays f (call v)) → Stays f (call_outcome f call at)
call_stays f call None stays lack = refl
call_stays f call (Some v) stays lack = stays v lack

if_stays : (f : Family ℕ) (has_room : Bool) (out : Outcome ℕ) → Stays f out →
    Stays f (if has_room then out else (NoRoom, f))
if_stays f true out stays lack = stays lack
if_stays f false out stays lack = refl

room_stays : (f : Family ℕ) (v : Version ℕ) (room : ℕ) (out : Outcome ℕ) → Stays f out →
    Stays f (with_room f v room out)
room_stays f v zero out stays = stays
room_stays f v (suc room) out stays = if_stays f (nat_lt (v.number + suc room) (2 ^ 64)) out stays

-- a reply that is no refusal is no lack
no_lack : (reply : Reply ℕ) → is_refusal reply ≡ false → ¬ IsLack reply
no_lack reply is (inl e) = let clash : false ≡ true = sym is ∙ ap is_refusal e in cc
no_lack reply is (inr e) = let clash : false ≡ true = sym is ∙ ap is_refusal e in cc

placed_stays : (f : Family ℕ) (v : Version ℕ) → Stays f (placement f v)
placed_stays f v lack = absurd (no_lack (placement f v).0 refl lack)

called_stays : (f : Family ℕ) (call : Call ℕ) → Answers call → Stays f (called f call)
called_stays f (Makes v) answers = placed_stays f v
called_stays f (Copies place room copy) answers =
    call_stays f _ (version_at f place)
    (λ v. room_stays f v room (placement f (copy v)) (placed_stays f (copy v)))
called_stays f (Discards place) answers =
    call_stays f _ (version_at f place) (λ v lack. absurd (no_lack Discarded refl lack))
called_stays f (Reads place reply) answers =
    call_stays f _ (version_at f place) (λ v lack. refl)
called_stays f (Meets left right reply) answers =
    call_stays f _ (version_at f left)
    (λ one. call_stays f _ (version_at f right) (λ other lack. refl))
called_stays f (Changes place room key change) answers =
    call_stays f _ (version_at f place) (λ v. room_stays f v room
    ((change v).0, slice_set f place (Some (change v).1))
    (λ lack. absurd (no_lack (change v).0 (answers v) lack)))

lack_stays : (f : Family ℕ) (command : Said) → Stays f (outcome (λ key. key) f command)
lack_stays f command =
    called_stays f (call_of (λ key. key) command) (command_answers (λ key. key) f command)

pub refusals_change_nothing : RefusalsChangeNothing
refusals_change_nothing old new command reply refusal (inr want) = want.1
refusals_change_nothing old new command reply (inl lack) (inl own) =
    own.1 ∙ lack_stays old command (inl (sym own.0 ∙ lack))
refusals_change_nothing old new command reply (inr (inl lack)) (inl own) =
    own.1 ∙ lack_stays old command (inr (sym own.0 ∙ lack))
refusals_change_nothing old new command reply (inr (inr want)) (inl own) =
    absurd (no_want (List ℕ) ℕ (λ key. key) old command (sym own.0 ∙ want))

pub refusals_are_of_memory : RefusalsAreOfMemory
refusals_are_of_memory old new command (inl none) =
    no_want_without_memory (List ℕ) ℕ (λ key. key) old new command none
refusals_are_of_memory old new command (inr lack) =
    no_want_before_lack (List ℕ) ℕ (λ key. key) old new command lack

pub writing_is_behind : WritingIsBehind
writing_is_behind old None lines served h = absurd h.1
writing_is_behind old (Some new) lines served h = (h.0, ap Some h.1, h.2)

-- A transcript of lines of which these are the first.
pub record Parted (old new : Family ℕ) (done rest texts : List (List ℕ)) : Type 0 where
  pub first : List (List ℕ)
  pub last : List (List ℕ)
  pub mid : Family ℕ
  pub whole : texts ≡ first ++ last
  pub begun : Transcript old done first mid
  pub ended : Transcript mid rest last new

pub parted : (old new : Family ℕ) (done rest texts : List (List ℕ)) →
    Transcript old (done ++ rest) texts new → Parted old new done rest texts
parted old new [] rest texts h = record {
  first = [];
  last = texts;
  mid = old;
  whole = refl;
  begun = refl;
  ended = h;
}
parted old new (line ∷ done) rest [] h = absurd h
parted old new (line ∷ done) rest (text ∷ texts) h =
    let more = parted h.0 new done rest texts h.2 in
    record {
      first = text ∷ more.first;
      last = more.last;
      mid = more.mid;
      whole = ap (λ ts. text ∷ ts) more.whole;
      begun = (h.0, h.1, more.begun);
      ended = more.ended;
    }

-- the first and the last of texts of which none says that memory was refused
pub none_first : (first last : List (List ℕ)) → NoneRefused (first ++ last) → NoneRefused first
none_first [] last h = tt
none_first (text ∷ first) last h = (h.0, none_first first last h.1)

pub none_last : (first last : List (List ℕ)) → NoneRefused (first ++ last) → NoneRefused last
none_last [] last h = h
none_last (text ∷ first) last h = none_last first last h.1

-- the texts of the first lines are those of the whole transcript, and others stand behind them
pub first_agree : (new mid : Family ℕ) (done rest texts others : List (List ℕ)) →
    (p : Parted [] new done rest texts) → Transcript [] done others mid → NoneRefused texts →
    NoneRefused others → (p.first ≡ others) × (p.mid ≡ mid)
first_agree new mid done rest texts others p run clear other =
    transcripts_agree [] p.mid mid done p.first others p.begun run
    (none_first p.first p.last (subst NoneRefused p.whole clear)) other

-- ---- whole lines

abbrev pub EndsLine : List ℕ → Type 0
EndsLine text = (front : List ℕ) × (text ≡ front ++ codes "\n")

line_ends : (word behind : List ℕ) → EndsLine (line word behind)
line_ends word behind = (word ++ behind, sym (append_assoc word behind (codes "\n")))

reply_ends : (reply : Reply ℕ) → EndsLine (reply_line reply)
reply_ends (Place place) = line_ends (codes "at") (number_text place)
reply_ends Discarded = line_ends (codes "discarded") []
reply_ends (Number number) = line_ends (codes "version") (number_text number)
reply_ends (Flag true) = line_ends (codes "true") []
reply_ends (Flag false) = line_ends (codes "false") []
reply_ends (Value (Some value)) = line_ends (codes "some") (number_text value)
reply_ends (Value None) = line_ends (codes "none") []
reply_ends (Entries entries) = line_ends (codes "entries") (flat_map entry_text entries)
reply_ends (Values values) = line_ends (codes "values") (flat_map number_text values)
reply_ends (Stopped values false) = line_ends (codes "values") (flat_map number_text values)
reply_ends (Stopped values true) = line_ends (codes "failed") (flat_map number_text values)
reply_ends (Pairs entries) = line_ends (codes "pairs") (flat_map pair_text entries)
reply_ends (ValuePairs pairs) = line_ends (codes "value-pairs") (flat_map value_pair_text pairs)
reply_ends (Count count) = line_ends (codes "count") (number_text count)
reply_ends Failed = line_ends (codes "failed") []
reply_ends NoVersion = line_ends (codes "no version") []
reply_ends NoRoom = line_ends (codes "no room") []
reply_ends NoMemory = line_ends (codes "no memory") []

given_ends : (old new : Family ℕ) (line text : List ℕ) → LineGives old line text new →
    EndsLine text
given_ends old new line text (inl bad) = (codes "bad line", bad.1)
given_ends old new line text (inr good) =
    let ends = reply_ends good.1 in (ends.0, good.4 ∙ ends.1)

whole_behind : (text rest : List ℕ) → EndsLine text → AreWholeLines rest →
    AreWholeLines (text ++ rest)
whole_behind text rest ends (inl none) = inr (
  ends.0,
  ap (λ s. text ++ s) none ∙ append-nil text ∙ ends.1,
)
whole_behind text rest ends (inr more) = inr (
  text ++ more.0,
  ap (λ s. text ++ s) more.1 ∙ sym (append_assoc text more.0 (codes "\n")),
)

texts_are_whole : (old new : Family ℕ) (lines texts : List (List ℕ)) →
    Transcript old lines texts new → AreWholeLines (concat texts)
texts_are_whole old new [] [] h = inl refl
texts_are_whole old new [] (text ∷ texts) h = absurd h
texts_are_whole old new (line ∷ lines) [] h = absurd h
texts_are_whole old new (line ∷ lines) (text ∷ texts) h =
    whole_behind text (concat texts) (given_ends old h.0 line text h.1)
    (texts_are_whole h.0 new lines texts h.2)

pub whole_lines_are_written : WholeLinesAreWritten
whole_lines_are_written lines written = (
  λ served serves. subst AreWholeLines (sym serves.all)
      (texts_are_whole [] serves.family lines serves.texts serves.run),
  λ begins. subst AreWholeLines (sym begins.all)
      (texts_are_whole [] begins.family begins.done begins.texts begins.run),
)

pub failed_reads_leave_a_prefix : FailedReadsLeaveAPrefix
failed_reads_leave_a_prefix lines served all written whole early clear other =
    let p = parted [] whole.family early.done early.rest whole.texts
    (subst (λ (ls : List (List ℕ)). Transcript [] ls whole.texts whole.family) early.first
    whole.run) in
    let same = first_agree whole.family early.family early.done early.rest whole.texts early.texts p
    early.run clear other in (
      concat p.last,
      whole.all ∙ ap concat p.whole ∙ concat-append p.first p.last
          ∙ ap (λ ts. concat ts ++ concat p.last) same.0
          ∙ ap (λ s. s ++ concat p.last) (sym early.all),
    )

-- what stands behind a prefix of the next line's text
pub next_text : (mid new family : Family ℕ) (line text : List ℕ) (rest last : List (List ℕ)) →
    Transcript mid (line ∷ rest) last family → LineGives mid line text new → NoneRefused last →
    text ≢ reply_line NoMemory → (behind : List ℕ) × (concat last ≡ text ++ behind)
next_text mid new family line text rest [] h gives clear other = absurd h
next_text mid new family line text rest (t ∷ ts) h gives clear other =
    let same = line_agrees mid h.0 new line t text h.1 gives clear.0 other in
    (concat ts, ap (λ s. s ++ concat ts) same.0)

pub failed_writes_leave_a_prefix : FailedWritesLeaveAPrefix
failed_writes_leave_a_prefix lines served all written whole early clear other text =
    let p = parted [] whole.family early.done (early.line ∷ early.rest) whole.texts
    (subst (λ (ls : List (List ℕ)). Transcript [] ls whole.texts whole.family) early.first
    whole.run) in
    let same = first_agree whole.family early.mid early.done (early.line ∷ early.rest) whole.texts
    early.texts p early.run clear other in
    let next = next_text early.mid early.new whole.family early.line early.text early.rest p.last
    (subst (λ (f : Family ℕ). Transcript f (early.line ∷ early.rest) p.last whole.family) same.1
    p.ended)
    early.last (none_last p.first p.last (subst NoneRefused p.whole clear)) text in (
      early.lost ++ next.0,
      whole.all ∙ ap concat p.whole ∙ concat-append p.first p.last
          ∙ ap (λ ts. concat ts ++ concat p.last) same.0
          ∙ ap (λ s. concat early.texts ++ s)
          (next.1 ∙ ap (λ s. s ++ next.0) early.part
          ∙ append_assoc early.prefix early.lost next.0)
          ∙ sym (append_assoc (concat early.texts) early.prefix (early.lost ++ next.0))
          ∙ ap (λ s. s ++ (early.lost ++ next.0)) (sym early.all),
    )

pub reading_takes_no_memory : ReadingTakesNoMemory
reading_takes_no_memory lines written h = h

-- what is left at an end
pub ruleset ends = (
  input_is_read,
  refusals_change_nothing,
  writing_is_behind,
  whole_lines_are_written,
  failed_reads_leave_a_prefix,
  failed_writes_leave_a_prefix,
  reading_takes_no_memory,
)

-- A log is played entry by entry.
use Rattle.std.proofs.Common.{inl, inr, ◌≡◌, ◌≢◌, ℕ, ◌+◌, ◌≤◌, ◌<◌, List, [], ◌∷◌, ◌++◌, length, refl, sym, ◌∙◌, ap, subst, arith, append_assoc, length-append}
use Rattle.std.specs.Prelude.{◌⊎◌, IfErr, IsErrAnd}
use Rattle.std.specs.declared.option.Option.{Option}
use Rattle.std.specs.declared.option.Option.TheVariants.{Some}
use Rattle.std.specs.declared.result.Result.TheVariants.{Ok, Err}
use Rattle.rart_family.specs.Replies.{Reply, NoMemory}
use Rattle.std.specs.declared.result.Result.{Result}
use Rattle.vtree_lines.specs.Laws.{HasNoFeed}
use Rattle.example_store.specs.Log.{next_sum, entry, entry_text, entries, sum_behind}
use Rattle.example_store.specs.Kept.{IsKept, IsNeverKept}
use Rattle.example_store.specs.Replays.{IsPlayed, IsReplayed, PlaysOn, LacksEntry, IsNoEntry, IsDamagedAt, IsRefusedBy}
use Rattle.example_store.specs.declared.checkpoint.Base.{Base}
use Rattle.example_store.specs.declared.replay.Replayed.{Replayed}
use Rattle.example_store.specs.declared.replay.ReplayError.{ReplayError}
use Rattle.example_store.specs.declared.replay.ReplayError.TheVariants.{Damaged, Memory}
use Rattle.example_store.proofs.FeedLemmas.{IsCut}
use Rattle.example_store.proofs.LogLemmas.{parts, sum_length, entry_ends, entry_length, entries_more, sum_more, text_no_feed, lines_one, no_feed_in, torn_no_entry}
use Rattle.example_store.proofs.KeptLemmas.{leads_more}

-- no entry is played yet
pub played_none : (base : Base) (bytes : List ℕ) (replayed : Replayed) →
    replayed.family ≡ base.family → replayed.sum ≡ base.sum → replayed.count ≡ 0 →
    replayed.length ≡ 0 → IsPlayed base bytes bytes replayed
played_none base bytes replayed family sum count at = record {
  lines = [];
  split = refl;
  leads = family;
  sum = sum;
  count = count;
  at = at;
}

-- an entry's text and its feed, before other bytes
text_ends : (sum line behind : List ℕ) →
    entry_text (next_sum sum line) line ++ 10 ∷ behind ≡ entry sum line ++ behind
text_ends sum line behind =
    sym (ap (λ s. s ++ behind) (entry_ends sum line)
    ∙ append_assoc (entry_text (next_sum sum line) line) (10 ∷ []) behind)

log_more : (sum : List ℕ) (lines : List (List ℕ)) (line behind : List ℕ) →
    entries sum lines ++ (entry_text (next_sum (sum_behind sum lines) line) line ++ 10 ∷ behind)
    ≡ entries sum (lines ++ line ∷ []) ++ behind
log_more sum lines line behind =
    ap (λ s. entries sum lines ++ s) (text_ends (sum_behind sum lines) line behind)
    ∙ sym (append_assoc (entries sum lines) (entry (sum_behind sum lines) line) behind)
    ∙ ap (λ s. s ++ behind) (sym (entries_more sum lines line))

text_length : (sum line : List ℕ) →
    length (entry sum line) ≡ length (entry_text (next_sum sum line) line) + 1
text_length sum line = ap length (entry_ends sum line)
    ∙ length-append (entry_text (next_sum sum line) line) (10 ∷ [])

log_length : (sum : List ℕ) (lines : List (List ℕ)) (line text : List ℕ) →
    text ≡ entry_text (next_sum (sum_behind sum lines) line) line →
    length (entries sum (lines ++ line ∷ [])) ≡ length (entries sum lines) + (length text + 1)
log_length sum lines line text e =
    ap length (entries_more sum lines line)
    ∙ length-append (entries sum lines) (entry (sum_behind sum lines) line)
    ∙ ap (λ n. length (entries sum lines) + n)
    (text_length (sum_behind sum lines) line ∙ ap (λ n. length n + 1) (sym e))

-- one more entry is played
pub played_next : (base : Base) (bytes rest text behind : List ℕ) (old new : Replayed) →
    IsPlayed base bytes rest old → IsCut rest text behind → PlaysOn text old new →
    IsPlayed base bytes behind new
played_next base bytes rest text behind old new h cut on =
    let is : text ≡ entry_text (next_sum (sum_behind base.sum h.lines) on.line) on.line =
    on.is ∙ ap (λ s. entry_text (next_sum s on.line) on.line) h.sum in
    record {
      lines = h.lines ++ on.line ∷ [];
      split = h.split ∙ ap (λ s. entries base.sum h.lines ++ s)
          (cut.split ∙ ap (λ s. s ++ 10 ∷ behind) is)
          ∙ log_more base.sum h.lines on.line behind;
      leads = leads_more base.family h.lines old.family new.family on.line h.leads on.kept;
      sum = on.sum ∙ ap (λ s. next_sum s on.line) h.sum
          ∙ sym (sum_more base.sum h.lines on.line);
      count = omega (arith, on.count, h.count, length-append h.lines (on.line ∷ []));
      at = on.at ∙ ap (λ n. n + (length text + 1)) h.at
          ∙ sym (log_length base.sum h.lines on.line text is);
    }

-- there are no more entries than bytes
entries_long : (sum : List ℕ) (lines : List (List ℕ)) → length lines ≤ length (entries sum lines)
entries_long sum [] = omega arith
entries_long sum (l ∷ lines) =
    omega (
      arith,
      entries_long (next_sum sum l) lines,
      entry_length sum l,
      length-append (entry sum l) (entries (next_sum sum l) lines),
    )

played_all : (base : Base) (bytes rest : List ℕ) (replayed : Replayed)
    (h : IsPlayed base bytes rest replayed) →
    length bytes ≡ length (entries base.sum h.lines) + length rest
played_all base bytes rest replayed h =
    ap length h.split ∙ length-append (entries base.sum h.lines) rest

pub played_room : (base : Base) (bytes rest text behind : List ℕ) (replayed : Replayed) →
    IsPlayed base bytes rest replayed → IsCut rest text behind →
    (replayed.count + 1 ≤ length bytes) × (replayed.length + length text + 1 ≤ length bytes)
played_room base bytes rest text behind replayed h cut =
    let all = played_all base bytes rest replayed h in
    let few : length rest ≡ length text + length (10 ∷ behind) =
    ap length cut.split ∙ length-append text (10 ∷ behind) in
    (omega (arith, all, few, h.count, entries_long base.sum h.lines), omega (arith, all, few, h.at))

pub played_count : (base : Base) (bytes rest : List ℕ) (replayed : Replayed) →
    IsPlayed base bytes rest replayed → replayed.count + length rest ≤ length bytes
played_count base bytes rest replayed h =
    omega (arith, played_all base bytes rest replayed h, h.count, entries_long base.sum h.lines)

-- a text is the one entry that bytes begin with
texts_one : (sum rest text behind line more : List ℕ) → IsCut rest text behind →
    rest ≡ entry sum line ++ more → HasNoFeed line →
    text ≡ entry_text (next_sum sum line) line
texts_one sum rest text behind line more cut e feedless =
    (lines_one text (entry_text (next_sum sum line) line) behind more cut.feedless
    (text_no_feed sum line feedless)
    (sym cut.split ∙ e ∙ sym (text_ends sum line more))).0

-- the entry that comes next is none
pub refused_next : (base : Base) (bytes rest text behind : List ℕ) (old : Replayed)
    (error : ReplayError) → IsPlayed base bytes rest old → IsCut rest text behind →
    IsNoEntry text old error → IsRefusedBy base bytes error
refused_next base bytes rest text behind old Memory h cut told = tt
refused_next base bytes rest text behind old (Damaged number at) h cut told = record {
  lines = h.lines;
  rest = rest;
  family = old.family;
  split = h.split;
  leads = h.leads;
  counted = told.0 ∙ ap (λ n. n + 1) h.count;
  placed = told.1 ∙ h.at;
  whole = λ torn. no_feed_in text behind rest torn.0 (sym cut.split);
  lacks = λ line more new e kept.
      let texts = texts_one (sum_behind base.sum h.lines) rest text behind line more cut e
      kept.whole in
      told.2 line new
      (texts ∙ ap (λ s. entry_text (next_sum s line) line) (sym h.sum)) kept;
}

-- what is left is no torn tail
pub refused_tail : (base : Base) (bytes rest : List ℕ) (replayed : Replayed) (number at : ℕ) →
    IsPlayed base bytes rest replayed → HasNoFeed rest → 217 < length rest →
    number ≡ replayed.count + 1 → at ≡ replayed.length → IsDamagedAt base bytes number at
refused_tail base bytes rest replayed number at h feedless long one two = record {
  lines = h.lines;
  rest = rest;
  family = replayed.family;
  split = h.split;
  leads = h.leads;
  counted = one ∙ ap (λ n. n + 1) h.count;
  placed = two ∙ h.at;
  whole = λ torn. absurd (omega (arith, torn.1, long));
  lacks = λ line more new e kept.
      torn_no_entry (sum_behind base.sum h.lines) line more rest feedless (sym e);
}

pub replayed_all : (base : Base) (bytes rest : List ℕ) (replayed : Replayed) →
    IsPlayed base bytes rest replayed → HasNoFeed rest → length rest ≤ 217 →
    IsReplayed base bytes replayed
replayed_all base bytes rest replayed h feedless short =
    (rest, h, (feedless, omega (arith, short)))

-- ---- one entry

feedless_behind : (a b : List ℕ) → HasNoFeed (a ++ b) → HasNoFeed b
feedless_behind [] b h = h
feedless_behind (x ∷ a) b h = feedless_behind a b h.1

pub line_feedless : (text sum line : List ℕ) → text ≡ sum ++ 32 ∷ line → HasNoFeed text →
    HasNoFeed line
line_feedless text sum line e h =
    (feedless_behind sum (32 ∷ line) (subst HasNoFeed e h)).1

-- a text is an entry of one line
pub entry_lacks : (text sum line : List ℕ) (old : Replayed) → text ≡ sum ++ 32 ∷ line →
    sum ≡ next_sum old.sum line → IsNeverKept old.family line → LacksEntry text old
entry_lacks text sum line old e is never = λ other new f kept.
    let (same, behind) = parts (next_sum old.sum line) (next_sum old.sum other) (32 ∷ line)
    (32 ∷ other) (sum_length old.sum line ∙ sym (sum_length old.sum other))
    (ap (λ s. s ++ 32 ∷ line) (sym is) ∙ sym e ∙ f) in
    let one : line ≡ other = cc in
    never new (subst (λ (s : List ℕ). IsKept old.family s new) (sym one) kept)

-- a line that is not to be kept is no entry, unless memory was refused
pub not_kept : (text sum line : List ℕ) (old : Replayed) (error : ReplayError)
    (reply : Option (Reply ℕ)) → text ≡ sum ++ 32 ∷ line → sum ≡ next_sum old.sum line →
    (reply ≡ Some NoMemory) ⊎ IsNeverKept old.family line →
    ((reply ≡ Some NoMemory) × (error ≡ Memory))
    ⊎ ((reply ≢ Some NoMemory) × (error ≡ Damaged (old.count + 1) old.length)) →
    IsNoEntry text old error
not_kept text sum line old error reply e is never (inl memory) =
    subst (IsNoEntry text old) (sym memory.1) tt
not_kept text sum line old error reply e is (inl wants) (inr told) = absurd (told.0 wants)
not_kept text sum line old error reply e is (inr never) (inr told) =
    subst (IsNoEntry text old) (sym told.1) (refl, refl, entry_lacks text sum line old e is never)

-- ---- the log as a whole

pub refused_by : (base : Base) (r : Result Replayed ReplayError) (bytes : List ℕ)
    (error : ReplayError) → IsErrAnd r (λ e. e ≡ error) → IsRefusedBy base bytes error →
    IfErr r (λ e. IsRefusedBy base bytes e)
refused_by base (Ok replayed) bytes error told h = absurd told
refused_by base (Err e) bytes error told h = subst (IsRefusedBy base bytes) (sym told) h

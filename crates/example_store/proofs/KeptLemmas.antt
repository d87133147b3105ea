-- What kept lines lead to, and what a log tells of them.
use Rattle.std.proofs.Common.{inl, inr, ◌≡◌, ◌≢◌, ℕ, List, [], ◌∷◌, ◌++◌, refl, sym, ◌∙◌, ap, subst, arith, append_assoc, true, false}
use Rattle.std.proofs.lemmas.List.{append-nil}
use Rattle.std.specs.declared.option.Option.TheVariants.{Some, None}
use Rattle.rart_family.specs.Replies.{Reply, Place, Discarded, Number, Flag, Value, Entries, Values, Stopped, Pairs, ValuePairs, Count, Failed, NoVersion, NoRoom, NoMemory}
use Rattle.rart_family.specs.Families.{Family, after}
use Rattle.vtree_lines.specs.Laws.{HasNoFeed}
use Rattle.vtree_lines.specs.ReplyTexts.{reply_line}
use Rattle.vtree_lines.proofs.GrammarLemmas.{line_is_one_command}
use Rattle.vtree_lines.proofs.TranscriptLemmas.{own_reply}
use Rattle.example_store.specs.Log.{next_sum, entry, entries, sum_behind, IsTorn}
use Rattle.example_store.specs.Kept.{IsKept, Leads}
use Rattle.example_store.specs.Laws.{KeptLinesAreServed, LogsAreOne, FrontsAreLogs, DamageIsNoLog, CrashesLoseNothing}
use Rattle.example_store.proofs.LogLemmas.{entries_are_one, entries_more, where_cut, entry_torn, torn_no_entry}

-- ---- kept lines

-- a line that is kept leads to one family
pub kept_once : (old one other : Family ℕ) (line : List ℕ) → IsKept old line one →
    IsKept old line other → one ≡ other
kept_once old one other line h k =
    let same : h.command ≡ k.command = line_is_one_command line h.command k.command h.says k.says in
    let left = own_reply old one h.command h.reply h.steps (λ e. h.changes (inr (inr (inr e)))) in
    let right = own_reply old other k.command k.reply k.steps (λ e. k.changes (inr (inr (inr e))))
    in
    left.1 ∙ ap (after (λ key. key) old) same ∙ sym right.1

-- one more line is kept
pub leads_more : (old : Family ℕ) (lines : List (List ℕ)) (mid new : Family ℕ) (line : List ℕ) →
    Leads old lines mid → IsKept mid line new → Leads old (lines ++ line ∷ []) new
leads_more old [] mid new line h k =
    (new, subst (λ (f : Family ℕ). IsKept f line new) h k, refl)
leads_more old (l ∷ lines) mid new line h k = (h.0, h.1, leads_more h.0 lines mid new line h.2 k)

-- ---- their transcript

abbrev first : List ℕ → ℕ
first [] = 0
first (x ∷ xs) = x

abbrev third : List ℕ → ℕ
third (a ∷ b ∷ x ∷ xs) = x
third xs = 0

abbrev fourth : List ℕ → ℕ
fourth (a ∷ b ∷ c ∷ x ∷ xs) = x
fourth xs = 0

other_first : (reply : Reply ℕ) → first (reply_line reply) ≢ 110 →
    reply_line reply ≢ reply_line NoMemory
other_first reply h e = h (ap first e)

pub no_memory_is_told : (reply : Reply ℕ) → reply ≢ NoMemory →
    reply_line reply ≢ reply_line NoMemory
no_memory_is_told (Place n) h = other_first (Place n) (λ e. omega (arith, e))
no_memory_is_told Discarded h = other_first Discarded (λ e. omega (arith, e))
no_memory_is_told (Number n) h = other_first (Number n) (λ e. omega (arith, e))
no_memory_is_told (Flag true) h = other_first (Flag true) (λ e. omega (arith, e))
no_memory_is_told (Flag false) h = other_first (Flag false) (λ e. omega (arith, e))
no_memory_is_told (Value (Some n)) h = other_first (Value (Some n)) (λ e. omega (arith, e))
no_memory_is_told (Value None) h = λ e. absurd (omega (arith, ap third e))
no_memory_is_told (Entries es) h = other_first (Entries es) (λ e. omega (arith, e))
no_memory_is_told (Values vs) h = other_first (Values vs) (λ e. omega (arith, e))
no_memory_is_told (Stopped vs false) h = other_first (Stopped vs false) (λ e. omega (arith, e))
no_memory_is_told (Stopped vs true) h = other_first (Stopped vs true) (λ e. omega (arith, e))
no_memory_is_told (Pairs es) h = other_first (Pairs es) (λ e. omega (arith, e))
no_memory_is_told (ValuePairs ps) h = other_first (ValuePairs ps) (λ e. omega (arith, e))
no_memory_is_told (Count n) h = other_first (Count n) (λ e. omega (arith, e))
no_memory_is_told Failed h = other_first Failed (λ e. omega (arith, e))
no_memory_is_told NoVersion h = λ e. absurd (omega (arith, ap fourth e))
no_memory_is_told NoRoom h = λ e. absurd (omega (arith, ap fourth e))
no_memory_is_told NoMemory h = absurd (h refl)

pub kept_lines_are_served : KeptLinesAreServed
kept_lines_are_served old [] new h = ([], h, tt)
kept_lines_are_served old (l ∷ lines) new h =
    let rest = kept_lines_are_served h.0 lines new h.2 in (
      reply_line h.1.reply ∷ rest.0,
      (h.0, inr (h.1.command, h.1.reply, h.1.says, h.1.steps, refl), rest.1),
      (no_memory_is_told h.1.reply (λ e. h.1.changes (inr (inr (inr e)))), rest.2),
    )

-- ---- the bytes of a log

-- what stands behind a first entry
pub entry_first : (sum line : List ℕ) (lines : List (List ℕ)) (tail : List ℕ) →
    entries sum (line ∷ lines) ++ tail ≡ entry sum line ++ (entries (next_sum sum line) lines ++
    tail)
entry_first sum line lines tail =
    append_assoc (entry sum line) (entries (next_sum sum line) lines) tail

one_log : (sum : List ℕ) (old one other : Family ℕ) (lines others : List (List ℕ))
    (tail more : List ℕ) → Leads old lines one → Leads old others other → HasNoFeed tail →
    HasNoFeed more → entries sum lines ++ tail ≡ entries sum others ++ more →
    (lines ≡ others) × (one ≡ other)
one_log sum old one other [] [] tail more h k t m e = (refl, h ∙ sym k)
one_log sum old one other [] (o ∷ others) tail more h k t m e =
    absurd (torn_no_entry sum o (entries (next_sum sum o) others ++ more) tail t
    (sym (entry_first sum o others more) ∙ sym e))
one_log sum old one other (l ∷ lines) [] tail more h k t m e =
    absurd (torn_no_entry sum l (entries (next_sum sum l) lines ++ tail) more m
    (sym (entry_first sum l lines tail) ∙ e))
one_log sum old one other (l ∷ lines) (o ∷ others) tail more h k t m e =
    let (same, rest) = entries_are_one sum l o (entries (next_sum sum l) lines ++ tail)
    (entries (next_sum sum o) others ++ more) h.1.whole k.1.whole
    (sym (entry_first sum l lines tail) ∙ e ∙ entry_first sum o others more) in
    let kept : IsKept old l k.0 = subst (λ (s : List ℕ). IsKept old s k.0) (sym same) k.1 in
    let mid : h.0 ≡ k.0 = kept_once old h.0 k.0 l h.1 kept in
    let (all, end) = one_log (next_sum sum l) h.0 one other lines others tail more h.2
    (subst (λ (f : Family ℕ). Leads f others other) (sym mid) k.2) t m
    (rest ∙ ap (λ s. entries (next_sum sum s) others ++ more) (sym same)) in
    (rw (same, all) refl, end)

pub logs_are_one : LogsAreOne
logs_are_one base bytes lines others one other h k =
    one_log base.sum base.family one other lines others h.tail k.tail h.leads k.leads h.torn.0
    k.torn.0
    (sym h.split ∙ k.split)

fronts : (sum : List ℕ) (old family : Family ℕ) (lines : List (List ℕ)) (bytes lost : List ℕ) →
    Leads old lines family → entries sum lines ≡ bytes ++ lost →
    (front later : List (List ℕ)) × (mid : Family ℕ) × (tail : List ℕ) × (lines ≡ front ++ later)
    × Leads old front mid × (bytes ≡ entries sum front ++ tail) × IsTorn tail
fronts sum old family [] [] lost h e = ([], [], old, [], refl, refl, refl, (tt, omega arith))
fronts sum old family [] (b ∷ bytes) lost h e = absurd (cc)
fronts sum old family (l ∷ lines) bytes lost h e =
    elim (where_cut (entry sum l) (entries (next_sum sum l) lines) bytes lost e) [
      | inl beyond ↦
          let (front, later, mid, tail, are, leads, split, torn) =
          fronts (next_sum sum l) h.0 family lines beyond.more lost h.2 beyond.rest in (
            l ∷ front,
            later,
            mid,
            tail,
            ap (λ s. l ∷ s) are,
            (h.0, h.1, leads),
            beyond.front ∙ ap (λ s. entry sum l ++ s) split ∙ sym (entry_first sum l front tail),
            torn,
          )
      | inr within ↦ (
        [],
        l ∷ lines,
        old,
        bytes,
        refl,
        refl,
        refl,
        entry_torn sum l bytes within.first within.more h.1.whole h.1.says.0 within.front,
      )
    ]

pub fronts_are_logs : FrontsAreLogs
fronts_are_logs base lines family bytes lost h e =
    let (front, later, mid, tail, are, leads, split, torn) =
    fronts base.sum base.family family lines bytes lost h e in
    (front, later, mid, are, record { tail = tail; split = split; torn = torn; leads = leads })

-- ---- damage, and crashes

damaged : (sum : List ℕ) (old one other : Family ℕ) (lines others : List (List ℕ))
    (rest tail : List ℕ) → Leads old lines one → Leads old others other → IsTorn tail →
    (IsTorn rest → ⊥) → ((line more : List ℕ) (new : Family ℕ) →
    rest ≡ entry (sum_behind sum lines) line ++ more → IsKept one line new → ⊥) →
    entries sum lines ++ rest ≡ entries sum others ++ tail → ⊥
damaged sum old one other [] [] rest tail h k torn whole lacks e =
    whole (subst (λ (s : List ℕ). IsTorn s) (sym e) torn)
damaged sum old one other [] (o ∷ others) rest tail h k torn whole lacks e =
    lacks o (entries (next_sum sum o) others ++ tail) k.0 (e ∙ entry_first sum o others tail)
    (subst (λ (f : Family ℕ). IsKept f o k.0) (sym h) k.1)
damaged sum old one other (l ∷ lines) [] rest tail h k torn whole lacks e =
    torn_no_entry sum l (entries (next_sum sum l) lines ++ rest) tail torn.0
    (sym (entry_first sum l lines rest) ∙ e)
damaged sum old one other (l ∷ lines) (o ∷ others) rest tail h k torn whole lacks e =
    let (same, behind) = entries_are_one sum l o (entries (next_sum sum l) lines ++ rest)
    (entries (next_sum sum o) others ++ tail) h.1.whole k.1.whole
    (sym (entry_first sum l lines rest) ∙ e ∙ entry_first sum o others tail) in
    let kept : IsKept old l k.0 = subst (λ (s : List ℕ). IsKept old s k.0) (sym same) k.1 in
    let mid : h.0 ≡ k.0 = kept_once old h.0 k.0 l h.1 kept in
    damaged (next_sum sum l) h.0 one other lines others rest tail h.2
    (subst (λ (f : Family ℕ). Leads f others other) (sym mid) k.2) torn whole lacks
    (behind ∙ ap (λ s. entries (next_sum sum s) others ++ tail) (sym same))

pub damage_is_no_log : DamageIsNoLog
damage_is_no_log base bytes number at lines family h k =
    damaged base.sum base.family h.family family h.lines lines h.rest k.tail h.leads k.leads k.torn
    h.whole
    h.lacks (sym h.split ∙ k.split)

pub crashes_lose_nothing : CrashesLoseNothing
crashes_lose_nothing base lines family line new part [] h k e = inr (record {
  tail = [];
  split = ap (λ s. entries base.sum lines ++ s) (sym (append-nil part) ∙ sym e)
      ∙ sym (entries_more base.sum lines line)
      ∙ sym (append-nil (entries base.sum (lines ++ line ∷ [])));
  torn = (tt, omega arith);
  leads = leads_more base.family lines family new line h k;
})
crashes_lose_nothing base lines family line new part (b ∷ lost) h k e = inl (record {
  tail = part;
  split = refl;
  torn = entry_torn (sum_behind base.sum lines) line part b lost k.whole k.says.0 e;
  leads = h;
})

-- what the bytes of logs mean
pub ruleset laws = (
  kept_lines_are_served,
  logs_are_one,
  fronts_are_logs,
  damage_is_no_log,
  crashes_lose_nothing,
)

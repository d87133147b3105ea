-- What a log behind a checkpoint means.
use Rattle.std.proofs.Common.{◌≡◌, ℕ, List, [], ◌∷◌, ◌++◌, refl, sym, ◌∙◌, ap, subst, arith, drop, nat_eq}
use Rattle.std.proofs.lemmas.Bool.{eqb-true, eq-eqb}
use Rattle.rart_family.specs.Families.{Family}
use Rattle.rart_maps.specs.ChangeLaws.{Decides}
use Rattle.rart_saved.specs.Laws.{eight_bytes-apart}
use Rattle.rart_saved.specs.Values.{eight_bytes}
use Rattle.rart_saved.proofs.FamilyFormLemmas.{families-of_one}
use Rattle.vtree_lines.specs.Laws.{HasNoFeed}
use Rattle.example_store.specs.Kept.{Leads}
use Rattle.example_store.specs.Laws.{EmptyLogsAreOfNoLine, CheckpointsLoseNothing, CheckpointsAreOfOne, LogsAreOfOneCheckpoint}
use Rattle.example_store.specs.Log.{next_sum, entry, entries}
use Rattle.example_store.specs.Replays.{IsLog}
use Rattle.example_store.specs.declared.checkpoint.Base.{Base}
use Rattle.example_store.proofs.LogLemmas.{entry_before, lines_one, parts, sum_length, torn_no_entry}
use Rattle.example_store.proofs.KeptLemmas.{entry_first, logs_are_one}

-- lines lead on behind others
leads_on : (old mid new : Family ℕ) (lines more : List (List ℕ)) → Leads old lines mid →
    Leads mid more new → Leads old (lines ++ more) new
leads_on old mid new [] more h k = subst (λ (f : Family ℕ). Leads f more new) h k
leads_on old mid new (l ∷ lines) more h k = (h.0, h.1, leads_on h.0 mid new lines more h.2 k)

no_line : (base : Base) → IsLog base [] [] base.family
no_line base = record { tail = []; split = refl; torn = (tt, omega arith); leads = refl }

pub empty_logs_are_of_no_line : EmptyLogsAreOfNoLine
empty_logs_are_of_no_line base lines family = (
  no_line base,
  (λ h. logs_are_one base [] lines [] family base.family h (no_line base)),
)

pub checkpoints_lose_nothing : CheckpointsLoseNothing
checkpoints_lose_nothing old lines more family new bytes h k =
    leads_on old family new lines more h k.leads

-- two entries that bytes begin with are one: of one digest, and of one line
one_entry : (sum other line next rest more : List ℕ) → HasNoFeed line → HasNoFeed next →
    entry sum line ++ rest ≡ entry other next ++ more →
    (next_sum sum line ≡ next_sum other next) × (line ≡ next)
one_entry sum other line next rest more h k e =
    let (digest, behind) = parts (next_sum sum line) (next_sum other next)
    (32 ∷ (line ++ 10 ∷ rest)) (32 ∷ (next ++ 10 ∷ more))
    (sum_length sum line ∙ sym (sum_length other next))
    (sym (entry_before sum line rest) ∙ e ∙ entry_before other next more) in
    (digest, (lines_one line next rest more h k (ap (λ s. drop 1 s) behind)).0)

pub logs_are_of_one_checkpoint : LogsAreOfOneCheckpoint
logs_are_of_one_checkpoint base other bytes line lines [] family found h k =
    absurd (torn_no_entry base.sum line (entries (next_sum base.sum line) lines ++ h.tail) k.tail
    k.torn.0 (sym (entry_first base.sum line lines h.tail) ∙ sym h.split ∙ k.split))
logs_are_of_one_checkpoint base other bytes line lines (next ∷ others) family found h k =
    let whole = sym (entry_first base.sum line lines h.tail) ∙ sym h.split ∙ k.split
    ∙ entry_first other.sum next others k.tail in
    let rest = entries (next_sum base.sum line) lines ++ h.tail in
    let more = entries (next_sum other.sum next) others ++ k.tail in
    let (digest, same) = one_entry base.sum other.sum line next rest more h.leads.1.whole
    k.leads.1.whole whole in
    digest ∙ ap (next_sum other.sum) (sym same)

-- values are the same where they are equal
numbers_decide : Decides nat_eq
numbers_decide x y = (eqb-true x y, eq-eqb x y)

pub checkpoints_are_of_one : CheckpointsAreOfOne
checkpoints_are_of_one one other same =
    families-of_one eight_bytes nat_eq 1 eight_bytes-apart numbers_decide one other same

-- what logs and checkpoints mean together
pub ruleset laws = (
  empty_logs_are_of_no_line,
  checkpoints_lose_nothing,
  checkpoints_are_of_one,
  logs_are_of_one_checkpoint,
)

-- What a log that is played has led to.
use Rattle.std.specs.Prelude.{◌≡◌, ◌≢◌, ◌⊎◌, Option, Some, ◌+◌, ℕ, List, ◌++◌, length, ⊤}
use Rattle.rart_family.specs.Families.{Family}
use Rattle.rart_family.specs.Replies.{Reply, NoMemory}
use Rattle.example_store.specs.Log.{next_sum, entry, entry_text, entries, sum_behind, IsTorn}
use Rattle.example_store.specs.Kept.{IsKept, Leads}
use Rattle.example_store.specs.declared.checkpoint.Base.{Base}
use Rattle.example_store.specs.declared.replay.Replayed.{Replayed}
use Rattle.example_store.specs.declared.replay.ReplayError.{ReplayError}
use Rattle.example_store.specs.declared.replay.ReplayError.TheVariants.{Damaged, Memory}

-- Behind a base the bytes are the log of these lines, a torn tail behind it; and from there the
-- lines lead to the family.
pub record IsLog (base : Base) (bytes : List ℕ) (lines : List (List ℕ))
    (family : Family ℕ) : Type 0 where
  pub tail : List ℕ
  pub split : bytes ≡ entries base.sum lines ++ tail
  pub torn : IsTorn tail
  pub leads : Leads base.family lines family

-- The bytes are played up to a rest: before it stands the log of lines, which lead to the family.
pub record IsPlayed (base : Base) (bytes rest : List ℕ) (replayed : Replayed) : Type 0 where
  pub lines : List (List ℕ)
  pub split : bytes ≡ entries base.sum lines ++ rest
  pub leads : Leads base.family lines replayed.family
  pub sum : replayed.sum ≡ sum_behind base.sum lines
  pub count : replayed.count ≡ length lines
  pub at : replayed.length ≡ length (entries base.sum lines)

-- All bytes are played, but for a torn tail.
abbrev pub IsReplayed : Base → List ℕ → Replayed → Type 0
IsReplayed base bytes replayed =
    (tail : List ℕ) × IsPlayed base bytes tail replayed × IsTorn tail

-- One more entry is played, of which this is the text.
pub record PlaysOn (text : List ℕ) (old new : Replayed) : Type 0 where
  pub line : List ℕ
  pub is : text ≡ entry_text (next_sum old.sum line) line
  pub kept : IsKept old.family line new.family
  pub sum : new.sum ≡ next_sum old.sum line
  pub count : new.count ≡ old.count + 1
  pub at : new.length ≡ old.length + (length text + 1)

-- no line has this entry's text and may be kept behind those before it
abbrev pub LacksEntry : List ℕ → Replayed → Type 0
LacksEntry text old =
    (line : List ℕ) (new : Family ℕ)
    → text ≡ entry_text (next_sum old.sum line) line → IsKept old.family line new → ⊥

-- A text is no entry behind those before it, and so it is told; or memory was refused.
abbrev pub IsNoEntry : List ℕ → Replayed → ReplayError → Type 0
IsNoEntry text old Memory = ⊤
IsNoEntry text old (Damaged line at) =
    (line ≡ old.count + 1) × (at ≡ old.length) × LacksEntry text old

-- what is told of a line whose answer is not to be kept: that memory was refused, or the place
abbrev pub IsToldBy : Option (Reply ℕ) → Replayed → ReplayError → Type 0
IsToldBy reply old error =
    ((reply ≡ Some NoMemory) × (error ≡ Memory))
    ⊎ ((reply ≢ Some NoMemory) × (error ≡ Damaged (old.count + 1) old.length))

-- What stands behind lines that are played is neither a torn tail nor begins with an entry that may
-- be kept.
pub record IsDamagedAt (base : Base) (bytes : List ℕ) (number at : ℕ) : Type 0 where
  pub lines : List (List ℕ)
  pub rest : List ℕ
  pub family : Family ℕ
  pub split : bytes ≡ entries base.sum lines ++ rest
  pub leads : Leads base.family lines family
  pub counted : number ≡ length lines + 1
  pub placed : at ≡ length (entries base.sum lines)
  pub whole : ¬ IsTorn rest
  pub lacks : (line more : List ℕ) (new : Family ℕ)
      → rest ≡ entry (sum_behind base.sum lines) line ++ more → IsKept family line new → ⊥

-- Why bytes are not played.
abbrev pub IsRefusedBy : Base → List ℕ → ReplayError → Type 0
IsRefusedBy base bytes Memory = ⊤
IsRefusedBy base bytes (Damaged line at) = IsDamagedAt base bytes line at

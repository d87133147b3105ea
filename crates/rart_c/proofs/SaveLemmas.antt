-- Trees as bytes: what is told of them, and which tree bytes are.
use Rattle.std.proofs.Common.{◌≡◌, ◌≢◌, ◌≤◌, ◌⊎◌, ℕ, List, ◌++◌, Some, Ok, Err, drop, inl, inr, length, take, refl, sym, subst, ◌∙◌, ⊎_elim, Result, arith}
use Rattle.std.proofs.Math.Seq.{take-append_seam, drop-append_seam}
use Rattle.std.specs.Prelude.{IfOk}
use Rattle.std.specs.declared.alloc.AllocError.{AllocError}
use Rattle.rart_c.specs.AnswerLaws.{LengthsTell, LoadsGiveBack, LoadsTell, SavesTell, UnreadTells}
use Rattle.rart_c.specs.Answers.{TellsFound, TellsUnread, TellsWritten}
use Rattle.rart_c.specs.Saves.{ExplainsLoad, GivesBack, Saves, TellsLength, TellsLoad, TellsNoByte}
use Rattle.rart_c.specs.declared.answer.TheConstants.{DONE, MALFORMED, NO_MEMORY, TOO_LONG, WRONG_SUM}
use Rattle.rart_maps.specs.Versions.{Version}
use Rattle.rart_saved.specs.declared.error.LoadError.{LoadError}
use Rattle.rart_saved.specs.declared.error.LoadError.TheVariants.{Io, Memory, Truncated, Malformed, TooLong, Checksum, Unsupported}
use Rattle.rart_saved.specs.Fills.{Fills}
use Rattle.rart_saved.specs.Forms.{saved}
use Rattle.rart_saved.specs.Loads.{HasKeysWithin}
use Rattle.rart_saved.specs.Refusals.{PointsInto}
use Rattle.rart_saved.proofs.SavedLemmas.{forms-of_one}

pub saves_tell : SavesTell
saves_tell bytes answer before after (inl whole) = (
  λ done.
      let front : bytes ≡ take after.1 after.0 =
      sym ((λ i. take (whole.3 i) (whole.2 i))
      ∙ take-append_seam bytes (drop (length bytes) before.0)) in (
        front,
        (λ i. drop (whole.3 i) (whole.2 i))
            ∙ drop-append_seam bytes (drop (length bytes) before.0)
            ∙ (λ i. drop (sym whole.3 i) before.0),
      ),
  λ small. absurd (omega (arith, whole.0, small)),
  λ memory. absurd (omega (arith, whole.0, memory)),
  inl whole.0,
)
saves_tell bytes answer before after (inr (inl none)) = (
  λ done. absurd (omega (arith, none.0, done)),
  λ small. (omega (arith, none.1, none.2), none.2),
  λ memory. absurd (omega (arith, none.0, memory)),
  inr (inl none.0),
)
saves_tell bytes answer before after (inr (inr none)) = (
  λ done. absurd (omega (arith, none.0, done)),
  λ small. absurd (omega (arith, none.0, small)),
  λ memory. none.1,
  inr (inr none.0),
)

pub unread_tells : UnreadTells
unread_tells Io answer before after told = (
  λ done. omega (arith, told.0, done),
  λ memory. inr refl,
  inl told.1,
)
unread_tells Memory answer before after told = (
  λ done. omega (arith, told.0, done),
  λ memory. inl refl,
  inl told.1,
)
unread_tells Truncated answer before after told = (
  λ done. omega (arith, told.0, done),
  λ memory. absurd (omega (arith, told.0, memory)),
  inl told.1,
)
unread_tells (Malformed at) answer before after told = (
  λ done. omega (arith, told.0, done),
  λ memory. absurd (omega (arith, told.0, memory)),
  inr (inl told.0),
)
unread_tells (TooLong at) answer before after told = (
  λ done. omega (arith, told.0, done),
  λ memory. absurd (omega (arith, told.0, memory)),
  inr (inr told.0),
)
unread_tells Checksum answer before after told = (
  λ done. omega (arith, told.0, done),
  λ memory. absurd (omega (arith, told.0, memory)),
  inl told.1,
)
unread_tells (Unsupported format) answer before after told = (
  λ done. omega (arith, told.0, done),
  λ memory. absurd (omega (arith, told.0, memory)),
  inl told.1,
)

no_byte : (answer : ℕ) → TellsNoByte answer
    → (answer ≢ MALFORMED) × (answer ≢ TOO_LONG) × (answer ≤ WRONG_SUM)
no_byte answer (inl is) =
    (λ form. omega (arith, is, form), λ long. omega (arith, is, long), omega (arith, is))
no_byte answer (inr (inl is)) =
    (λ form. omega (arith, is, form), λ long. omega (arith, is, long), omega (arith, is))
no_byte answer (inr (inr (inl is))) =
    (λ form. omega (arith, is, form), λ long. omega (arith, is, long), omega (arith, is))
no_byte answer (inr (inr (inr (inl is)))) =
    (λ form. omega (arith, is, form), λ long. omega (arith, is, long), omega (arith, is))
no_byte answer (inr (inr (inr (inr is)))) =
    (λ form. omega (arith, is, form), λ long. omega (arith, is, long), omega (arith, is))

pub loads_tell : LoadsTell
loads_tell bytes answer before after (inl byte) = (
  λ _. byte.1,
  λ _. byte.1,
  λ no_form not_long. absurd (⊎_elim no_form not_long byte.0),
  ⊎_elim (λ form. omega (arith, form)) (λ long. omega (arith, long)) byte.0,
)
loads_tell bytes answer before after (inr none) =
    let apart = no_byte answer none.0 in
    (λ form. absurd (apart.0 form), λ long. absurd (apart.1 long), λ _ _. none.1, apart.2)

pub lengths_tell : LengthsTell
lengths_tell bytes answer before after (inl done) =
    (λ _. done.1, λ memory. absurd (omega (arith, done.0, memory)), inl done.0)
lengths_tell bytes answer before after (inr refused) =
    (λ done. absurd (omega (arith, refused.0, done)), λ _. refused.1, inr refused.0)

-- By each of the three answers that a load of a version's bytes has.
told-back : {V : Type 0} (longest answer : ℕ) (v found : Version V)
    → ((answer ≡ DONE) × (found ≡ v))
    ⊎ ((answer ≡ NO_MEMORY) ⊎ ((answer ≡ TOO_LONG) × ¬ (HasKeysWithin (Some longest) v)))
    → (answer ≡ DONE → found ≡ v) × (HasKeysWithin (Some longest) v → answer ≢ TOO_LONG)
    × ((answer ≡ DONE) ⊎ ((answer ≡ NO_MEMORY) ⊎ (answer ≡ TOO_LONG)))
told-back longest answer v found (inl done) =
    (λ _. done.1, λ _ long. absurd (omega (arith, done.0, long)), inl done.0)
told-back longest answer v found (inr (inl memory)) = (
  λ done. absurd (omega (arith, memory, done)),
  λ _ long. absurd (omega (arith, memory, long)),
  inr (inl memory),
)
told-back longest answer v found (inr (inr long)) = (
  λ done. absurd (omega (arith, long.0, done)),
  λ within _. long.1 within,
  inr (inr long.0),
)

pub loads_give_back : (V : Type 0) → LoadsGiveBack V
loads_give_back V written kind longest answer v found is back =
    told-back longest answer v found (back v is refl)

pub load-told : (error : LoadError) (bytes : List ℕ) (answer before after : ℕ)
    → PointsInto bytes error → TellsUnread error answer before after
    → TellsLoad bytes answer before after
load-told Io bytes answer before after points told = inr (inr (inl told.0), told.1)
load-told Memory bytes answer before after points told = inr (inr (inl told.0), told.1)
load-told Truncated bytes answer before after points told =
    inr (inr (inr (inl told.0)), told.1)
load-told (Malformed at) bytes answer before after points told =
    inl (inl told.0, omega (arith, points, told.1))
load-told (TooLong at) bytes answer before after points told =
    inl (inr told.0, omega (arith, points, told.1))
load-told Checksum bytes answer before after points told =
    inr (inr (inr (inr (inr told.0))), told.1)
load-told (Unsupported format) bytes answer before after points told =
    inr (inr (inr (inr (inl told.0))), told.1)

-- What is told of bytes that were counted, and of those that were written.
pub length-told : (found : Result ℕ AllocError) (bytes : List ℕ) (answer before after : ℕ)
    → IfOk found (λ n. n ≡ length bytes) → TellsFound found answer before after
    → TellsLength bytes answer before after
length-told (Ok n) bytes answer before after is told = inl (told.0, told.1 ∙ is)
length-told (Err refused) bytes answer before after is told = inr told

pub saves-told : (found : Result ℕ AllocError) (bytes : List ℕ) (answer : ℕ)
    (room after : List ℕ) (was is : ℕ) → IfOk found (Fills room bytes after)
    → TellsWritten found (length room) answer was is → Saves bytes answer (room, was) (after, is)
saves-told (Ok n) bytes answer room after was is fills told =
    ⊎_elim
    (λ done.
    let fits : length bytes ≤ length room = omega (arith, done.1, fills.ends) in
    inl (done.0, fits, fills.front fits, told.0 ∙ fills.ends))
    (λ small. inr (inl (
      small.0,
      omega (arith, small.1, fills.ends),
      told.0 ∙ fills.ends,
    ))) told.1
saves-told (Err refused) bytes answer room after was is fills told = inr (inr told)

module _ {V : Type 0} (written : V → List ℕ)
    (apart : (x y : V) (r s : List ℕ) → written x ++ r ≡ written y ++ s → x ≡ y)
    (kind longest : ℕ) (bytes : List ℕ) where
  -- The bytes are of the tree that was read, and of no other.
  pub gives-read : (found : Version V) (answer : ℕ) → answer ≡ DONE
      → bytes ≡ saved written kind found → GivesBack written kind longest bytes answer found
  gives-read found answer done read v is stands =
      inl (done, forms-of_one written apart kind found v (sym read ∙ stands))

  -- Where they were refused, and are a tree's, memory was, or a key is too long.
  pub gives-refused : (error : LoadError) (found : Version V) (answer before after : ℕ)
      → TellsUnread error answer before after → ExplainsLoad written kind longest bytes error
      → GivesBack written kind longest bytes answer found
  gives-refused error found answer before after told explained v is stands =
      ⊎_elim
      (λ memory.
      let same : TellsUnread Memory answer before after =
      subst (λ e. TellsUnread e answer before after) memory told in inr (inl same.0))
      (λ long.
      let same : TellsUnread (TooLong long.0.0) answer before after =
      subst (λ e. TellsUnread e answer before after) long.0.1 told in
      inr (inr (same.0, long.1))) (explained v is stands)

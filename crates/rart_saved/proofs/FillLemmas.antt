-- Bytes that are written one behind the other over the first ones of a room.
use Rattle.std.proofs.Common.{◌≡◌, ◌+◌, ◌<◌, ◌≤◌, ℕ, List, ◌++◌, length, take, drop, Result, Ok, Err, sym, ap, ◌∙◌, arith}
use Rattle.std.specs.Prelude.{IfOk}
use Rattle.std.specs.declared.alloc.AllocError.{AllocError}
use Rattle.std.proofs.lemmas.List.{drop-drop, length-append, length-drop}
use Rattle.sha2.specs.Sha256.{sha256}
use Rattle.sha2.proofs.Facts256.{length-sha256}
use Rattle.rart_saved.specs.Fills.{Fills}
use Rattle.std.proofs.Math.Seq.{drop-append_seam, take-append_seam}

module _ (before done part room : List ℕ) (at end : ℕ) (is : Fills before done room at)
    (ends : end ≡ at + length part) where
  -- More is written behind it, where there is room.
  pub fills-more : (after : List ℕ) → end ≤ length room
      → after ≡ take at room ++ part ++ drop (at + length part) room
      → Fills before (done ++ part) after end
  fills-more after within put =
      let room_is = is.front (omega (arith, is.ends, is.long, ends, within)) in
      let front : take at room ≡ done =
      (λ i. take (is.ends i) (room_is i)) ∙ take-append_seam done (drop (length done) before) in
      let behind : drop (at + length part) room ≡ drop (length (done ++ part)) before =
      sym (drop-drop (length part) at room ∙ ap (λ n. drop n room) (omega arith))
      ∙ ap (drop (length part)) ((λ i. drop (is.ends i) (room_is i))
      ∙ drop-append_seam done (drop (length done) before))
      ∙ drop-drop (length part) (length done) before
      ∙ ap (λ n. drop n before) (omega (arith, length-append done part)) in
      let made : after ≡ done ++ part ++ drop (length (done ++ part)) before =
      put ∙ (λ i. front i ++ part ++ behind i) in
      record {
        ends = omega (arith, ends, is.ends, length-append done part);
        long = omega (
          arith,
          ap length made,
          length-append (done ++ part) (drop (length (done ++ part)) before),
          length-drop (length (done ++ part)) before,
          length-append done part,
          is.ends,
          is.long,
          ends,
          within,
        );
        front = λ fits. made;
      }

  -- Where there is none it is told alone how long all is.
  pub fills-past : length room < end → Fills before (done ++ part) room end
  fills-past past = record {
    ends = omega (arith, ends, is.ends, length-append done part);
    long = is.long;
    front = λ fits.
        absurd (omega (arith, fits, past, ends, is.ends, is.long, length-append done part));
  }

-- The sum of what was written, where there is room for it.
pub fills-summed : (before done sum room after : List ℕ) (at end : ℕ) → Fills before done room at
    → length sum ≡ 32 → (at + 32 ≤ length room → sum ≡ sha256 (take at room))
    → Fills before (done ++ sum) after end → Fills before (done ++ sha256 done) after end
fills-summed before done sum room after at end is long sums filled =
    let same : length (done ++ sha256 done) ≡ length (done ++ sum) =
    omega (
      arith,
      length-append done sum,
      length-append done (sha256 done),
      length-sha256 done,
      long,
    ) in
    record {
      ends = filled.ends ∙ sym same;
      long = filled.long;
      front = λ fits.
          let room_is = is.front (omega (arith, fits, length-append done (sha256 done))) in
          let front : take at room ≡ done =
          (λ i. take (is.ends i) (room_is i))
          ∙ take-append_seam done (drop (length done) before) in
          let sum_is : sum ≡ sha256 done =
          sums (omega (
            arith,
            fits,
            is.ends,
            is.long,
            length-append done (sha256 done),
            length-sha256 done,
          )) ∙ ap sha256 front in
          filled.front (omega (arith, fits, same))
          ∙ ap (λ s. done ++ s ++ drop (length (done ++ s)) before) sum_is;
    }

pub summed-if_ok : (r : Result ℕ AllocError) (sum room after : List ℕ) (at : ℕ)
    → length sum ≡ 32 → (at + 32 ≤ length room → sum ≡ sha256 (take at room))
    → IfOk r (λ end. (before done : List ℕ) → Fills before done room at
    → Fills before (done ++ sum) after end)
    → IfOk r (λ end. (before done : List ℕ) → Fills before done room at
    → Fills before (done ++ sha256 done) after end)
summed-if_ok (Ok end) sum room after at long sums told =
    λ before done is.
    fills-summed before done sum room after at end is long sums (told before done is)
summed-if_ok (Err refused) sum room after at long sums told = tt

-- Keys that are filled up with the greatest byte.
use Rattle.std.proofs.Common.{◌≡◌, ◌<◌, ◌≤◌, ℕ, zero, suc, ◌+◌, List, [], ◌∷◌, ◌++◌, length, take, drop, refl, ap, sym, ◌∙◌, subst, arith, add-one, length-append, length-take-le, length-drop}
use Rattle.std.specs.List.{All, insert}
use Rattle.std.proofs.Math.Seq.{drop-append_seam}
use Rattle.std.proofs.lemmas.List.{take-append-drop}
use Rattle.std.proofs.lemmas.List.Edits.{length-insert}
use Rattle.std.proofs.lemmas.List.Sums.{sum_by-append}
use Rattle.std.specs.Prelude.{cond, nat_lt}
use Rattle.rart_below.specs.Layouts.{rank}
use Rattle.rart_below.specs.RankedKeys.{IsFilledUp}
use Rattle.rart_below.proofs.KeyedChildrenLemmas.{rank-skip}

-- none of them is below a byte
rank-greatest : (byte : ℕ) (bytes : List ℕ) → byte ≤ 255 → All (λ b. b ≡ 255) bytes
    → rank byte bytes ≡ 0
rank-greatest byte [] fits all = refl
rank-greatest byte (first ∷ bytes) fits all =
    let here : first ≡ 255 = all 0 0 (omega arith) in
    let later : All (λ b. b ≡ 255) bytes = λ k d lt. all (suc k) d (omega (arith, lt)) in
    rank-skip byte first bytes (omega (arith, fits, here)) ∙ rank-greatest byte bytes fits later

-- so the rank over the whole width is that over the keys
pub rank-filled : (width len byte : ℕ) (bytes : List ℕ) → IsFilledUp width len bytes → byte ≤ 255
    → rank byte bytes ≡ rank byte (take len bytes)
rank-filled width len byte bytes filled fits =
    let parts = sum_by-append (λ b. cond (nat_lt b byte) 1 0) (take len bytes) (drop len bytes) in
    let rest = rank-greatest byte (drop len bytes) fits filled.rest in
    ap (rank byte) (sym (take-append-drop len bytes)) ∙ omega (arith, parts, rest)

all-later : {X : Type 0} (P : X → Type 0) (n : ℕ) (xs : List X) → All P (drop n xs)
    → All P (drop (suc n) xs)
all-later P zero [] all = λ k d lt. absurd (omega (arith, lt))
all-later P zero (x ∷ xs) all = λ k d lt. all (suc k) d (omega (arith, lt))
all-later P (suc n) [] all = λ k d lt. absurd (omega (arith, lt))
all-later P (suc n) (x ∷ xs) all = all-later P n xs all

-- one more key takes the place of one of them
pub filled-inserted : (width len place byte : ℕ) (bytes bytes' : List ℕ)
    → IsFilledUp width len bytes → place ≤ len → len < width
    → bytes' ≡ insert (take len bytes) place byte ++ drop (len + 1) bytes
    → IsFilledUp width (len + 1) bytes'
filled-inserted width len place byte bytes bytes' filled within room is =
    let few = length-take-le len bytes (omega (arith, filled.wide, room)) in
    let front = length-insert (take len bytes) place byte (omega (arith, few, within)) in
    let long : length (insert (take len bytes) place byte) ≡ len + 1 = omega (arith, few, front) in
    let back = drop-append_seam (insert (take len bytes) place byte) (drop (len + 1) bytes) in
    let later : drop (len + 1) bytes' ≡ drop (len + 1) bytes =
    ap (drop (len + 1)) is
    ∙ subst (λ n. drop n (insert (take len bytes) place byte ++ drop (len + 1) bytes)
    ≡ drop (len + 1) bytes) long back in
    record {
      fits = omega (arith, room);
      wide = ap length is
          ∙ omega (
            arith,
            length-append (insert (take len bytes) place byte) (drop (len + 1) bytes),
            long,
            length-drop (len + 1) bytes,
            filled.wide,
            room,
          );
      rest = subst (All (λ b. b ≡ 255)) (sym later)
          (subst (λ n. All (λ b. b ≡ 255) (drop n bytes)) (sym (add-one len))
          (all-later (λ b. b ≡ 255) len bytes filled.rest));
    }

-- The head of each file.
use Rattle.std.proofs.Common.{◌≡◌, ◌≢◌, ℕ, suc, List, [], ◌∷◌, ◌++◌, length, take, drop, refl, sym, ap, ◌∙◌, arith}
use Rattle.std.proofs.lemmas.List.{take_all}
use Rattle.rart_below.specs.Bytes.{common_length}
use Rattle.rart_saved.specs.Parts.{HasPart}
use Rattle.rart_saved.proofs.SharedKeyLemmas.{common-same, common-within_key, key-whole}

common-start : (w rest : List ℕ) → common_length w (w ++ rest) ≡ length w
common-start [] rest = refl
common-start (b ∷ w) rest = common-same b w (w ++ rest) ∙ ap suc (common-start w rest)

pub head-read : (head bytes : List ℕ) (shared : ℕ) → length head ≡ 9
    → shared ≡ common_length head bytes → shared ≡ 9 → HasPart bytes 0 head 9
head-read head bytes shared long common all =
    let whole : common_length head bytes ≡ 9 = sym common ∙ all in
    record {
      within = omega (arith, whole, common-within_key head bytes);
      stands = key-whole head bytes
          ∙ (λ i. take (whole i) head ++ drop (whole i) bytes)
          ∙ ap (λ h. h ++ drop 9 bytes) (take_all 9 head (omega (arith, long)));
    }

pub head-lacks : (head bytes rest : List ℕ) (shared : ℕ) → length head ≡ 9
    → shared ≡ common_length head bytes → shared ≢ 9 → bytes ≢ head ++ rest
head-lacks head bytes rest shared long common other stands =
    other (common ∙ ap (common_length head) stands ∙ common-start head rest ∙ long)

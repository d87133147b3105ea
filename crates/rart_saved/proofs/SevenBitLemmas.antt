-- Numbers in groups of seven bits.
use Rattle.std.proofs.Common.{◌≡◌, ◌≢◌, ◌+◌, ◌*◌, ◌/◌, ◌%◌, ◌<◌, ◌≤◌, ◌^◌, ℕ, zero, suc, List, [], ◌∷◌, ◌++◌, length, drop, sym, ap, ◌∙◌, ⊎_elim, ◌⊎◌, ◌-◌, append_assoc, arith}
use Rattle.std.proofs.Math.Nat.{div-lt_iff_lt-mul, pow-suc}
use Rattle.std.proofs.lemmas.Bool.{cases_lt}
use Rattle.std.proofs.lemmas.List.{length-append}
use Rattle.rart_saved.specs.Laws.{same_first, same_rest, groups-small, groups-great, groups-last, groups-apart}
use Rattle.rart_saved.specs.Numbers.{groups, leb}
use Rattle.rart_saved.specs.Parts.{HasPart}

-- A seventh of the bits fewer fit a group fewer.
high-below : (more n : ℕ) → n < 128 ^ suc (suc more) → n / 128 < 128 ^ suc more
high-below more n below =
    (div-lt_iff_lt-mul {k = 128} {x = n} {y = 128 ^ suc more} (omega arith)).1
    (omega (arith, below, pow-suc 128 (suc more)))

-- Where a number has few groups, one more allowed changes nothing.
groups-more : (more n : ℕ) → n < 128 ^ suc more → groups (suc more) n ≡ groups more n
groups-more zero n below =
    let small : n < 128 = omega (arith, below, pow-suc 128 0) in
    groups-small (suc zero) n small ∙ sym (groups-small zero n small)
groups-more (suc more) n below =
    ⊎_elim
    (λ small. groups-small (suc (suc more)) n small ∙ sym (groups-small (suc more) n small))
    (λ great. groups-great (suc more) n great
    ∙ ap (λ g. (n % 128 + 128) ∷ g) (groups-more more (n / 128) (high-below more n below))
    ∙ sym (groups-great more n great))
    (cases_lt n 128)

pub leb-small : (n : ℕ) → n < 128 → leb n ≡ n ∷ []
unfolding leb
leb-small n small = groups-small 9 n small

pub leb-great : (n : ℕ) → n < 2 ^ 64 → 128 ≤ n → leb n ≡ (n % 128 + 128) ∷ leb (n / 128)
unfolding leb
leb-great n below great =
    groups-great 8 n great
    ∙ ap (λ g. (n % 128 + 128) ∷ g) (sym (groups-more 8 (n / 128) (omega (arith, below))))

-- Written down to its last group, a number is written.
pub written-on : (before items items' : List ℕ) (n left : ℕ) → left < 2 ^ 64 → 128 ≤ left
    → items ++ leb left ≡ before ++ leb n → items' ≡ items ++ (left % 128 + 128) ∷ []
    → items' ++ leb (left / 128) ≡ before ++ leb n
written-on before items items' n left below great so_far pushed =
    ap (λ xs. xs ++ leb (left / 128)) pushed
    ∙ append_assoc items ((left % 128 + 128) ∷ []) (leb (left / 128))
    ∙ ap (λ g. items ++ g) (sym (leb-great left below great)) ∙ so_far

pub written-last : (before items items' : List ℕ) (n left : ℕ) → left < 128
    → items ++ leb left ≡ before ++ leb n → items' ≡ items ++ left ∷ []
    → items' ≡ before ++ leb n
written-last before items items' n left small so_far pushed =
    pushed ∙ ap (λ g. items ++ g) (sym (leb-small left small)) ∙ so_far

-- ---- read at a place

module _ (bytes : List ℕ) (at low : ℕ) (first : drop at bytes ≡ low ∷ drop (at + 1) bytes) where
  pub read-small : (more : ℕ) → at < length bytes → low < 128
      → HasPart bytes at (groups more low) (at + 1)
  read-small more inside small = record {
    within = omega (arith, inside);
    stands = first ∙ ap (λ g. g ++ drop (at + 1) bytes) (sym (groups-small more low small));
  }

  pub read-more : (more k high end : ℕ) → more ≡ suc k → 128 ≤ low → low < 256 → 0 < high
      → HasPart bytes (at + 1) (groups k high) end
      → HasPart bytes at (groups more (high * 128 + (low - 128))) end
  read-more more k high end is great byte some part =
      let n = high * 128 + (low - 128) in
      let low_is : n % 128 + 128 ≡ low = omega (arith, great, byte) in
      let high_is : n / 128 ≡ high = omega (arith, great, byte) in
      let whole : groups more n ≡ low ∷ groups k high =
      ap (λ m. groups m n) is ∙ groups-great k n (omega (arith, some))
      ∙ (λ i. low_is i ∷ groups k (high_is i)) in
      record {
        within = part.within;
        stands = first ∙ ap (λ g. low ∷ g) part.stands
            ∙ ap (λ g. g ++ drop end bytes) (sym whole);
      }

  -- What begins with a great byte is of a great number.
  pub opened : (more k n : ℕ) (rest : List ℕ) → more ≡ suc k → 128 ≤ low
      → drop at bytes ≡ groups more n ++ rest
      → (128 ≤ n) × (drop (at + 1) bytes ≡ groups k (n / 128) ++ rest)
  opened more k n rest is great stands =
      let e : low ∷ drop (at + 1) bytes ≡ groups (suc k) n ++ rest =
      sym first ∙ stands ∙ ap (λ m. groups m n ++ rest) is in
      ⊎_elim
      (λ small. absurd (omega (
        arith,
        great,
        small,
        same_first (e ∙ ap (λ g. g ++ rest) (groups-small (suc k) n small)),
      )))
      (λ big. (big, same_rest (e ∙ ap (λ g. g ++ rest) (groups-great k n big))))
      (cases_lt n 128)

  pub lacks-last : (n : ℕ) (rest : List ℕ) → 128 ≤ low → n < 128 ^ suc 0
      → drop at bytes ≡ groups 0 n ++ rest → ⊥
  lacks-last n rest great below stands =
      let e = sym first ∙ stands ∙ ap (λ g. g ++ rest) (groups-last n) in
      omega (arith, great, below, pow-suc 128 0, same_first e)

  pub lacks-more : (more k n : ℕ) (rest : List ℕ) → more ≡ suc k → 128 ≤ low
      → ((n : ℕ) (rest : List ℕ) → n < 2 ^ 64 → n < 128 ^ suc k
      → drop (at + 1) bytes ≢ groups k n ++ rest)
      → n < 2 ^ 64 → n < 128 ^ suc more → drop at bytes ≡ groups more n ++ rest → ⊥
  lacks-more more k n rest is great lacks below few stands =
      let on = opened more k n rest is great stands in
      lacks (n / 128) rest (omega (arith, below))
      (high-below k n (omega (arith, few, ap (λ m. 128 ^ suc m) is))) on.1

  pub lacks-high : (more k n high end : ℕ) (rest : List ℕ) → more ≡ suc k → 128 ≤ low
      → HasPart bytes (at + 1) (groups k high) end → (high ≡ 0) ⊎ (2 ^ 57 ≤ high)
      → n < 2 ^ 64 → drop at bytes ≡ groups more n ++ rest → ⊥
  lacks-high more k n high end rest is great part bad below stands =
      let on = opened more k n rest is great stands in
      let same = (groups-apart k high (n / 128) (drop end bytes) rest
      (sym part.stands ∙ on.1)).0 in
      ⊎_elim (λ none. omega (arith, on.0, same, none)) (λ much. omega (
        arith,
        below,
        same,
        much,
      )) bad

pub groups-some : (more n : ℕ) → 0 < length (groups more n)
groups-some zero n = omega (arith, ap length (groups-last n))
groups-some (suc more) n =
    ⊎_elim
    (λ small. omega (arith, ap length (groups-small (suc more) n small)))
    (λ great. omega (arith, ap length (groups-great more n great)))
    (cases_lt n 128)

pub lacks-none : (more n : ℕ) (rest : List ℕ) → [] ≡ groups more n ++ rest → ⊥
lacks-none more n rest same =
    omega (arith, ap length same, length-append (groups more n) rest, groups-some more n)

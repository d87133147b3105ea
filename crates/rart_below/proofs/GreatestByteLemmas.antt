-- The greatest number below an end at which a test holds, found by words of 64 bits.
use Rattle.std.proofs.Common.{◌≡◌, ◌<◌, ◌≤◌, inl, inr, ℕ, suc, ◌+◌, ◌-◌, ◌*◌, ◌/◌, ◌%◌, ◌^◌, w64, Bool, false, ap, sym, ◌∙◌, subst, arith, Some}
use Rattle.std.specs.Prelude.{◌==◌, min, bit_and}
use Rattle.std.specs.Int.{bit_at, leading_zeros}
use Rattle.std.proofs.Math.Nat.{div-eq_of_lt-le, two-pow-succ}
use Rattle.std.proofs.lemmas.Bool.{cases_lt}
use Rattle.std.proofs.lemmas.Nat.{leading_top}
use Rattle.std.proofs.lemmas.Nat.Bits.{bit_at-lt, bit_at-zero, bit_at_above, bit_at_and, bit_at_ones, bit_at_ones_above, ones_shr}
use Rattle.rart_below.specs.ByteSets.{IsGreatestBelow}

-- a search downwards that has come so far, and found nothing: the numbers from 256 on were left out
abbrev pub HasNoneDownTo : ℕ → ℕ → (ℕ → Bool) → Type 0
HasNoneDownTo end unseen holds =
    (unseen ≤ end) × (unseen ≤ 256) × ((byte : ℕ) → unseen ≤ byte → byte < end → holds byte ≡ false)

-- the highest bit of a number
bit_at-top : (n top : ℕ) → 2 ^ top ≤ n → n < 2 ^ suc top → bit_at n top ≡ 1
bit_at-top n top le lt =
    let twice = two-pow-succ top in
    let whole : n / 2 ^ top ≡ 1 = div-eq_of_lt-le (2 ^ top) (omega (arith, le)) (omega (arith, lt, twice)) in
    ap (λ (m : ℕ). m % 2) whole

min_one : (n : ℕ) → n < 2 → min n 1 ≡ n
min_one n lt = grind (arith, lt)

min_zero : (n : ℕ) → min n 0 ≡ 0
min_zero n = grind arith

-- A word has a bit for each of 64 numbers, of which `last` is one, and was masked down to the bits
-- up to that one's.
module _ (holds : ℕ → Bool) (last whole word : ℕ)
    (each : (place : ℕ) → place < 64
    → (bit_at whole place == 1) ≡ holds (last / 64 * 64 + place))
    (masked : word ≡ bit_and whole (2 ^ (last % 64 + 1) - 1)) where
  kept : (place : ℕ) → place ≤ last % 64 → bit_at word place ≡ bit_at whole place
  kept place le =
      ap (λ (n : ℕ). bit_at n place) masked
      ∙ bit_at_and whole (2 ^ (last % 64 + 1) - 1) place
      ∙ ap (min (bit_at whole place)) (bit_at_ones (last % 64 + 1) place (omega (arith, le)))
      ∙ min_one (bit_at whole place) (bit_at-lt whole place)

  masked_out : (place : ℕ) → last % 64 < place → bit_at word place ≡ 0
  masked_out place lt =
      ap (λ (n : ℕ). bit_at n place) masked
      ∙ bit_at_and whole (2 ^ (last % 64 + 1) - 1) place
      ∙ ap (min (bit_at whole place)) (bit_at_ones_above (last % 64 + 1) place (omega (arith, lt)))
      ∙ min_zero (bit_at whole place)

  bit-here : (byte : ℕ) → last / 64 * 64 ≤ byte → byte ≤ last
      → holds byte ≡ (bit_at word (byte % 64) == 1)
  bit-here byte le lt =
      let at : last / 64 * 64 + byte % 64 ≡ byte = omega (arith, le, lt) in
      let within : byte % 64 ≤ last % 64 = omega (arith, le, lt) in
      ap holds (sym at)
      ∙ (sym (each (byte % 64) (omega arith))
      ∙ ap (λ (n : ℕ). n == 1) (sym (kept (byte % 64) within)))

  -- where no bit is left the test holds nowhere in the word up to there
  pub none-here : word ≡ 0 → (byte : ℕ) → last / 64 * 64 ≤ byte → byte ≤ last
      → holds byte ≡ false
  none-here none byte le lt =
      bit-here byte le lt ∙ (ap (λ (n : ℕ). bit_at n (byte % 64) == 1) none
      ∙ ap (λ (n : ℕ). n == 1) (bit_at-zero (byte % 64)))

  -- else the highest bit is that of the greatest number
  pub greatest-here : 0 < word → word < 2 ^ 64
      → (leading_zeros w64 word ≤ 63)
      × IsGreatestBelow (last + 1) holds (Some (last / 64 * 64 + 63 - leading_zeros w64 word))
  greatest-here some small =
      let found = leading_top 64 word some small in
      let top = found.0 in
      let zeros : leading_zeros w64 word + suc top ≡ 64 = found.1 in
      let above = found.3 in
      let set : bit_at word top ≡ 1 = bit_at-top word top found.2 above in
      let low : top ≤ last % 64 = elim (cases_lt (last % 64) top) [
        | inl lt ↦ absurd (omega (arith, set, masked_out top lt))
        | inr le ↦ le
      ] in
      let is : last / 64 * 64 + 63 - leading_zeros w64 word ≡ last / 64 * 64 + top = omega (arith, zeros) in
      let at : (last / 64 * 64 + top) % 64 ≡ top = omega (arith, zeros) in (
        omega (arith, zeros),
        subst (λ (n : ℕ). IsGreatestBelow (last + 1) holds (Some n)) (sym is) (
          omega (arith, low),
          bit-here (last / 64 * 64 + top) (omega arith) (omega (arith, low))
              ∙ (ap (λ (n : ℕ). bit_at word n == 1) at ∙ ap (λ (n : ℕ). n == 1) set),
          λ byte lt le.
              bit-here byte (omega (arith, lt)) (omega (arith, le))
              ∙ ap (λ (n : ℕ). n == 1) (bit_at_above word (suc top) (byte % 64) above
              (omega (arith, lt, le, low))),
        ),
      )

-- the mask that leaves the bits up to a place
pub mask-to : (last whole : ℕ)
    → bit_and whole ((2 ^ 64 - 1) / 2 ^ (63 - last % 64)) ≡ bit_and whole (2 ^ (last % 64 + 1) - 1)
mask-to last whole =
    let places : 64 - (63 - last % 64) ≡ last % 64 + 1 = omega arith in
    ap (bit_and whole) (ones_shr 64 (63 - last % 64) (omega arith)
    ∙ ap (λ (n : ℕ). 2 ^ n - 1) places)

-- the search goes on below a word in which there is none
pub none_down_to : (end unseen to : ℕ) (holds : ℕ → Bool) → HasNoneDownTo end unseen holds
    → to ≤ unseen → ((byte : ℕ) → to ≤ byte → byte < unseen → holds byte ≡ false)
    → HasNoneDownTo end to holds
none_down_to end unseen to holds before le none = (
  omega (arith, before.0, le),
  omega (arith, before.1, le),
  λ byte least lt. elim (cases_lt byte unseen) [
    | inl early ↦ none byte least early
    | inr late ↦ before.2 byte late lt
  ],
)

pub greatest_down_to : (end unseen greatest : ℕ) (holds : ℕ → Bool)
    → HasNoneDownTo end unseen holds → IsGreatestBelow unseen holds (Some greatest)
    → IsGreatestBelow end holds (Some greatest)
greatest_down_to end unseen greatest holds before found = (
  omega (arith, before.0, found.0),
  found.1,
  λ byte lt less. elim (cases_lt byte unseen) [
    | inl early ↦ found.2 byte lt early
    | inr late ↦ before.2 byte late less
  ],
)

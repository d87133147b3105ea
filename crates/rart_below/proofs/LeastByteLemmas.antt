-- The least number from a first one on at which a test holds, found by words of 64 bits.
use Rattle.std.proofs.Common.{◌≡◌, ◌<◌, ◌≤◌, inl, inr, ℕ, ◌+◌, ◌-◌, ◌*◌, ◌/◌, ◌%◌, ◌^◌, w64, Bool, true, false, List, refl, ap, sym, ◌∙◌, arith, get_or, Option, None, Some}
use Rattle.std.specs.Prelude.{◌==◌, is_some}
use Rattle.std.specs.Int.{bit_at, trailing_zeros}
use Rattle.std.proofs.Math.Nat.{div-div-eq-div-mul}
use Rattle.std.proofs.lemmas.Bool.{cases_lt}
use Rattle.std.proofs.lemmas.Nat.{pow-add}
use Rattle.std.proofs.lemmas.Nat.Bits.{bit_at-zero, bit_at_above, bit_at-trailing_zeros}
use Rattle.rart_below.specs.ByteSets.{has_bit, IsLeastFrom}
use Rattle.rart_below.specs.Children.{child_at, children_from, first_of, IsAscending}
use Rattle.rart_below.proofs.AscendingLemmas.{walked_over, walked_to, walked_out}

-- the bits of a number that was shifted
bit_at-shifted : (n shift place : ℕ) → bit_at (n / 2 ^ shift) place ≡ bit_at n (shift + place)
bit_at-shifted n shift place =
    ap (λ (m : ℕ). m % 2) (div-div-eq-div-mul n (2 ^ shift) (2 ^ place)
    ∙ ap (λ (m : ℕ). n / m) (sym (pow-add 2 shift place)))

-- A word has a bit for each of 64 numbers, of which `first` is one, and was shifted by that one's
-- place.
module _ (holds : ℕ → Bool) (first whole word : ℕ) (fits : whole < 2 ^ 64)
    (each : (place : ℕ) → place < 64
    → (bit_at whole place == 1) ≡ holds (first / 64 * 64 + place))
    (shifted : word ≡ whole / 2 ^ (first % 64)) where
  bit-here : (byte : ℕ) → first ≤ byte → byte < first / 64 * 64 + 64
      → holds byte ≡ (bit_at word (byte - first) == 1)
  bit-here byte le lt =
      let place : first % 64 + (byte - first) ≡ byte % 64 = omega (arith, le, lt) in
      let at : first / 64 * 64 + byte % 64 ≡ byte = omega (arith, le, lt) in
      ap holds (sym at)
      ∙ (sym (each (byte % 64) (omega arith))
      ∙ (ap (λ (n : ℕ). bit_at whole n == 1) (sym place)
      ∙ (ap (λ (n : ℕ). n == 1) (sym (bit_at-shifted whole (first % 64) (byte - first)))
      ∙ ap (λ (n : ℕ). bit_at n (byte - first) == 1) (sym shifted))))

  -- where no bit is left the test holds nowhere in the word
  pub none-here : word ≡ 0 → (byte : ℕ) → first ≤ byte → byte < first / 64 * 64 + 64
      → holds byte ≡ false
  none-here none byte le lt =
      bit-here byte le lt ∙ (ap (λ (n : ℕ). bit_at n (byte - first) == 1) none
      ∙ ap (λ (n : ℕ). n == 1) (bit_at-zero (byte - first)))

  -- else the lowest bit is that of the least number
  pub least-here : 0 < word → word < 2 ^ 64
      → (first % 64 + trailing_zeros w64 word < 64)
      × IsLeastFrom first holds (Some (first + trailing_zeros w64 word))
  least-here some small =
      let zeros = trailing_zeros w64 word in
      let lowest = bit_at-trailing_zeros w64 word some small in
      let set : bit_at whole (first % 64 + zeros) ≡ 1 =
      sym (bit_at-shifted whole (first % 64) zeros)
      ∙ (ap (λ (n : ℕ). bit_at n zeros) (sym shifted) ∙ lowest.1) in
      let low : first % 64 + zeros < 64 = elim (cases_lt (first % 64 + zeros) 64) [
        | inl lt ↦ lt
        | inr le ↦ absurd (omega (
          arith,
          set,
          bit_at_above whole 64 (first % 64 + zeros) fits le,
        ))
      ] in
      let near : (first + zeros) - first ≡ zeros = omega arith in (
        low,
        (
          omega arith,
          bit-here (first + zeros) (omega arith) (omega (arith, low))
              ∙ (ap (λ (n : ℕ). bit_at word n == 1) near ∙ ap (λ (n : ℕ). n == 1) lowest.1),
          λ byte le lt.
              bit-here byte le (omega (arith, lt, low))
              ∙ ap (λ (n : ℕ). n == 1) (lowest.2 (byte - first) (omega (arith, le, lt))),
        ),
      )

-- the bits of a word of a set
pub word-bits : (words : List ℕ) (first place : ℕ) → place < 64
    → (bit_at (get_or words (first / 64) 0) place == 1) ≡ has_bit words (first / 64 * 64 + place)
word-bits words first place lt =
    let at : first / 64 ≡ (first / 64 * 64 + place) / 64 = omega (arith, lt) in
    let bit : place ≡ (first / 64 * 64 + place) % 64 = omega (arith, lt) in
    λ i. bit_at (get_or words (at i) 0) (bit i) == 1

-- a search that has come so far, and found nothing
abbrev pub HasNoneTo : ℕ → ℕ → (ℕ → Bool) → Type 0
HasNoneTo from first holds =
    (from ≤ first) × ((byte : ℕ) → from ≤ byte → byte < first → holds byte ≡ false)

pub none_to : (from first to : ℕ) (holds : ℕ → Bool) → HasNoneTo from first holds → first ≤ to
    → ((byte : ℕ) → first ≤ byte → byte < to → holds byte ≡ false) → HasNoneTo from to holds
none_to from first to holds before le none = (
  omega (arith, before.0, le),
  λ byte least lt. elim (cases_lt byte first) [
    | inl early ↦ before.1 byte least early
    | inr late ↦ none byte late lt
  ],
)

pub least_to : (from first least : ℕ) (holds : ℕ → Bool) → HasNoneTo from first holds
    → IsLeastFrom first holds (Some least) → IsLeastFrom from holds (Some least)
least_to from first least holds before found = (
  omega (arith, before.0, found.0),
  found.1,
  λ byte le lt. elim (cases_lt byte first) [
    | inl early ↦ before.1 byte le early
    | inr late ↦ found.2 byte late lt
  ],
)

-- ---- the child of the least byte that has one
pub not-some : {C : Type 0} (slot : Option C) → is_some slot ≡ false → slot ≡ None
not-some None is = refl
not-some (Some child) is = cc

pub some : {C : Type 0} (slot : Option C) → is_some slot ≡ true
    → (child : C) × (slot ≡ Some child)
some None is = cc
some (Some child) is = (child, refl)

module _ {C : Type 0} (from : ℕ) (holds : ℕ → Bool) (children : List (ℕ × C))
    (each : (byte : ℕ) → byte < 256 → holds byte ≡ is_some (child_at byte children))
    (past : (byte : ℕ) → 256 ≤ byte → child_at byte children ≡ None) where
  missing : (byte : ℕ) → holds byte ≡ false → child_at byte children ≡ None
  missing byte none = elim (cases_lt byte 256) [
    | inl low ↦ not-some (child_at byte children) (sym (each byte low) ∙ none)
    | inr high ↦ past byte high
  ]

  pub least_has : (least : ℕ) → least < 256 → IsLeastFrom from holds (Some least)
      → (child : C) × (child_at least children ≡ Some child)
  least_has least low found = some (child_at least children) (sym (each least low) ∙ found.1)

  pub least_first : (least : ℕ) (child : C) → IsLeastFrom from holds (Some least)
      → IsAscending children → child_at least children ≡ Some child
      → Some (least, child) ≡ first_of (children_from from children)
  least_first least child found order at =
      walked_to from least child children
      (walked_over from least children found.0
      (λ byte le lt. missing byte (found.2 byte le lt)))
      order at

  pub least_none : IsLeastFrom from holds None → None ≡ first_of (children_from from children)
  least_none none =
      walked_out from from children refl (λ later le. missing later (none later le))

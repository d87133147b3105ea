-- Sets of bytes in four words of 64 bits.
use Rattle.std.proofs.Common.{◌≡◌, ◌<◌, ◌≢◌, inl, inr, ℕ, zero, suc, length, ◌+◌, ◌*◌, ◌/◌, ◌%◌, ◌^◌, w64, Bool, true, false, List, [], ◌∷◌, take, cond, refl, ap, sym, ◌∙◌, arith, get_or, get_or-set_same, get_or-set_other, set, Option, None, Some}
use Rattle.std.specs.Prelude.{◌==◌, ◌&&◌, ◌||◌, not, bit_and, bit_or, is_some, min}
use Rattle.std.specs.Cmp.{unsigned_tied}
use Rattle.std.specs.Int.{bit_at, bit_not, trailing_zeros}
use Rattle.std.proofs.lemmas.Bool.{cases_eq, cases_lt, eq-eqb, ne_eqb, false≢true}
use Rattle.std.proofs.lemmas.List.{get_or_past}
use Rattle.std.proofs.lemmas.Nat.Bits.{bit_at-lt, bit_at-zero, bit_at_and, bit_at_set_same, bit_at_set_other, bit_at_clear_same, bit_at_clear_other, bit_at-trailing_zeros}
use Rattle.rart_below.specs.ByteSets.{has_bit}
use Rattle.rart_below.specs.Children.{child_at}
use Rattle.rart_below.specs.Layouts.{keyed_children, is_filled}

-- A word has no bit where it is 0.
pub no-word : (words : List ℕ) (byte : ℕ) → get_or words (byte / 64) 0 ≡ 0
    → has_bit words byte ≡ false
no-word words byte none =
    ap (λ (word : ℕ). bit_at word (byte % 64) == 1) none
    ∙ ap (λ (bit : ℕ). bit == 1) (bit_at-zero (byte % 64))

-- ---- one byte put in, or taken out
module _ (words : List ℕ) (byte : ℕ) (wide : length words ≡ 4) (fits : byte < 256) where
  word_within : byte / 64 < length words
  word_within = omega (arith, wide, fits)

  pub bit-inserted : (other : ℕ)
      → has_bit (set words (byte / 64)
      (bit_or (get_or words (byte / 64) 0) (1 * 2 ^ (byte % 64) % 2 ^ 64))) other
      ≡ (other == byte || has_bit words other)
  bit-inserted other =
      let word = get_or words (byte / 64) 0 in
      let k = byte % 64 in
      let low : k < 64 = omega arith in
      let put = bit_or word (1 * 2 ^ k % 2 ^ 64) in
      let after = set words (byte / 64) put in
      elim (cases_eq (other / 64) (byte / 64)) [
        | inl here ↦
            let at : get_or after (other / 64) 0 ≡ put =
            ap (λ (n : ℕ). get_or after n 0) here
            ∙ get_or-set_same words (byte / 64) put 0 word_within in
            let read : has_bit after other ≡ (bit_at put (other % 64) == 1) =
            ap (λ (n : ℕ). bit_at n (other % 64) == 1) at in
            elim (cases_eq (other % 64) k) [
              | inl same ↦
                  let equal : other ≡ byte = omega (arith, here, same) in
                  let one : bit_at put (other % 64) ≡ 1 =
                  ap (λ (n : ℕ). bit_at put n) same ∙ bit_at_set_same w64 word k low in
                  read ∙ ap (λ (n : ℕ). n == 1) one
                  ∙ sym (ap (λ (t : Bool). t || has_bit words other)
                  (eq-eqb other byte equal))
              | inr differ ↦
                  let apart : other ≢ byte = λ e. differ (ap (λ (n : ℕ). n % 64) e) in
                  read
                  ∙ ap (λ (n : ℕ). n == 1) (bit_at_set_other w64 word k low (other % 64) differ)
                  ∙ ap (λ (n : ℕ). bit_at (get_or words n 0) (other % 64) == 1) (sym here)
                  ∙ sym (ap (λ (t : Bool). t || has_bit words other)
                  (ne_eqb other byte apart))
            ]
        | inr there ↦
            let apart : other ≢ byte = λ e. there (ap (λ (n : ℕ). n / 64) e) in
            ap (λ (n : ℕ). bit_at n (other % 64) == 1)
            (get_or-set_other words (byte / 64) (other / 64) put 0 there)
            ∙ sym (ap (λ (t : Bool). t || has_bit words other) (ne_eqb other byte apart))
      ]

  pub bit-removed : (other : ℕ)
      → has_bit (set words (byte / 64)
      (bit_and (get_or words (byte / 64) 0) (bit_not w64 (1 * 2 ^ (byte % 64) % 2 ^ 64)))) other
      ≡ (not (other == byte) && has_bit words other)
  bit-removed other =
      let word = get_or words (byte / 64) 0 in
      let k = byte % 64 in
      let low : k < 64 = omega arith in
      let cut = bit_and word (bit_not w64 (1 * 2 ^ k % 2 ^ 64)) in
      let after = set words (byte / 64) cut in
      elim (cases_eq (other / 64) (byte / 64)) [
        | inl here ↦
            let at : get_or after (other / 64) 0 ≡ cut =
            ap (λ (n : ℕ). get_or after n 0) here
            ∙ get_or-set_same words (byte / 64) cut 0 word_within in
            let read : has_bit after other ≡ (bit_at cut (other % 64) == 1) =
            ap (λ (n : ℕ). bit_at n (other % 64) == 1) at in
            elim (cases_eq (other % 64) k) [
              | inl same ↦
                  let equal : other ≡ byte = omega (arith, here, same) in
                  let none : bit_at cut (other % 64) ≡ 0 =
                  ap (λ (n : ℕ). bit_at cut n) same ∙ bit_at_clear_same w64 word k low in
                  read ∙ ap (λ (n : ℕ). n == 1) none
                  ∙ sym (ap (λ (t : Bool). not t && has_bit words other)
                  (eq-eqb other byte equal))
              | inr differ ↦
                  let apart : other ≢ byte = λ e. differ (ap (λ (n : ℕ). n % 64) e) in
                  read
                  ∙ ap (λ (n : ℕ). n == 1)
                  (bit_at_clear_other w64 word k low (other % 64) (omega arith) differ)
                  ∙ ap (λ (n : ℕ). bit_at (get_or words n 0) (other % 64) == 1) (sym here)
                  ∙ sym (ap (λ (t : Bool). not t && has_bit words other)
                  (ne_eqb other byte apart))
            ]
        | inr there ↦
            let apart : other ≢ byte = λ e. there (ap (λ (n : ℕ). n / 64) e) in
            ap (λ (n : ℕ). bit_at n (other % 64) == 1)
            (get_or-set_other words (byte / 64) (other / 64) cut 0 there)
            ∙ sym (ap (λ (t : Bool). not t && has_bit words other) (ne_eqb other byte apart))
      ]

-- ---- the bytes of both
both-bits : (a b : ℕ) → a < 2 → b < 2 → (min a b == 1) ≡ ((a == 1) && (b == 1))
both-bits a b small also = elim (cases_lt a 1) [
  | inl none ↦
      let zero_a : a ≡ 0 = omega (arith, none) in
      let least : min a b ≡ 0 = omega (arith, none) in
      ap (λ (n : ℕ). n == 1) least
      ∙ sym (ap (λ (n : ℕ). (n == 1) && (b == 1)) zero_a)
  | inr some ↦
      let one_a : a ≡ 1 = omega (arith, some, small) in
      let least : min a b ≡ b = omega (arith, some, also) in
      ap (λ (n : ℕ). n == 1) least
      ∙ sym (ap (λ (n : ℕ). (n == 1) && (b == 1)) one_a)
]

pub bit-common : (one other both : List ℕ) (byte : ℕ)
    → ((place : ℕ) → get_or both place 0 ≡ bit_and (get_or one place 0) (get_or other place 0))
    → has_bit both byte ≡ (has_bit one byte && has_bit other byte)
bit-common one other both byte each =
    let a = get_or one (byte / 64) 0 in
    let b = get_or other (byte / 64) 0 in
    let k = byte % 64 in
    ap (λ (word : ℕ). bit_at word k == 1) (each (byte / 64))
    ∙ ap (λ (bit : ℕ). bit == 1) (bit_at_and a b k)
    ∙ both-bits (bit_at a k) (bit_at b k) (bit_at-lt a k) (bit_at-lt b k)

-- ---- the least byte
-- In the first word that is not 0, the lowest bit is that of the least byte.
pub record IsFirst (words : List ℕ) (first : ℕ) : Type 0 where
  pub fits : first < 256
  pub has : has_bit words first ≡ true
  pub least : (byte : ℕ) → byte < first → has_bit words byte ≡ false

pub first-bit : (words : List ℕ) (place : ℕ) → place < 4
    → ((before : ℕ) → before < place → get_or words before 0 ≡ 0)
    → 0 < get_or words place 0 → get_or words place 0 < 2 ^ 64
    → IsFirst words (place * 64 + trailing_zeros w64 (get_or words place 0))
first-bit words place within before some fits =
    let word = get_or words place 0 in
    let zeros = trailing_zeros w64 word in
    let lowest = bit_at-trailing_zeros w64 word some fits in
    let few : zeros < 64 = lowest.0 in
    let at : (place * 64 + zeros) / 64 ≡ place = omega (arith, few) in
    let bit : (place * 64 + zeros) % 64 ≡ zeros = omega (arith, few) in
    record {
      fits = omega (arith, few, within);
      has = (λ i. bit_at (get_or words (at i) 0) (bit i) == 1)
          ∙ ap (λ (n : ℕ). n == 1) lowest.1;
      least = λ byte less. elim (cases_lt (byte / 64) place) [
        | inl early ↦ no-word words byte (before (byte / 64) early)
        | inr late ↦
            let here : byte / 64 ≡ place = omega (arith, late, less, few) in
            let low : byte % 64 < zeros = omega (arith, here, less) in
            ap (λ (n : ℕ). bit_at (get_or words n 0) (byte % 64) == 1) here
            ∙ ap (λ (n : ℕ). n == 1) (lowest.2 (byte % 64) low)
      ];
    }

-- ---- the bytes of a list
abbrev pub holds_key : ℕ → List ℕ → Bool
holds_key byte [] = false
holds_key byte (key ∷ keys) = byte == key || holds_key byte keys

or-swaps : (s t u : Bool) → (s || (t || u)) ≡ (t || (s || u))
or-swaps true true u = refl
or-swaps true false u = refl
or-swaps false true u = refl
or-swaps false false u = refl

pub holds-next : (byte place : ℕ) (keys : List ℕ) → place < length keys
    → holds_key byte (take (suc place) keys)
    ≡ (byte == get_or keys place 0 || holds_key byte (take place keys))
holds-next byte place [] lt = absurd (omega (arith, lt))
holds-next byte zero (key ∷ keys) lt = refl
holds-next byte (suc place) (key ∷ keys) lt =
    ap (λ (t : Bool). byte == key || t) (holds-next byte place keys (omega (arith, lt)))
    ∙ or-swaps (byte == key) (byte == get_or keys place 0) (holds_key byte (take place keys))

-- A byte more, which is in another set too or isn't.
pub both-next : (byte key : ℕ) (held : Bool) (has : ℕ → Bool) → has key ≡ true
    → (byte == key || (held && has byte)) ≡ ((byte == key || held) && has byte)
both-next byte key held has there = elim (cases_eq byte key) [
  | inl same ↦
      let yes = eq-eqb byte key same in
      ap (λ (t : Bool). t || (held && has byte)) yes
      ∙ sym (ap (λ (t : Bool). (t || held) && has byte) yes ∙ ap has same ∙ there)
  | inr differ ↦
      let no = ne_eqb byte key differ in
      ap (λ (t : Bool). t || (held && has byte)) no
      ∙ sym (ap (λ (t : Bool). (t || held) && has byte) no)
]

and-none : (held : Bool) → (held && false) ≡ false
and-none true = refl
and-none false = refl

pub both-skips : (byte key : ℕ) (held : Bool) (has : ℕ → Bool) → has key ≡ false
    → (held && has byte) ≡ ((byte == key || held) && has byte)
both-skips byte key held has none = elim (cases_eq byte key) [
  | inl same ↦
      let missing = ap has same ∙ none in
      ap (λ (t : Bool). held && t) missing ∙ and-none held
      ∙ sym (ap (λ (t : Bool). (t || held) && has byte) (eq-eqb byte key same) ∙ missing)
  | inr differ ↦ sym (ap (λ (t : Bool). (t || held) && has byte) (ne_eqb byte key differ))
]

-- the words of both sets
abbrev pub common_words : List ℕ → List ℕ → List ℕ
common_words one other =
    bit_and (get_or one 0 0) (get_or other 0 0) ∷ bit_and (get_or one 1 0) (get_or other 1 0)
    ∷ bit_and (get_or one 2 0) (get_or other 2 0) ∷ bit_and (get_or one 3 0) (get_or other 3 0)
    ∷ []

pub and-past : (one other : List ℕ) → length one ≡ 4 → length other ≡ 4 → (place : ℕ)
    → get_or (common_words one other) place 0
    ≡ bit_and (get_or one place 0) (get_or other place 0)
and-past one other wide also zero = refl
and-past one other wide also (suc zero) = refl
and-past one other wide also (suc (suc zero)) = refl
and-past one other wide also (suc (suc (suc zero))) = refl
and-past one other wide also (suc (suc (suc (suc place)))) =
    let past = get_or_past one (suc (suc (suc (suc place)))) 0 (omega (arith, wide)) in
    let too = get_or_past other (suc (suc (suc (suc place)))) 0 (omega (arith, also)) in
    let none : bit_and 0 0 ≡ 0 = refl in
    sym none ∙ (λ i. bit_and (sym past i) (sym too i))

-- The least byte, and the words without its bit.
pub first-taken : (words : List ℕ) (place : ℕ) → length words ≡ 4 → place < 4
    → ((before : ℕ) → before < place → get_or words before 0 ≡ 0)
    → 0 < get_or words place 0 → get_or words place 0 < 2 ^ 64
    → (has_bit words (place * 64 + trailing_zeros w64 (get_or words place 0)) ≡ true)
    × ((byte : ℕ) → byte < place * 64 + trailing_zeros w64 (get_or words place 0)
    → has_bit words byte ≡ false)
    × ((byte : ℕ) → has_bit (set words place (bit_and (get_or words place 0)
    (bit_not w64 (1 * 2 ^ trailing_zeros w64 (get_or words place 0) % 2 ^ 64)))) byte
    ≡ (not (byte == place * 64 + trailing_zeros w64 (get_or words place 0))
    && has_bit words byte))
first-taken words place wide within before some fits =
    let word = get_or words place 0 in
    let zeros = trailing_zeros w64 word in
    let first = first-bit words place within before some fits in
    let few : zeros < 64 = (bit_at-trailing_zeros w64 word some fits).0 in
    let at : (place * 64 + zeros) / 64 ≡ place = omega (arith, few) in
    let bit : (place * 64 + zeros) % 64 ≡ zeros = omega (arith, few) in (
      first.has,
      first.least,
      λ byte.
          (λ i. has_bit (set words (sym at i) (bit_and (get_or words (sym at i) 0)
          (bit_not w64 (1 * 2 ^ sym bit i % 2 ^ 64)))) byte)
          ∙ bit-removed words (place * 64 + zeros) wide first.fits byte,
    )

-- ---- the bytes of a mapping
pub some-where : {C : Type 0} (byte key : ℕ) (child : C) (rest : List (ℕ × C))
    → is_some (child_at byte ((key, child) ∷ rest)) ≡ (byte == key || is_some (child_at byte rest))
some-where byte key child rest =
    ap (λ (t : Bool). is_some (cond t (Some child) (child_at byte rest))) (unsigned_tied byte key)
    ∙ by (byte == key)
  where
    by : (t : Bool)
        → is_some (cond t (Some child) (child_at byte rest)) ≡ (t || is_some (child_at byte rest))
    by true = refl
    by false = refl

-- the keys of slots that are filled
pub keys-some : {C : Type 0} (byte : ℕ) (keys : List ℕ) (slots : List (Option C))
    → is_filled keys slots ≡ true
    → holds_key byte keys ≡ is_some (child_at byte (keyed_children keys slots))
keys-some byte [] slots filled = refl
keys-some byte (key ∷ keys) [] filled = absurd (false≢true filled)
keys-some byte (key ∷ keys) (None ∷ slots) filled = absurd (false≢true filled)
keys-some byte (key ∷ keys) (Some child ∷ slots) filled =
    ap (λ (t : Bool). byte == key || t) (keys-some byte keys slots filled)
    ∙ sym (some-where byte key child (keyed_children keys slots))

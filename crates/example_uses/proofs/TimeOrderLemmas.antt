-- The keys of an id are in the order of their times.
use Rattle.std.proofs.Common.{◌≡◌, ◌<◌, ◌^◌, ◌/◌, ◌%◌, ℕ, List, [], ◌∷◌, ◌++◌, refl, ap, subst, ◌∙◌, ⊎_elim, inl, inr, arith}
use Rattle.std.specs.Prelude.{All}
use Rattle.std.specs.Int.{w64, to_be_bytes}
use Rattle.std.specs.Ordering.{is_lt}
use Rattle.std.proofs.lemmas.Bool.{cases_order}
use Rattle.std.proofs.lemmas.List.Elements.{All-nil, All-cons}
use Rattle.rart_below.specs.Bytes.{byte_order}
use Rattle.rart_maps.specs.Order.{IsBefore}
use Rattle.rart_maps.proofs.CallerLemmas.{IsBefore-back, IsBefore-itself, before-lt, lt-before}
use Rattle.tuple_index.specs.Tuples.{bytes_of}
use Rattle.tuple_index.proofs.ColumnLemmas.{columns-order}
use Rattle.example_uses.specs.Timelines.{KeysAreInTimeOrder, beginning, record_key}

-- a number of 64 bits as two of 32
abbrev halves : ℕ → List ℕ
halves n = n / 2 ^ 32 ∷ n % 2 ^ 32 ∷ []

narrow-halves : (n : ℕ) → n < 2 ^ 64 → All (λ half. half < 2 ^ 32) (halves n)
narrow-halves n small =
    let P = λ (half : ℕ). half < 2 ^ 32 in
    All-cons P (n / 2 ^ 32) (n % 2 ^ 32 ∷ []) (omega (arith, small))
    (All-cons P (n % 2 ^ 32) [] (omega arith) (All-nil P))

-- their bytes are its bytes
of-halves : (n : ℕ) → to_be_bytes w64 n ≡ bytes_of (halves n)
of-halves n =
    let a : n / 256 ^ 7 % 256 ≡ n / 2 ^ 32 / 256 ^ 3 % 256 = omega arith in
    let b : n / 256 ^ 6 % 256 ≡ n / 2 ^ 32 / 256 ^ 2 % 256 = omega arith in
    let c : n / 256 ^ 5 % 256 ≡ n / 2 ^ 32 / 256 ^ 1 % 256 = omega arith in
    let d : n / 256 ^ 4 % 256 ≡ n / 2 ^ 32 % 256 = omega arith in
    let e : n / 256 ^ 3 % 256 ≡ n % 2 ^ 32 / 256 ^ 3 % 256 = omega arith in
    let f : n / 256 ^ 2 % 256 ≡ n % 2 ^ 32 / 256 ^ 2 % 256 = omega arith in
    let g : n / 256 ^ 1 % 256 ≡ n % 2 ^ 32 / 256 ^ 1 % 256 = omega arith in
    let h : n % 256 ≡ n % 2 ^ 32 % 256 = omega arith in
    λ i. a i ∷ b i ∷ c i ∷ d i ∷ e i ∷ f i ∷ g i ∷ h i ∷ []

halves-before : (m n : ℕ) → m < n → IsBefore (halves m) (halves n)
halves-before m n less =
    ⊎_elim
    (λ same. inr (same, inl (omega (arith, less, same))))
    (λ other. ⊎_elim (λ high. inl high) (λ back. absurd (omega (arith, less, back))) other)
    (cases_order (m / 2 ^ 32) (n / 2 ^ 32))

times-before : (m n : ℕ) → m < 2 ^ 64 → n < 2 ^ 64 → m < n →
    IsBefore (to_be_bytes w64 m) (to_be_bytes w64 n)
times-before m n small_m small_n less =
    lt-before (to_be_bytes w64 m) (to_be_bytes w64 n)
    ((λ i. is_lt (byte_order (of-halves m i) (of-halves n i)))
    ∙ ap is_lt (columns-order (halves m) (halves n) (narrow-halves m small_m)
    (narrow-halves n small_n))
    ∙ before-lt (halves m) (halves n) (halves-before m n less))

before-behind : (p u w : List ℕ) → IsBefore u w → IsBefore (p ++ u) (p ++ w)
before-behind [] u w before = before
before-behind (b ∷ p) u w before = inr (refl, before-behind p u w before)

keys-before : (id : List ℕ) (m n : ℕ) → m < 2 ^ 64 → n < 2 ^ 64 → m < n →
    IsBefore (record_key id m) (record_key id n)
keys-before id m n small_m small_n less =
    before-behind (beginning id) (to_be_bytes w64 m) (to_be_bytes w64 n)
    (times-before m n small_m small_n less)

pub keys_are_in_time_order : KeysAreInTimeOrder
keys_are_in_time_order id one other small_one small_other = (
  λ before. ⊎_elim
      (λ same. absurd (IsBefore-itself (record_key id other)
      (subst (λ at. IsBefore (record_key id at) (record_key id other)) same before)))
      (λ apart. ⊎_elim (λ less. less)
      (λ back. absurd (IsBefore-back (record_key id one) (record_key id other) before
      (keys-before id other one small_other small_one back)))
      apart)
      (cases_order one other),
  λ less. keys-before id one other small_one small_other less,
)

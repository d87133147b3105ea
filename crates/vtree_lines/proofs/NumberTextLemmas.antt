-- Numbers in, byte by byte.
use Rattle.std.proofs.Common.{◌≡◌, ℕ, ◌+◌, ◌-◌, ◌*◌, ◌≤◌, ◌<◌, List, [], ◌∷◌, ◌++◌, take, drop, drop-cons, length, get_or, sym, ◌∙◌, ap, refl, arith, Bool, true, false}
use Rattle.std.proofs.lemmas.List.{take_more, take-append-drop, take_all}
use Rattle.std.proofs.lemmas.Bool.{lt-ltb, le-ltb, le-leb}
use Rattle.std.specs.Prelude.{◌&&◌, ◌^◌, nat_lt, nat_le, if◌then◌else◌}
use Rattle.std.specs.Char.{is_ascii_digit}
use Rattle.std.specs.Str.{all_ascii_digits}
use Rattle.std.specs.declared.option.Option.TheVariants.{Some, None}
use Rattle.vtree_lines.specs.Lines.{value_from, is_number, number_of}

pub value-append : (n : ℕ) (xs ys : List ℕ) →
    value_from n (xs ++ ys) ≡ value_from (value_from n xs) ys
value-append n [] ys = refl
value-append n (x ∷ xs) ys = value-append (n * 10 + (x - 48)) xs ys

pub value_grows : (n : ℕ) (ys : List ℕ) → n ≤ value_from n ys
value_grows n [] = omega arith
value_grows n (y ∷ ys) = omega (arith, value_grows (n * 10 + (y - 48)) ys)

-- the value of a prefix is no more
pub value_front : (word : List ℕ) (i : ℕ) → value_from 0 (take i word) ≤ value_from 0 word
value_front word i =
    let e : value_from 0 word ≡ value_from (value_from 0 (take i word)) (drop i word) =
    ap (value_from 0) (sym (take-append-drop i word))
    ∙ value-append 0 (take i word) (drop i word) in
    omega (arith, value_grows (value_from 0 (take i word)) (drop i word))

pub value_next : (word : List ℕ) (i : ℕ) → i < length word →
    value_from 0 (take (i + 1) word) ≡ value_from 0 (take i word) * 10 + (get_or word i 0 - 48)
value_next word i l = ap (value_from 0) (take_more word i 0 l)
    ∙ value-append 0 (take i word) (get_or word i 0 ∷ [])

pub and-assoc : (a b c : Bool) → ((a && b) && c) ≡ (a && (b && c))
and-assoc true b c = refl
and-assoc false b c = refl

pub digits-append : (xs ys : List ℕ) →
    all_ascii_digits (xs ++ ys) ≡ (all_ascii_digits xs && all_ascii_digits ys)
digits-append [] ys = refl
digits-append (x ∷ xs) ys = ap (λ b. is_ascii_digit x && b) (digits-append xs ys)
    ∙ sym (and-assoc (is_ascii_digit x) (all_ascii_digits xs) (all_ascii_digits ys))

pub digits_next : (word : List ℕ) (i : ℕ) → i < length word →
    all_ascii_digits (take i word) ≡ true → is_ascii_digit (get_or word i 0) ≡ true →
    all_ascii_digits (take (i + 1) word) ≡ true
digits_next word i l h d = ap all_ascii_digits (take_more word i 0 l)
    ∙ digits-append (take i word) (get_or word i 0 ∷ []) ∙ rw (h, d) refl

pub and_none : (a b : Bool) → b ≡ false → (a && b) ≡ false
and_none true b e = e
and_none false b e = refl

pub not_digits : (word : List ℕ) (i : ℕ) → i < length word →
    is_ascii_digit (get_or word i 0) ≡ false → all_ascii_digits word ≡ false
not_digits word i l d =
    ap all_ascii_digits (sym (take-append-drop i word)) ∙ digits-append (take i word) (drop i word)
    ∙ and_none (all_ascii_digits (take i word)) (all_ascii_digits (drop i word))
    (ap all_ascii_digits (drop-cons word i 0 l) ∙ rw d refl)

pub none_from : (word : List ℕ) → is_number word ≡ false → number_of word ≡ None
none_from word e = ap (λ b. if b then Some (value_from 0 word) else None) e

-- no number: a byte that is no digit
pub none_by_digit : (word : List ℕ) (i : ℕ) → i < length word →
    is_ascii_digit (get_or word i 0) ≡ false → number_of word ≡ None
none_by_digit word i l d = none_from word
    (and_none (nat_lt 0 (length word) && nat_le (length word) 20)
    (all_ascii_digits word && nat_lt (value_from 0 word) (2 ^ 64))
    (ap (λ b. b && nat_lt (value_from 0 word) (2 ^ 64)) (not_digits word i l d)))

-- no number: the value so far is too great
pub none_by_value : (word : List ℕ) (i : ℕ) → 2 ^ 64 ≤ value_from 0 (take i word) →
    number_of word ≡ None
none_by_value word i h =
    let big : 2 ^ 64 ≤ value_from 0 word = omega (arith, value_front word i) in
    none_from word (and_none _ _
    (and_none (all_ascii_digits word) _ (le-ltb (value_from 0 word) (2 ^ 64) big)))

-- a number
pub some_number : (word : List ℕ) (n i : ℕ) → length word ≤ i → 0 < length word → length word ≤ 20 →
    all_ascii_digits (take i word) ≡ true → n ≡ value_from 0 (take i word) → n < 2 ^ 64 →
    number_of word ≡ Some n
some_number word n i all some few d e small =
    let whole : take i word ≡ word = take_all i word all in
    let value : n ≡ value_from 0 word = e ∙ ap (value_from 0) whole in
    let digits : all_ascii_digits word ≡ true = sym (ap all_ascii_digits whole) ∙ d in
    let below : value_from 0 word < 2 ^ 64 = omega arith in
    let yes : is_number word ≡ true =
    rw (lt-ltb 0 (length word) some, digits, lt-ltb (value_from 0 word) (2 ^ 64) below)
    (rw (le-leb (length word) 20 few) refl) in
    ap (λ b. if b then Some (value_from 0 word) else None) yes ∙ ap Some (sym value)

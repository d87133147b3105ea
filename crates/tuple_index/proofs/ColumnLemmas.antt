-- Columns as bytes, the greatest byte first: their order and their prefixes are those of the
-- columns.
use Rattle.std.proofs.Common.{◌≡◌, ◌+◌, ◌*◌, ◌<◌, ◌^◌, ◌&&◌, ℕ, zero, suc, Bool, true, false, List, [], ◌∷◌, ◌++◌, refl, arith, sym, ap, ◌∙◌}
use Rattle.std.specs.Prelude.{◌==◌, All}
use Rattle.std.specs.Cmp.{ranks, nat_cmp_is, tied_then, unsigned_ties}
use Rattle.std.specs.Cmp.Lexicographic.{slice_cmp}
use Rattle.std.specs.Int.{w32, byte_at, to_be_bytes}
use Rattle.std.specs.Ordering.{MatchOrdering, is_eq, nat_cmp, ordering_then}
use Rattle.std.specs.declared.cmp.Ordering.{Ordering}
use Rattle.std.specs.declared.cmp.Ordering.TheVariants.{Less, Equal, Greater}
use Rattle.std.proofs.lemmas.List.Elements.{All-head, All-tail}
use Rattle.std.proofs.lemmas.Nat.{from_be_bytes-to_be_bytes_4}
use Rattle.rart_versioned.specs.Bytes.{begins}
use Rattle.tuple_index.specs.Tuples.{bytes_of}

-- ---- numbers of several digits

-- Of two numbers with the same base the higher digits decide, and then the last one.
digits : (a b : Ordering) (h l h' l' : ℕ) → l < 256 → l' < 256 →
    MatchOrdering a (h < h') (h ≡ h') (h' < h) → MatchOrdering b (l < l') (l ≡ l') (l' < l) →
    MatchOrdering (ordering_then a b) (h * 256 + l < h' * 256 + l')
    (h * 256 + l ≡ h' * 256 + l') (h' * 256 + l' < h * 256 + l)
digits Less b h l h' l' small small' high low = omega (arith, small, small', high)
digits Equal Less h l h' l' small small' high low = omega (arith, high, low)
digits Equal Equal h l h' l' small small' high low = omega (arith, high, low)
digits Equal Greater h l h' l' small small' high low = omega (arith, high, low)
digits Greater b h l h' l' small small' high low = omega (arith, small, small', high)

last-digit : (h l h' l' : ℕ) → l < 256 → l' < 256 →
    nat_cmp (h * 256 + l) (h' * 256 + l') ≡ ordering_then (nat_cmp h h') (nat_cmp l l')
last-digit h l h' l' small small' =
    sym (nat_cmp_is (h * 256 + l) (h' * 256 + l') (ordering_then (nat_cmp h h') (nat_cmp l l'))
    (digits (nat_cmp h h') (nat_cmp l l') h l h' l' small small' (ranks h h') (ranks l l')))

then-then : (a b c : Ordering) →
    ordering_then (ordering_then a b) c ≡ ordering_then a (ordering_then b c)
then-then Less b c = refl
then-then Equal b c = refl
then-then Greater b c = refl

byte-small : (i n : ℕ) → byte_at i n < 256
byte-small zero n = omega arith
byte-small (suc i) n = omega arith

-- a number of 32 bits by its bytes
by-bytes : (n : ℕ) → n < 2 ^ 32 →
    ((byte_at 3 n * 256 + byte_at 2 n) * 256 + byte_at 1 n) * 256 + byte_at 0 n ≡ n
by-bytes n narrow = omega (arith, from_be_bytes-to_be_bytes_4 n narrow)

-- the order of two numbers, by their bytes from the greatest
bytes-order : (m n : ℕ) → m < 2 ^ 32 → n < 2 ^ 32 →
    nat_cmp m n
    ≡ ordering_then (nat_cmp (byte_at 3 m) (byte_at 3 n))
    (ordering_then (nat_cmp (byte_at 2 m) (byte_at 2 n))
    (ordering_then (nat_cmp (byte_at 1 m) (byte_at 1 n)) (nat_cmp (byte_at 0 m) (byte_at 0 n))))
bytes-order m n narrow_m narrow_n =
    let c = λ (i : ℕ). nat_cmp (byte_at i m) (byte_at i n) in
    let m32 = byte_at 3 m * 256 + byte_at 2 m in
    let n32 = byte_at 3 n * 256 + byte_at 2 n in
    let m321 = m32 * 256 + byte_at 1 m in
    let n321 = n32 * 256 + byte_at 1 n in
    (λ i. nat_cmp (sym (by-bytes m narrow_m) i) (sym (by-bytes n narrow_n) i))
    ∙ last-digit m321 (byte_at 0 m) n321 (byte_at 0 n) (byte-small 0 m) (byte-small 0 n)
    ∙ ap (λ o. ordering_then o (c 0))
    (last-digit m32 (byte_at 1 m) n32 (byte_at 1 n) (byte-small 1 m) (byte-small 1 n)
    ∙ ap (λ o. ordering_then o (c 1))
    (last-digit (byte_at 3 m) (byte_at 2 m) (byte_at 3 n) (byte_at 2 n)
    (byte-small 2 m) (byte-small 2 n)))
    ∙ then-then (ordering_then (c 3) (c 2)) (c 1) (c 0)
    ∙ then-then (c 3) (c 2) (ordering_then (c 1) (c 0))

-- ---- one column

-- Two columns are ordered as their bytes, and then what follows is.
pub column-order : (m n : ℕ) → m < 2 ^ 32 → n < 2 ^ 32 → (p q : List ℕ) →
    slice_cmp nat_cmp (to_be_bytes w32 m ++ p) (to_be_bytes w32 n ++ q)
    ≡ ordering_then (nat_cmp m n) (slice_cmp nat_cmp p q)
column-order m n narrow_m narrow_n p q =
    let c = λ (i : ℕ). nat_cmp (byte_at i m) (byte_at i n) in
    let rest = slice_cmp nat_cmp p q in
    sym (ap (λ o. ordering_then o rest) (bytes-order m n narrow_m narrow_n)
    ∙ then-then (c 3) (ordering_then (c 2) (ordering_then (c 1) (c 0))) rest
    ∙ ap (ordering_then (c 3))
    (then-then (c 2) (ordering_then (c 1) (c 0)) rest
    ∙ ap (ordering_then (c 2)) (then-then (c 1) (c 0) rest)))

and-and : (a b c : Bool) → ((a && b) && c) ≡ (a && (b && c))
and-and true b c = refl
and-and false b c = refl

column-same : (m n : ℕ) → m < 2 ^ 32 → n < 2 ^ 32 →
    (m == n)
    ≡ ((byte_at 3 m == byte_at 3 n) && ((byte_at 2 m == byte_at 2 n)
    && ((byte_at 1 m == byte_at 1 n) && (byte_at 0 m == byte_at 0 n))))
column-same m n narrow_m narrow_n =
    let c = λ (i : ℕ). nat_cmp (byte_at i m) (byte_at i n) in
    let e = λ (i : ℕ). byte_at i m == byte_at i n in
    let t : (i : ℕ) → e i ≡ is_eq (c i) = λ i. unsigned_ties (byte_at i m) (byte_at i n) in
    unsigned_ties m n
    ∙ ap is_eq (bytes-order m n narrow_m narrow_n)
    ∙ sym (tied_then (c 3) (ordering_then (c 2) (ordering_then (c 1) (c 0))))
    ∙ ap (λ b. is_eq (c 3) && b) (sym (tied_then (c 2) (ordering_then (c 1) (c 0)))
    ∙ ap (λ b. is_eq (c 2) && b) (sym (tied_then (c 1) (c 0))))
    ∙ (λ i. sym (t 3) i && (sym (t 2) i && (sym (t 1) i && sym (t 0) i)))

-- The bytes of a column begin those of another exactly where it is the same.
column-begins : (m n : ℕ) → m < 2 ^ 32 → n < 2 ^ 32 → (p q : List ℕ) →
    begins (to_be_bytes w32 m ++ p) (to_be_bytes w32 n ++ q) ≡ ((m == n) && begins p q)
column-begins m n narrow_m narrow_n p q =
    let e = λ (i : ℕ). byte_at i m == byte_at i n in
    let rest = begins p q in
    sym (ap (λ b. b && rest) (column-same m n narrow_m narrow_n)
    ∙ and-and (e 3) (e 2 && (e 1 && e 0)) rest
    ∙ ap (λ b. e 3 && b)
    (and-and (e 2) (e 1 && e 0) rest ∙ ap (λ b. e 2 && b) (and-and (e 1) (e 0) rest)))

-- ---- several columns

-- Some columns begin others exactly where their bytes do.
pub columns-begin : (few many : List ℕ) → All (λ n. n < 2 ^ 32) few →
    All (λ n. n < 2 ^ 32) many → begins (bytes_of few) (bytes_of many) ≡ begins few many
columns-begin [] many narrow_few narrow_many = refl
columns-begin (m ∷ few) [] narrow_few narrow_many = refl
columns-begin (m ∷ few) (n ∷ many) narrow_few narrow_many =
    column-begins m n (All-head (λ n. n < 2 ^ 32) m few narrow_few)
    (All-head (λ n. n < 2 ^ 32) n many narrow_many) (bytes_of few) (bytes_of many)
    ∙ ap (λ b. (m == n) && b) (columns-begin few many
    (All-tail (λ n. n < 2 ^ 32) m few narrow_few)
    (All-tail (λ n. n < 2 ^ 32) n many narrow_many))

-- Columns are ordered as their bytes.
pub columns-order : (one other : List ℕ) → All (λ n. n < 2 ^ 32) one →
    All (λ n. n < 2 ^ 32) other →
    slice_cmp nat_cmp (bytes_of one) (bytes_of other) ≡ slice_cmp nat_cmp one other
columns-order [] [] narrow_one narrow_other = refl
columns-order [] (n ∷ other) narrow_one narrow_other = refl
columns-order (m ∷ one) [] narrow_one narrow_other = refl
columns-order (m ∷ one) (n ∷ other) narrow_one narrow_other =
    column-order m n (All-head (λ n. n < 2 ^ 32) m one narrow_one)
    (All-head (λ n. n < 2 ^ 32) n other narrow_other) (bytes_of one) (bytes_of other)
    ∙ ap (ordering_then (nat_cmp m n)) (columns-order one other
    (All-tail (λ n. n < 2 ^ 32) m one narrow_one)
    (All-tail (λ n. n < 2 ^ 32) n other narrow_other))

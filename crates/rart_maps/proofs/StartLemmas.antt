-- Which strings begin the keys of maps, and how many of them a string begins.
use Rattle.std.proofs.Common.{◌≡◌, ◌<◌, ◌≤◌, ◌+◌, ◌⊎◌, ℕ, zero, suc, Bool, true, false, cond, ◌&&◌, ◌||◌, List, [], ◌∷◌, ◌++◌, map, append-nil, append_assoc, refl, sym, ap, subst, ◌∙◌, ⊎_elim, inl, inr, arith, Option, Some, None}
use mathlib.Core.Bool.{and-true, and-false, or-false}
use Rattle.std.specs.Prelude.{◌==◌, Contains, count_by, sum_by}
use Rattle.std.specs.List.{range_with_len, flat_map}
use Rattle.std.specs.Option.{is_some}
use Rattle.std.specs.Ordering.{nat_cmp, eq_by_cmp, is_lt}
use Rattle.std.specs.Cmp.{ranked, eq_by_cmp_equiv}
use Rattle.std.specs.declared.cmp.Ordering.TheVariants.{Less}
use Rattle.std.specs.Cmp.Lexicographic.{nat_list_cmp_total, bytes_decides}
use Rattle.std.specs.Str.{bytes_eq}
use Rattle.std.specs.FinMap as finite
use Rattle.std.specs.FinMap.Entries.{is_sorted, below_all}
use Rattle.std.specs.FinSet as set
use Rattle.std.proofs.lemmas.Bool.{and_parts, and_from, eqb-true, eq-eqb, ne_eqb, false≢true, cases_eq}
use Rattle.std.proofs.lemmas.List.Elements.{All-contains, Contains-append_left, Contains-append_right}
use Rattle.std.proofs.lemmas.List.Sums.{sum_by-cons}
use Rattle.std.proofs.lemmas.Map.Text.{is_eq-slice_cmp}
use Rattle.rart_below.specs.Bytes.{byte_order, begins}
use Rattle.rart_maps.specs.Versions.{Map}
use Rattle.rart_maps.specs.Pairs.{Strings, pairs, prefixes_of, starts, shared}
use Rattle.rart_maps.specs.StartLaws.{strings_under, how_many_under, HasStarts, with_byte, all_bytes, HasByteKeys, sum_of_parts, StringsUnderSplit, StringsUnderAreApart, StringsUnderAddUp, StartsBeginKeys, SharedAreInBoth, StartsAddUp, SharedAddUp}
use Rattle.rart_maps.proofs.ElementLemmas.{Contains-here, Contains-later, Contains-map, list_any-is}
use Rattle.rart_maps.proofs.FoundLemmas.{Contains-pairs}
use Rattle.rart_maps.proofs.OrderLemmas.{byte_order-IsAntisymmetric, lt-less, begins-append, begins-rest}
use Rattle.rart_maps.proofs.PairLawLemmas.{begins-shorter, contains-prefix_matches, contains-starts, contains-shared}
use Rattle.rart_maps.proofs.SetLemmas.{contains-kept, elements, len-retain, len-retain-weaker, Contains-elements}

-- ---- starts and shared

key_of : {V : Type 0} (o : Option V) → is_some o ≡ true → (x : V) × (o ≡ Some x)
key_of None is = absurd (false≢true is)
key_of (Some x) is = (x, refl)

module _ (V : Type 0) where
  pub starts_begin_keys : StartsBeginKeys V
  starts_begin_keys m s =
      let any = list_any-is (λ pair. begins s pair.0) (pairs m) in (
        λ is. let found = any.0 (sym (contains-starts m s) ∙ is) in
            (found.0.0, found.2, ap is_some ((Contains-pairs m found.0.0 found.0.1).0 found.1)),
        λ found. let value = key_of (finite.get m found.0) found.2 in
            contains-starts m s ∙ any.1 (
              (found.0, value.0),
              (Contains-pairs m found.0 value.0).1 value.1,
              found.1,
            ),
      )

  pub shared_are_in_both : SharedAreInBoth V
  shared_are_in_both left right s = (
    λ is. and_parts (set.contains (starts left) s) (set.contains (starts right) s)
        (sym (contains-shared left right s) ∙ is),
    λ both. contains-shared left right s
        ∙ and_from (set.contains (starts left) s) (set.contains (starts right) s) both.0 both.1,
  )

-- ---- what a string begins, part by part

-- A string is under s exactly where it is in the set and s begins it.
pub contains-strings_under : (strings : Strings) (s u : List ℕ)
    → set.contains (strings_under strings s) u ≡ (set.contains strings u && begins s u)
contains-strings_under strings s u =
    contains-kept nat_list_cmp_total byte_order-IsAntisymmetric strings (begins s) u

under-parts : (strings : Strings) (s u : List ℕ) → set.contains (strings_under strings s) u ≡ true
    → (set.contains strings u ≡ true) × (begins s u ≡ true)
under-parts strings s u is =
    and_parts (set.contains strings u) (begins s u) (sym (contains-strings_under strings s u) ∙ is)

under-from : (strings : Strings) (s u : List ℕ) → set.contains strings u ≡ true → begins s u ≡ true
    → set.contains (strings_under strings s) u ≡ true
under-from strings s u there is =
    contains-strings_under strings s u ∙ and_from (set.contains strings u) (begins s u) there is

begins-with_byte : (s : List ℕ) (b : ℕ) (rest : List ℕ)
    → begins (with_byte s b) (s ++ b ∷ rest) ≡ true
begins-with_byte [] b rest = and_from (b == b) true (eq-eqb b b refl) refl
begins-with_byte (a ∷ s) b rest =
    and_from (a == a) (begins (with_byte s b) (s ++ b ∷ rest)) (eq-eqb a a refl)
    (begins-with_byte s b rest)

not_itself : (s : List ℕ) (b : ℕ) → begins (with_byte s b) s ≡ true → ⊥
not_itself [] b is = false≢true is
not_itself (a ∷ s) b is = not_itself s b (and_parts (a == a) (begins (with_byte s b) s) is).1

one_byte : (s u : List ℕ) (b c : ℕ) → begins (with_byte s b) u ≡ true
    → begins (with_byte s c) u ≡ true → c ≡ b
one_byte [] [] b c here also = absurd (false≢true here)
one_byte [] (d ∷ u) b c here also = eqb-true c d (and_parts (c == d) true also).0
    ∙ sym (eqb-true b d (and_parts (b == d) true here).0)
one_byte (a ∷ s) [] b c here also = absurd (false≢true here)
one_byte (a ∷ s) (d ∷ u) b c here also =
    one_byte s u b c (and_parts (a == d) (begins (with_byte s b) u) here).1
    (and_parts (a == d) (begins (with_byte s c) u) also).1

part_of : (strings : Strings) (s u rest : List ℕ) → u ≡ s ++ rest → set.contains strings u ≡ true
    → ((u ≡ s) × (set.contains strings s ≡ true))
    ⊎ ((b : ℕ) × (set.contains (strings_under strings (with_byte s b)) u ≡ true))
part_of strings s u [] is there = let whole = is ∙ append-nil s in
    inl (whole, ap (set.contains strings) (sym whole) ∙ there)
part_of strings s u (b ∷ rest) is there =
    inr (
      b,
      under-from strings (with_byte s b) u there
          (ap (begins (with_byte s b)) is ∙ begins-with_byte s b rest),
    )

pub strings_under_split : StringsUnderSplit
strings_under_split strings s u = (
  λ is. let parts = under-parts strings s u is in let found = begins-rest s u parts.1 in
      part_of strings s u found.0 found.1 parts.0,
  λ either. ⊎_elim
      (λ here. under-from strings s u (ap (set.contains strings) here.0 ∙ here.1)
      (ap (begins s) (here.0 ∙ sym (append-nil s)) ∙ begins-append s []))
      (λ further. let parts = under-parts strings (with_byte s further.0) u further.1 in
      under-from strings s u parts.0 (begins-shorter s (further.0 ∷ []) u parts.1))
      either,
)

pub strings_under_are_apart : StringsUnderAreApart
strings_under_are_apart strings s u b is =
    let here = (under-parts strings (with_byte s b) u is).1 in (
      λ same. not_itself s b (ap (begins (with_byte s b)) (sym same) ∙ here),
      λ c also. one_byte s u b c here (under-parts strings (with_byte s c) u also).1,
    )

-- ---- numbers

sum_by-zero : {A : Type 0} (xs : List A) → sum_by (λ _. 0) xs ≡ 0
sum_by-zero [] = refl
sum_by-zero (x ∷ xs) = let more = sum_by-zero xs in sum_by-cons (λ _. 0) x xs ∙ omega (arith, more)

sum_by-plus : {A : Type 0} (f g : A → ℕ) (xs : List A)
    → sum_by (λ x. f x + g x) xs ≡ sum_by f xs + sum_by g xs
sum_by-plus f g [] = refl
sum_by-plus f g (x ∷ xs) =
    let more = sum_by-plus f g xs in
    let left = sum_by-cons f x xs in
    let right = sum_by-cons g x xs in
    sum_by-cons (λ x. f x + g x) x xs ∙ omega (arith, more, left, right)

pub sum_by-map : {A B : Type 0} (f : B → ℕ) (g : A → B) (xs : List A)
    → sum_by f (map g xs) ≡ sum_by (λ x. f (g x)) xs
sum_by-map f g [] = refl
sum_by-map f g (x ∷ xs) = sum_by-cons f (g x) (map g xs) ∙ ap (λ n. f (g x) + n) (sum_by-map f g xs)
    ∙ sym (sum_by-cons (λ x. f (g x)) x xs)

-- A string that s begins is s or goes on with one byte, which stands once in the list.
part_at : (s bytes k : List ℕ)
    → ((b : ℕ) (rest : List ℕ) → k ≡ s ++ b ∷ rest → count_by (λ c. c == b) bytes ≡ 1)
    → cond (begins s k) 1 0 ≡ cond (bytes_eq s k) 1 0
    + sum_by (λ b. cond (begins (with_byte s b) k) 1 0) bytes
part_at [] bytes [] once = let none = sum_by-zero bytes in omega (arith, none)
part_at [] bytes (c ∷ rest) once =
    let same : sum_by (λ b. cond (b == c && true) 1 0) bytes ≡ count_by (λ b. b == c) bytes =
    λ i. sum_by (λ b. cond (and-true (b == c) i) 1 0) bytes in
    let one = once c rest refl in
    omega (arith, same, one)
part_at (a ∷ s) bytes [] once = let none = sum_by-zero bytes in omega (arith, none)
part_at (a ∷ s) bytes (c ∷ k) once =
    elim (a == c) as (λ t. (a == c) ≡ t
    → cond (t && begins s k) 1 0 ≡ cond (t && bytes_eq s k) 1 0
    + sum_by (λ b. cond (t && begins (with_byte s b) k) 1 0) bytes) [
      | true ↦ λ is. part_at s bytes k
          (λ b rest here. once b rest (λ i. sym (eqb-true a c is) i ∷ here i))
      | false ↦ λ _. let none = sum_by-zero bytes in omega (arith, none)
    ] refl

count_part : (s bytes : List ℕ) (ks : List (List ℕ))
    → ((k : List ℕ) → Contains ks k → (b : ℕ) (rest : List ℕ) → k ≡ s ++ b ∷ rest
    → count_by (λ c. c == b) bytes ≡ 1)
    → count_by (begins s) ks ≡ count_by (bytes_eq s) ks
    + sum_by (λ b. count_by (begins (with_byte s b)) ks) bytes
count_part s bytes [] once = let none = sum_by-zero bytes in omega (arith, none)
count_part s bytes (k ∷ ks) once =
    let here = part_at s bytes k (once k (Contains-here k ks)) in
    let more = count_part s bytes ks (λ q there. once q (Contains-later k ks q there)) in
    let left = sum_by-cons (λ q. cond (begins s q) 1 0) k ks in
    let itself = sum_by-cons (λ q. cond (bytes_eq s q) 1 0) k ks in
    let each : sum_by (λ b. count_by (begins (with_byte s b)) (k ∷ ks)) bytes
    ≡ sum_by (λ b. cond (begins (with_byte s b) k) 1 0 + count_by (begins (with_byte s b)) ks)
    bytes =
    λ i. sum_by (λ b. sum_by-cons (λ q. cond (begins (with_byte s b) q) 1 0) k ks i) bytes in
    let split =
    sum_by-plus (λ b. cond (begins (with_byte s b) k) 1 0)
    (λ b. count_by (begins (with_byte s b)) ks) bytes in
    left ∙ omega (arith, here, more, itself, each, split)

-- Each byte stands in the list at most once.
abbrev HasBytesOnce : List ℕ → Type 0
HasBytesOnce bytes = (b : ℕ) → count_by (λ c. c == b) bytes ≤ 1

-- Then the parts are no more than the whole.
part_at_most : (s bytes k : List ℕ) → HasBytesOnce bytes →
    cond (bytes_eq s k) 1 0 + sum_by (λ b. cond (begins (with_byte s b) k) 1 0) bytes
    ≤ cond (begins s k) 1 0
part_at_most [] bytes [] once = let none = sum_by-zero bytes in omega (arith, none)
part_at_most [] bytes (c ∷ rest) once =
    let same : sum_by (λ b. cond (b == c && true) 1 0) bytes ≡ count_by (λ b. b == c) bytes =
    λ i. sum_by (λ b. cond (and-true (b == c) i) 1 0) bytes in
    let one = once c in
    omega (arith, same, one)
part_at_most (a ∷ s) bytes [] once = let none = sum_by-zero bytes in omega (arith, none)
part_at_most (a ∷ s) bytes (c ∷ k) once =
    elim (a == c) as
    (λ t. cond (t && bytes_eq s k) 1 0
    + sum_by (λ b. cond (t && begins (with_byte s b) k) 1 0) bytes
    ≤ cond (t && begins s k) 1 0) [
      | true ↦ part_at_most s bytes k once
      | false ↦ let none = sum_by-zero bytes in omega (arith, none)
    ]

count_part_most : (s bytes : List ℕ) (ks : List (List ℕ)) → HasBytesOnce bytes →
    count_by (bytes_eq s) ks + sum_by (λ b. count_by (begins (with_byte s b)) ks) bytes
    ≤ count_by (begins s) ks
count_part_most s bytes [] once = let none = sum_by-zero bytes in omega (arith, none)
count_part_most s bytes (k ∷ ks) once =
    let one = λ (b : ℕ). cond (begins (with_byte s b) k) 1 0 in
    let more = λ (b : ℕ). count_by (begins (with_byte s b)) ks in
    let here = part_at_most s bytes k once in
    let later = count_part_most s bytes ks once in
    let whole = sum_by-cons (λ q. cond (begins s q) 1 0) k ks in
    let itself = sum_by-cons (λ q. cond (bytes_eq s q) 1 0) k ks in
    let each : sum_by (λ b. count_by (begins (with_byte s b)) (k ∷ ks)) bytes
    ≡ sum_by (λ b. one b + more b) bytes =
    λ i. sum_by (λ b. sum_by-cons (λ q. cond (begins (with_byte s b) q) 1 0) k ks i) bytes in
    let split = sum_by-plus one more bytes in
    omega (arith, here, later, whole, itself, each, split)

-- the set of s alone, or no string
one_or_none : (t : Bool) (s q : List ℕ)
    → set.contains (cond t (set.insert (set.empty {R = byte_order}) s) set.empty) q
    ≡ (t && bytes_eq s q)
one_or_none true s q =
    set.contains-insert nat_list_cmp_total set.empty s q
    ∙ ap (λ b. eq_by_cmp byte_order q s || b) (set.contains-empty byte_order q)
    ∙ or-false (eq_by_cmp byte_order q s)
    ∙ (eq_by_cmp_equiv nat_list_cmp_total).symm q s
    ∙ is_eq-slice_cmp s q
one_or_none false s q = set.contains-empty byte_order q

len-one_or_none : (t : Bool) (s : List ℕ)
    → set.len (cond t (set.insert (set.empty {R = byte_order}) s) set.empty) ≡ cond t 1 0
len-one_or_none true s =
    let none = set.len-empty byte_order in
    set.len-insert nat_list_cmp_total set.empty s
    ∙ ap (λ t. cond t (set.len (set.empty {R = byte_order}))
    (set.len (set.empty {R = byte_order}) + 1)) (set.contains-empty byte_order s)
    ∙ omega (arith, none)
len-one_or_none false s = set.len-empty byte_order

len-itself : (strings : Strings) (s : List ℕ)
    → set.len (set.retain strings (bytes_eq s)) ≡ cond (set.contains strings s) 1 0
len-itself strings s =
    ap set.len (set.same_set nat_list_cmp_total byte_order-IsAntisymmetric
    (set.retain strings (bytes_eq s))
    (cond (set.contains strings s) (set.insert set.empty s) set.empty) (λ q.
    contains-kept nat_list_cmp_total byte_order-IsAntisymmetric strings (bytes_eq s) q
    ∙ elim (bytes_eq s q) as (λ e. bytes_eq s q ≡ e
    → (set.contains strings q && e) ≡ (set.contains strings s && e)) [
      | true ↦ λ is. ap (λ k. set.contains strings k && true) (sym ((bytes_decides s q).0 is))
      | false ↦ λ _. and-false (set.contains strings q) ∙ sym (and-false (set.contains strings s))
    ] refl
    ∙ sym (one_or_none (set.contains strings s) s q)))
    ∙ len-one_or_none (set.contains strings s) s

pub strings_under_add_up : StringsUnderAddUp
strings_under_add_up strings s bytes once =
    len-retain nat_list_cmp_total byte_order-IsAntisymmetric strings (begins s)
    ∙ count_part s bytes (elements nat_list_cmp_total byte_order-IsAntisymmetric strings)
    (λ k there b rest is. once b rest
    (ap (set.contains strings) (sym is)
    ∙ Contains-elements nat_list_cmp_total byte_order-IsAntisymmetric strings k there))
    ∙ (λ i. (sym (len-retain nat_list_cmp_total byte_order-IsAntisymmetric strings (bytes_eq s))
    ∙ len-itself strings s) i
    + sum_by (λ b. sym (len-retain nat_list_cmp_total byte_order-IsAntisymmetric strings
    (begins (with_byte s b))) i) bytes)

-- The strings that s begins are no fewer than s, where it is in the set, and those that s and one
-- of these bytes begin.
strings_under-at_least : (strings : Strings) (s bytes : List ℕ) → HasBytesOnce bytes →
    sum_of_parts strings s bytes ≤ set.len (strings_under strings s)
strings_under-at_least strings s bytes once =
    let o = nat_list_cmp_total in
    let same = byte_order-IsAntisymmetric in
    let all = elements o same strings in
    let whole = len-retain o same strings (begins s) in
    let itself = sym (len-itself strings s) ∙ len-retain o same strings (bytes_eq s) in
    let each : sum_by (λ b. set.len (strings_under strings (with_byte s b))) bytes
    ≡ sum_by (λ b. count_by (begins (with_byte s b)) all) bytes =
    λ i. sum_by (λ b. len-retain o same strings (begins (with_byte s b)) i) bytes in
    let parts = count_part_most s bytes all once in
    omega (arith, whole, itself, each, parts)

-- ---- the lists of bytes

lt-below : (b c : ℕ) → is_lt (nat_cmp b c) ≡ true → b < c
lt-below b c is = ranked b c Less (sym (lt-less (nat_cmp b c) is))

module _ {C : Type 0} where
  none_below : (b : ℕ) (children : List (ℕ × C)) → below_all nat_cmp b children ≡ true
      → count_by (λ c. c == b) (map (λ child. child.0) children) ≡ 0
  none_below b [] below = refl
  none_below b (child ∷ children) below =
      let parts = and_parts (is_lt (nat_cmp b child.0)) (below_all nat_cmp b children) below in
      let less = lt-below b child.0 parts.0 in
      sum_by-cons (λ c. cond (c == b) 1 0) child.0 (map (λ child. child.0) children)
      ∙ (λ i. cond (ne_eqb child.0 b (λ is. omega (arith, is, less)) i) 1 0
      + none_below b children parts.1 i)

  at_most_once-children : (children : List (ℕ × C)) → is_sorted nat_cmp children ≡ true →
      HasBytesOnce (map (λ child. child.0) children)
  at_most_once-children [] sorted b = omega arith
  at_most_once-children (child ∷ children) sorted b =
      let parts =
      and_parts (below_all nat_cmp child.0 children) (is_sorted nat_cmp children) sorted in
      let first = sum_by-cons (λ c. cond (c == b) 1 0) child.0 (map (λ child. child.0) children) in
      ⊎_elim
      (λ is.
      let none =
      none_below b children (ap (λ a. below_all nat_cmp a children) (sym is) ∙ parts.0) in
      let one = ap {B = ℕ} (λ t. cond t 1 0) (eq-eqb child.0 b is) in
      omega (arith, first, none, one))
      (λ other.
      let later = at_most_once-children children parts.1 b in
      let none_here = ap {B = ℕ} (λ t. cond t 1 0) (ne_eqb child.0 b other) in
      omega (arith, first, later, none_here))
      (cases_eq child.0 b)

  -- So the strings that s begins are no fewer than s, where it is in the set, and those that s and
  -- the byte of a child begin.
  pub at_least-children : (strings : Strings) (s : List ℕ) (children : List (ℕ × C)) →
      is_sorted nat_cmp children ≡ true →
      cond (set.contains strings s) 1 0
      + sum_by (λ child. set.len (strings_under strings (with_byte s child.0))) children
      ≤ set.len (strings_under strings s)
  at_least-children strings s children sorted =
      let bytes = map (λ child. child.0) children in
      let numbers = λ (b : ℕ). set.len (strings_under strings (with_byte s b)) in
      let same = sum_by-map numbers (λ child. child.0) children in
      let once = at_most_once-children children sorted in
      let parts = strings_under-at_least strings s bytes once in
      omega (arith, same, parts)

none_before : (b a n : ℕ) → b < a → count_by (λ c. c == b) (range_with_len a n) ≡ 0
none_before b a zero less = refl
none_before b a (suc n) less =
    sum_by-cons (λ c. cond (c == b) 1 0) a (range_with_len (a + 1) n)
    ∙ (λ i. cond (ne_eqb a b (λ is. omega (arith, is, less)) i) 1 0
    + none_before b (a + 1) n (omega (arith, less)) i)

once_between : (b a n : ℕ) → a ≤ b → b < a + n → count_by (λ c. c == b) (range_with_len a n) ≡ 1
once_between b a zero low high = absurd (omega (arith, low, high))
once_between b a (suc n) low high =
    sum_by-cons (λ c. cond (c == b) 1 0) a (range_with_len (a + 1) n)
    ∙ ⊎_elim
    (λ is. λ i. cond (eq-eqb a b is i) 1 0 + none_before b (a + 1) n (omega (arith, is)) i)
    (λ other. λ i. cond (ne_eqb a b other i) 1 0
    + once_between b (a + 1) n (omega (arith, other, low)) (omega (arith, high)) i)
    (cases_eq a b)

-- Each byte stands once among all bytes.
pub once-all_bytes : (b : ℕ) → b < 256 → count_by (λ c. c == b) all_bytes ≡ 1
unfolding all_bytes
once-all_bytes b below = once_between b 0 256 (omega arith) (omega (arith, below))

module _ (V : Type 0) where
  byte_after : (m : Map V) → HasByteKeys m → (s : List ℕ) (b : ℕ) (rest : List ℕ)
      → set.contains (starts m) (s ++ b ∷ rest) ≡ true → b < 256
  byte_after m bytes s b rest is =
      let found = (starts_begin_keys V m (s ++ b ∷ rest)).0 is in
      let whole = begins-rest (s ++ b ∷ rest) found.0 found.1 in
      All-contains (λ b. b < 256) found.0 b (bytes found.0 found.2)
      (subst (λ key. Contains key b) (sym whole.1)
      (Contains-append_left (s ++ b ∷ rest) whole.0 b
      (Contains-append_right s (b ∷ rest) b (Contains-here b rest))))

  pub starts_add_up : StartsAddUp V
  starts_add_up m s bytes =
      strings_under_add_up (starts m) s all_bytes
      (λ b rest is. once-all_bytes b (byte_after m bytes s b rest is))

  pub shared_add_up : SharedAddUp V
  shared_add_up left right s either =
      strings_under_add_up (shared left right) s all_bytes (λ b rest is.
      let both = (shared_are_in_both V left right (s ++ b ∷ rest)).0 is in
      once-all_bytes b (⊎_elim (λ bytes. byte_after left bytes s b rest both.0)
      (λ bytes. byte_after right bytes s b rest both.1) either))

-- A longer string begins no more.
pub len-strings_under-append : (strings : Strings) (s rest : List ℕ)
    → set.len (strings_under strings (s ++ rest)) ≤ set.len (strings_under strings s)
len-strings_under-append strings s rest =
    len-retain-weaker nat_list_cmp_total byte_order-IsAntisymmetric strings (begins (s ++ rest))
    (begins s) (λ k is. begins-shorter s rest k is)

-- The empty string begins every string.
pub under-all : (strings : Strings) → strings_under strings [] ≡ strings
under-all strings =
    set.same_set nat_list_cmp_total byte_order-IsAntisymmetric (strings_under strings []) strings
    (λ q. contains-strings_under strings [] q ∙ and-true (set.contains strings q))

-- A string that goes on with a byte begins no more than the byte does.
pub under-byte : (strings : Strings) (above : List ℕ) (byte : ℕ) (rest : List ℕ)
    → how_many_under strings (above ++ byte ∷ rest)
    ≤ how_many_under strings (with_byte above byte)
under-byte strings above byte rest =
    subst (λ w. how_many_under strings w ≤ how_many_under strings (with_byte above byte))
    (append_assoc above (byte ∷ []) rest)
    (len-strings_under-append strings (with_byte above byte) rest)

-- ---- lists of pairs whose keys begin with strings of a set

pub begins-behind : (p u w : List ℕ) → begins u w ≡ true → begins (p ++ u) (p ++ w) ≡ true
begins-behind [] u w is = is
begins-behind (b ∷ p) u w is =
    and_from (b == b) (begins (p ++ u) (p ++ w)) (eq-eqb b b refl) (begins-behind p u w is)

module _ {V : Type 0} where
  -- each string that begins a key of a list, among all of them
  pub starts-all : (list : List (List ℕ × V))
      → HasStarts (set.from_list (flat_map (λ pair. prefixes_of pair.0) list)) [] list
  starts-all list pair there u is =
      contains-prefix_matches list u
      ∙ (list_any-is (λ pair. begins u pair.0) list).1 (pair, there, is)

  pub starts-behind : (strings : Strings) (above prefix : List ℕ) (list : List (List ℕ × V))
      → HasStarts strings above (map (λ pair. (prefix ++ pair.0, pair.1)) list)
      → HasStarts strings (above ++ prefix) list
  starts-behind strings above prefix list has pair there u is =
      ap (set.contains strings) (append_assoc above prefix u)
      ∙ has (prefix ++ pair.0, pair.1)
      (Contains-map (λ pair. (prefix ++ pair.0, pair.1)) list pair there)
      (prefix ++ u) (begins-behind prefix u pair.0 is)

  module _ (strings : Strings) (above : List ℕ) (front back : List (List ℕ × V))
      (has : HasStarts strings above (front ++ back)) where
    pub starts-front : HasStarts strings above front
    starts-front pair there = has pair (Contains-append_left front back pair there)

    pub starts-back : HasStarts strings above back
    starts-back pair there = has pair (Contains-append_right front back pair there)

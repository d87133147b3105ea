-- Runs of pairs that ascend, and the children that they make.
use Rattle.std.proofs.Common.{◌≡◌, ◌<◌, ◌≤◌, ℕ, zero, suc, ◌+◌, true, false, cond, List, [], ◌∷◌, ◌++◌, length, map, take, drop, refl, sym, ap, subst, ◌∙◌, ⊎_elim, arith}
use Rattle.std.specs.Prelude.{◌==◌, ⊤}
use Rattle.std.specs.Ordering.{is_lt, nat_cmp}
use Rattle.std.specs.FinMap.Entries.{is_sorted, below_all}
use Rattle.std.proofs.lemmas.Bool.{and_parts, and_from, eqb-true, eq-eqb, ne_eqb, false≢true}
use Rattle.std.proofs.lemmas.Bool.Decides.{nat_tests}
use Rattle.std.proofs.lemmas.List.{take-append-drop, length-drop, map-append}
use Rattle.rart_below.specs.Bytes.{begins, byte_order, common_length}
use Rattle.rart_below.specs.Laws.{IsBelow, below_from}
use Rattle.rart_below.proofs.AscendingLemmas.{below_lower}
use Rattle.rart_maps.specs.Order.{IsBefore}
use Rattle.rart_maps.proofs.OrderLemmas.{lt-before}
use Rattle.rart_node.specs.Shape.{Shape, Forest, bare, grown, entries_of, is_full_at, width_for}
use Rattle.rart_node.specs.Trees.{BeginsWith}
use Rattle.rart_ways.specs.Paths.{first_byte}
use Rattle.rart_ways.specs.Runs.{AllBegin, AllLong, EndsBesides, last_key, run_from, runs, shared}

-- ---- strings

first-of : (byte : ℕ) (w : List ℕ) → BeginsWith byte w → first_byte w ≡ byte
first-of byte [] begins = absurd begins
first-of byte (b ∷ w) begins = begins

some-behind : (u w : List ℕ) → IsBefore u w → 0 < length w
some-behind [] [] before = absurd before
some-behind (b ∷ u) [] before = absurd before
some-behind u (c ∷ w) before = omega arith

begins-split : (q k : List ℕ) → begins q k ≡ true → k ≡ q ++ drop (length q) k
begins-split [] k is = refl
begins-split (b ∷ q) [] is = absurd (false≢true is)
begins-split (b ∷ q) (c ∷ k) is =
    let parts = and_parts (b == c) (begins q k) is in
    λ i. sym (eqb-true b c parts.0) i ∷ begins-split q k parts.1 i

between : (q u w k : List ℕ) → IsBefore (q ++ u) k → IsBefore k (q ++ w) → begins q k ≡ true
between [] u w k low high = refl
between (b ∷ q) u w [] low high = absurd low
between (b ∷ q) u w (c ∷ k) low high =
    ⊎_elim
    (λ less. ⊎_elim
    (λ more. absurd (omega (arith, less, more)))
    (λ same. let is = same.0 in absurd (omega (arith, less, is)))
    high)
    (λ same. ⊎_elim
    (λ more. let is = same.0 in absurd (omega (arith, more, is)))
    (λ also. and_from (b == c) (begins q k) (eq-eqb b c same.0) (between q u w k same.1 also.1))
    high)
    low

common-first : (u w : List ℕ) → begins (take (common_length u w) u) u ≡ true
common-first [] w = refl
common-first (b ∷ u) [] = refl
common-first (b ∷ u) (c ∷ w) =
    elim (b == c) as (λ t. begins (take (cond t (suc (common_length u w)) 0) (b ∷ u)) (b ∷ u)
    ≡ true) [
      | true ↦ and_from (b == b) (begins (take (common_length u w) u) u) (eq-eqb b b refl)
          (common-first u w)
      | false ↦ refl
    ]

common-second : (u w : List ℕ) → begins (take (common_length u w) u) w ≡ true
common-second [] w = refl
common-second (b ∷ u) [] = refl
common-second (b ∷ u) (c ∷ w) =
    elim (b == c) as (λ t. (b == c) ≡ t →
    begins (take (cond t (suc (common_length u w)) 0) (b ∷ u)) (c ∷ w) ≡ true) [
      | true ↦ λ is. and_from (b == c) (begins (take (common_length u w) u) w) is
          (common-second u w)
      | false ↦ λ is. refl
    ] refl

-- Behind what two strings have in common they do not go on with the same byte.
common-stops : (byte : ℕ) (u w : List ℕ)
    → BeginsWith byte (drop (length (take (common_length u w) u)) u)
    → BeginsWith byte (drop (length (take (common_length u w) u)) w) → ⊥
common-stops byte [] w first second = first
common-stops byte (b ∷ u) [] first second = second
common-stops byte (b ∷ u) (c ∷ w) first second =
    elim (b == c) as (λ t. (b == c) ≡ t →
    BeginsWith byte (drop (length (take (cond t (suc (common_length u w)) 0) (b ∷ u))) (b ∷ u)) →
    BeginsWith byte (drop (length (take (cond t (suc (common_length u w)) 0) (b ∷ u))) (c ∷ w)) →
    ⊥) [
      | true ↦ λ is first second. common-stops byte u w first second
      | false ↦ λ is first second. false≢true (sym is ∙ eq-eqb b c (first ∙ sym second))
    ] refl first second

common-begins : (byte : ℕ) (u w : List ℕ) → BeginsWith byte u → BeginsWith byte w
    → BeginsWith byte (take (common_length u w) u)
common-begins byte [] w first second = absurd first
common-begins byte (b ∷ u) [] first second = absurd second
common-begins byte (b ∷ u) (c ∷ w) first second =
    subst (λ t. BeginsWith byte (take (cond t (suc (common_length u w)) 0) (b ∷ u)))
    (sym (eq-eqb b c (first ∙ sym second))) first

not-first : (byte : ℕ) (w : List ℕ) → 0 < length w → ¬ BeginsWith byte w
    → (first_byte w == byte) ≡ false
not-first byte [] some apart = absurd (omega (arith, some))
not-first byte (b ∷ w) some apart = ne_eqb b byte apart

begins-first : (w : List ℕ) → 0 < length w → BeginsWith (first_byte w) w
begins-first [] some = absurd (omega (arith, some))
begins-first (b ∷ w) some = refl

-- a node has room for as many children as it was made for
pub not_full : (count total : ℕ) → count < total → is_full_at (width_for total) count ≡ false
not_full count total less = grind (arith, nat_tests)

module _ {V : Type 0} where
  -- Each key has a byte.
  abbrev pub AllSome : List (List ℕ × V) → Type 0
  AllSome [] = ⊤
  AllSome (pair ∷ pairs) = (0 < length pair.0) × AllSome pairs

  -- The string's first byte stands below those of the children.
  abbrev IsUnder : Forest V → List ℕ → Type 0
  IsUnder forest [] = ⊥
  IsUnder forest (b ∷ w) = IsBelow b (entries_of forest)

  abbrev pub AllUnder : Forest V → List (List ℕ × V) → Type 0
  AllUnder forest [] = ⊤
  AllUnder forest (pair ∷ pairs) = IsUnder forest pair.0 × AllUnder forest pairs

  under-some : (forest : Forest V) (w : List ℕ) → IsUnder forest w → 0 < length w
  under-some forest [] under = absurd under
  under-some forest (b ∷ w) under = omega arith

  pub all-some : (forest : Forest V) (l : List (List ℕ × V)) → AllUnder forest l → AllSome l
  all-some forest [] under = tt
  all-some forest (pair ∷ l) under =
      (under-some forest pair.0 under.0, all-some forest l under.1)

  some-under : (forest : Forest V) (w : List ℕ) → forest ≡ bare → 0 < length w → IsUnder forest w
  some-under forest [] none some = absurd (omega (arith, some))
  some-under forest (b ∷ w) none some = ap (λ f. below_all nat_cmp b (entries_of f)) none

  pub under-none : (l : List (List ℕ × V)) → AllSome l → AllUnder bare l
  under-none [] some = tt
  under-none (pair ∷ l) some = (some-under bare pair.0 refl some.0, under-none l some.1)

  pub under-front : (forest : Forest V) (front back : List (List ℕ × V))
      → AllUnder forest (front ++ back) → AllUnder forest front × AllUnder forest back
  under-front forest [] back under = (tt, under)
  under-front forest (pair ∷ front) back under =
      let later = under-front forest front back under.1 in ((under.0, later.0), later.1)

  -- ---- order
  pub sorted-back : (front back : List (List ℕ × V))
      → is_sorted byte_order (front ++ back) ≡ true → is_sorted byte_order back ≡ true
  sorted-back [] back sorted = sorted
  sorted-back (pair ∷ front) back sorted =
      sorted-back front back (and_parts (below_all byte_order pair.0 (front ++ back))
      (is_sorted byte_order (front ++ back)) sorted).1

  below-front : (key : List ℕ) (front back : List (List ℕ × V))
      → below_all byte_order key (front ++ back) ≡ true → below_all byte_order key front ≡ true
  below-front key [] back below = refl
  below-front key (pair ∷ front) back below =
      let parts = and_parts (is_lt (byte_order key pair.0))
      (below_all byte_order key (front ++ back)) below in
      and_from (is_lt (byte_order key pair.0)) (below_all byte_order key front) parts.0
      (below-front key front back parts.1)

  pub sorted-front : (front back : List (List ℕ × V))
      → is_sorted byte_order (front ++ back) ≡ true → is_sorted byte_order front ≡ true
  sorted-front [] back sorted = refl
  sorted-front (pair ∷ front) back sorted =
      let parts = and_parts (below_all byte_order pair.0 (front ++ back))
      (is_sorted byte_order (front ++ back)) sorted in
      and_from (below_all byte_order pair.0 front) (is_sorted byte_order front)
      (below-front pair.0 front back parts.0) (sorted-front front back parts.1)

  -- the first two keys of a list that ascends
  first-two : (p q : List ℕ × V) (l : List (List ℕ × V))
      → is_sorted byte_order (p ∷ q ∷ l) ≡ true → IsBefore p.0 q.0
  first-two p q l sorted =
      let parts = and_parts (below_all byte_order p.0 (q ∷ l)) (is_sorted byte_order (q ∷ l))
      sorted in
      lt-before p.0 q.0
      (and_parts (is_lt (byte_order p.0 q.0)) (below_all byte_order p.0 l) parts.0).0

  pub tail-sorted : (p : List ℕ × V) (l : List (List ℕ × V)) → is_sorted byte_order (p ∷ l) ≡ true
      → is_sorted byte_order l ≡ true
  tail-sorted p l sorted =
      (and_parts (below_all byte_order p.0 l) (is_sorted byte_order l) sorted).1

  -- Behind the first key all have a byte.
  pub some-later : (p : List ℕ × V) (l : List (List ℕ × V)) → is_sorted byte_order (p ∷ l) ≡ true
      → AllSome l
  some-later p [] sorted = tt
  some-later p (q ∷ l) sorted = (
    some-behind p.0 q.0 (first-two p q l sorted),
    some-later q l (tail-sorted p (q ∷ l) sorted),
  )

  before-last : (key : List ℕ) (p : List ℕ × V) (l : List (List ℕ × V))
      → below_all byte_order key (p ∷ l) ≡ true → IsBefore key (last_key p.0 l)
  before-last key p [] below =
      let none : List (List ℕ × V) = [] in
      lt-before key p.0
      (and_parts (is_lt (byte_order key p.0)) (below_all byte_order key none) below).0
  before-last key p (q ∷ l) below =
      before-last key q l
      (and_parts (is_lt (byte_order key p.0)) (below_all byte_order key (q ∷ l)) below).1

  -- ---- what all keys share
  abbrev EachBegins : List ℕ → List (List ℕ × V) → Type 0
  EachBegins q [] = ⊤
  EachBegins q (pair ∷ l) = (begins q pair.0 ≡ true) × EachBegins q l

  second-begins : (q : List ℕ) (p r : List ℕ × V) (l : List (List ℕ × V))
      → begins q p.0 ≡ true → begins q (last_key r.0 l) ≡ true
      → is_sorted byte_order (p ∷ r ∷ l) ≡ true → begins q r.0 ≡ true
  second-begins q p r [] first last sorted = last
  second-begins q p r (s ∷ l) first last sorted =
      let later = tail-sorted p (r ∷ s ∷ l) sorted in
      let high = before-last r.0 s l
      (and_parts (below_all byte_order r.0 (s ∷ l)) (is_sorted byte_order (s ∷ l)) later).0 in
      between q (drop (length q) p.0) (drop (length q) (last_key s.0 l)) r.0
      (subst (λ k. IsBefore k r.0) (begins-split q p.0 first) (first-two p r (s ∷ l) sorted))
      (subst (λ k. IsBefore r.0 k) (begins-split q (last_key s.0 l) last) high)

  all-begin : (q : List ℕ) (p : List ℕ × V) (l : List (List ℕ × V)) → begins q p.0 ≡ true
      → begins q (last_key p.0 l) ≡ true → is_sorted byte_order (p ∷ l) ≡ true
      → EachBegins q (p ∷ l)
  all-begin q p [] first last sorted = (first, tt)
  all-begin q p (r ∷ l) first last sorted = (
    first,
    all-begin q r l (second-begins q p r l first last sorted) last
        (tail-sorted p (r ∷ l) sorted),
  )

  -- keys without their first bytes
  abbrev pub cut : ℕ → List (List ℕ × V) → List (List ℕ × V)
  cut count l = map (λ pair. (drop count pair.0, pair.1)) l

  -- keys behind a prefix
  abbrev pub put_behind : List ℕ → List (List ℕ × V) → List (List ℕ × V)
  put_behind q l = map (λ pair. (q ++ pair.0, pair.1)) l

  behind-each : (q : List ℕ) (l : List (List ℕ × V)) → EachBegins q l
      → put_behind q (cut (length q) l) ≡ l
  behind-each q [] each = refl
  behind-each q (pair ∷ l) each =
      λ i. (sym (begins-split q pair.0 each.0) i, pair.1) ∷ behind-each q l each.1 i

  -- All keys of a list that ascends begin with what its first and its last have in common.
  pub behind-shared : (l : List (List ℕ × V)) → is_sorted byte_order l ≡ true
      → put_behind (shared l) (cut (length (shared l)) l) ≡ l
  behind-shared [] sorted = refl
  behind-shared (p ∷ l) sorted =
      behind-each (shared (p ∷ l)) (p ∷ l)
      (all-begin (shared (p ∷ l)) p l (common-first p.0 (last_key p.0 l))
      (common-second p.0 (last_key p.0 l)) sorted)

  last-cut : (byte count : ℕ) (p : List ℕ × V) (l : List (List ℕ × V))
      → AllBegin byte (cut count (p ∷ l)) → BeginsWith byte (drop count (last_key p.0 l))
  last-cut byte count p [] all = all.0
  last-cut byte count p (q ∷ l) all = last-cut byte count q l all.1

  -- Behind it they do not all go on with the same byte.
  pub shared-stops : (byte : ℕ) (p : List ℕ × V) (l : List (List ℕ × V))
      → AllBegin byte (cut (length (shared (p ∷ l))) (p ∷ l)) → ⊥
  shared-stops byte p l all =
      common-stops byte p.0 (last_key p.0 l) all.0
      (last-cut byte (length (shared (p ∷ l))) p l all)

  last-begins : (byte : ℕ) (p : List ℕ × V) (l : List (List ℕ × V)) → AllBegin byte (p ∷ l)
      → BeginsWith byte (last_key p.0 l)
  last-begins byte p [] all = all.0
  last-begins byte p (q ∷ l) all = last-begins byte q l all.1

  pub shared-begins : (byte : ℕ) (p : List ℕ × V) (l : List (List ℕ × V)) → AllBegin byte (p ∷ l)
      → BeginsWith byte (shared (p ∷ l))
  shared-begins byte p l all =
      common-begins byte p.0 (last_key p.0 l) all.0 (last-begins byte p l all)

  -- ---- how many runs there are
  runs-run : (byte : ℕ) (p : List ℕ × V) (l : List (List ℕ × V)) → AllBegin byte (p ∷ l)
      → runs (p ∷ l) ≡ 1
  runs-run byte p [] all = refl
  runs-run byte p (q ∷ l) all =
      let same = eq-eqb (first_byte p.0) (first_byte q.0)
      (first-of byte p.0 all.0 ∙ sym (first-of byte q.0 all.1.0)) in
      rw (same, runs-run byte q l all.1) refl

  pub runs-split : (byte : ℕ) (front : List (List ℕ × V)) (p : List ℕ × V)
      (l : List (List ℕ × V)) → AllSome front → AllBegin byte (p ∷ l) → EndsBesides byte front
      → runs (front ++ (p ∷ l)) ≡ runs front + 1
  runs-split byte [] p l some all apart = runs-run byte p l all
  runs-split byte (q ∷ []) p l some all apart =
      let other : (first_byte q.0 == first_byte p.0) ≡ false =
      ap (λ b. first_byte q.0 == b) (first-of byte p.0 all.0) ∙ not-first byte q.0 some.0 apart in
      rw (other, runs-run byte p l all) refl
  runs-split byte (q ∷ r ∷ front) p l some all apart =
      let later = runs-split byte (r ∷ front) p l some.1 all apart in omega (arith, later)

  pub runs-some : (p : List ℕ × V) (l : List (List ℕ × V)) → 1 ≤ runs (p ∷ l)
  runs-some p [] = omega arith
  runs-some p (q ∷ l) = let later = runs-some q l in omega (arith, later)

  pub runs-one : (p : List ℕ × V) (l : List (List ℕ × V)) → AllSome (p ∷ l)
      → runs (p ∷ l) ≡ 1 → AllBegin (first_byte p.0) (p ∷ l)
  runs-one p [] some one = (begins-first p.0 some.0, tt)
  runs-one p (q ∷ l) some one =
      elim (first_byte p.0 == first_byte q.0) as (λ t. (first_byte p.0 == first_byte q.0) ≡ t
      → cond t 0 1 + runs (q ∷ l) ≡ 1 → AllBegin (first_byte p.0) (p ∷ q ∷ l)) [
        | true ↦ λ is one. (
          begins-first p.0 some.0,
          subst (λ b. AllBegin b (q ∷ l)) (sym (eqb-true (first_byte p.0) (first_byte q.0) is))
              (runs-one q l some.1 (omega (arith, one))),
        )
        | false ↦ λ is one. let more = runs-some q l in absurd (omega (arith, one, more))
      ] refl one

  -- ---- the last run makes a child below those that are there
  first-less : (forest : Forest V) (byte : ℕ) (u w : List ℕ) → IsUnder forest u
      → BeginsWith byte w → ¬ BeginsWith byte u → IsBefore u w → first_byte u < byte
  first-less forest byte [] w under begins apart before = absurd under
  first-less forest byte (b ∷ u) [] under begins apart before = absurd begins
  first-less forest byte (b ∷ u) (c ∷ w) under begins apart before =
      ⊎_elim (λ less. omega (arith, less, begins)) (λ same. absurd (apart (same.0 ∙ begins))) before

  under-grown : (forest : Forest V) (byte : ℕ) (child : Shape V) (u : List ℕ) → IsUnder forest u
      → IsBelow byte (entries_of forest) → first_byte u < byte → IsUnder (grown byte child forest) u
  under-grown forest byte child [] under below less = absurd under
  under-grown forest byte child (b ∷ u) under below less =
      below_from b (byte, child) (entries_of forest) less
      (below_lower b byte (entries_of forest) (omega (arith, less)) below)

  under-lower : (forest : Forest V) (u w : List ℕ) → 0 < length u → IsUnder forest w
      → IsBefore u w → IsUnder forest u
  under-lower forest [] w some under before = absurd (omega (arith, some))
  under-lower forest (b ∷ u) [] some under before = absurd under
  under-lower forest (b ∷ u) (c ∷ w) some under before =
      below_lower b c (entries_of forest)
      (⊎_elim (λ less. omega (arith, less)) (λ same. let is = same.0 in omega (arith, is)) before)
      under

  pub run-below : (forest : Forest V) (byte : ℕ) (p : List ℕ × V) (l : List (List ℕ × V))
      → AllUnder forest (p ∷ l) → AllBegin byte (p ∷ l) → IsBelow byte (entries_of forest)
  run-below forest byte p l under all = at_first p.0 under.0 all.0
    where
      at_first : (w : List ℕ) → IsUnder forest w → BeginsWith byte w
          → IsBelow byte (entries_of forest)
      at_first [] under begins = absurd under
      at_first (b ∷ w) under begins = subst (λ c. IsBelow c (entries_of forest)) begins under

  pub front-under : (forest : Forest V) (byte : ℕ) (child : Shape V) (front : List (List ℕ × V))
      (p : List ℕ × V) (l : List (List ℕ × V)) → is_sorted byte_order (front ++ (p ∷ l)) ≡ true
      → AllUnder forest (front ++ (p ∷ l)) → AllBegin byte (p ∷ l) → EndsBesides byte front
      → IsBelow byte (entries_of forest) → AllUnder (grown byte child forest) front
  front-under forest byte child [] p l sorted under all apart below = tt
  front-under forest byte child (q ∷ []) p l sorted under all apart below = (
    under-grown forest byte child q.0 under.0 below
        (first-less forest byte q.0 p.0 under.0 all.0 apart (first-two q p l sorted)),
    tt,
  )
  front-under forest byte child (q ∷ r ∷ front) p l sorted under all apart below =
      let later = front-under forest byte child (r ∷ front) p l
      (tail-sorted q (r ∷ (front ++ (p ∷ l))) sorted) under.1 all apart below in (
        under-lower (grown byte child forest) q.0 r.0 (under-some forest q.0 under.0) later.0
            (first-two q r (front ++ (p ∷ l)) sorted),
        later,
      )

-- ---- pairs of a list, from a place on

drop-between : {A : Type 0} (first start : ℕ) (xs : List A) → first ≤ start
    → drop first xs ≡ drop first (take start xs) ++ drop start xs
drop-between zero start xs le = sym (take-append-drop start xs)
drop-between (suc first) zero xs le = absurd (omega (arith, le))
drop-between (suc first) (suc start) [] le = refl
drop-between (suc first) (suc start) (x ∷ xs) le =
    drop-between first start xs (omega (arith, le))

module _ {K V : Type 0} (bytes : K → List ℕ) where
  pub run-split : (first start at : ℕ) (items : List (K × V)) → first ≤ start
      → run_from bytes first at items
      ≡ run_from bytes first at (take start items) ++ run_from bytes start at items
  run-split first start at items le =
      ap (map (λ (pair : K × V). (drop at (bytes pair.0), pair.1)))
      (drop-between first start items le)
      ∙ map-append (λ (pair : K × V). (drop at (bytes pair.0), pair.1))
      (drop first (take start items)) (drop start items)

  long-of : (at : ℕ) (items : List (K × V))
      → AllSome (map (λ (pair : K × V). (drop at (bytes pair.0), pair.1)) items)
      → AllLong bytes (at + 1) items
  long-of at [] some = tt
  long-of at (pair ∷ items) some =
      let here = some.0 in
      let rest = length-drop at (bytes pair.0) in
      (omega (arith, here, rest), long-of at items some.1)

  pub long-under : (forest : Forest V) (first at : ℕ) (items : List (K × V))
      → AllUnder forest (run_from bytes first at items) → AllLong bytes (at + 1) (drop first items)
  long-under forest first at items under =
      long-of at (drop first items) (all-some forest (run_from bytes first at items) under)

  pub long-less : (more less : ℕ) (items : List (K × V)) → less ≤ more → AllLong bytes more items
      → AllLong bytes less items
  long-less more less [] le long = tt
  long-less more less (pair ∷ items) le long =
      let here = long.0 in (omega (arith, here, le), long-less more less items le long.1)

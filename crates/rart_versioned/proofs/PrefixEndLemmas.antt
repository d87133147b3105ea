-- A visit under a prefix that its closure ends at a key: what there is up to that key.
use Rattle.std.proofs.Common.{◌≡◌, ◌⊎◌, ◌+◌, ◌*◌, ◌<◌, ◌≤◌, ◌&&◌, ⊎_elim, inl, inr, ℕ, Bool, true, false, cond, List, [], ◌∷◌, ◌++◌, length, arith, refl, sym, ap, subst, ◌∙◌}
use Rattle.std.specs.Prelude.{◌==◌, Contains, count_by, filter}
use Rattle.std.specs.Ordering.{as_partial_cmp, is_lt}
use Rattle.std.specs.Range.Bound.{bounds_contain}
use Rattle.std.specs.Str.{bytes_eq}
use Rattle.std.specs.declared.ops.Bound.{Bound}
use Rattle.std.specs.declared.ops.Bound.TheVariants.{Included}
use Rattle.std.proofs.lemmas.Bool.{and_parts, and_from, eqb-true, eq-eqb, false≢true}
use Rattle.std.proofs.lemmas.List.Elements.{All-nil, All-cons}
use Rattle.std.proofs.lemmas.List.Sums.{length-filter, sum_by-cons}
use Rattle.std.proofs.lemmas.Slice.Eq.{bytes_eq-Decides}
use Rattle.rart_below.specs.Bytes.{begins, byte_order}
use Rattle.rart_maps.specs.Bounds.{bound_length}
use Rattle.rart_maps.specs.FoundLaws.{KeysAscend}
use Rattle.rart_maps.specs.Order.{IsBefore, IsAtMost}
use Rattle.rart_maps.specs.Pairs.{pairs, under, within}
use Rattle.rart_maps.specs.Versions.{Map}
use Rattle.rart_maps.proofs.ElementLemmas.{Contains-here, Contains-later, AllPairs-first, AllPairs-rest, Contains-filter}
use Rattle.rart_maps.proofs.FoundLemmas.{under_ascends}
use Rattle.rart_maps.proofs.OrderLemmas.{IsBefore-itself, IsBefore-back, before-lt, bounds_contain-is, high-meets}
use Rattle.rart_maps.proofs.RangeLemmas.{is_below, up_to, up_to-first, up_to-past, filter-both}
use Rattle.rart_maps.proofs.PointLemmas.{head_of, tail_of}
use Rattle.rart_node.specs.Counts.{Counts, CountsUpTo}
use Rattle.rart_walks.specs.Ends.{EntersUpTo, MeetUpTo}
use Rattle.rart_versioned.specs.VisitCounts.{EndsSoon}

-- ---- counts

count-step : {A : Type 0} (p : A → Bool) (x : A) (xs : List A) →
    count_by p (x ∷ xs) ≡ cond (p x) 1 0 + count_by p xs
count-step p x xs = sum_by-cons (λ y. cond (p y) 1 0) x xs

one-fewer : (s t : Bool) → (s ≡ true → t ≡ true) → cond s 1 0 ≤ cond t 1 0
one-fewer false t passes = omega arith
one-fewer true t passes = let one = ap {B = ℕ} (λ b. cond b 1 0) (passes refl) in omega (arith, one)

module _ {A : Type 0} (p q : A → Bool) where
  -- What passes one test is no more than what passes another, where each that does so passes that.
  count-fewer : (xs : List A) → ((x : A) → Contains xs x → p x ≡ true → q x ≡ true)
      → count_by p xs ≤ count_by q xs
  count-fewer [] passes = omega arith
  count-fewer (x ∷ xs) passes =
      let here = one-fewer (p x) (q x) (passes x (Contains-here x xs)) in
      let later = count-fewer xs (λ y there. passes y (Contains-later x xs y there)) in
      let left = count-step p x xs in
      let right = count-step q x xs in
      omega (arith, here, later, left, right)

-- ---- paths under a prefix

-- Of nodes under p no more than one is not behind p.
pub behind-prefix : {A : Type 0} (p : List ℕ) (test : List ℕ → Bool) (nodes : List (List ℕ × A))
    → KeysAscend (λ node. node.0) nodes
    → count_by (λ node. begins p node.0 && test node.0) nodes
    ≤ 1 + count_by (λ node. is_lt (byte_order p node.0) && test node.0) nodes
behind-prefix p test [] ascend = omega arith
behind-prefix {A} p test (x ∷ xs) ascend =
    let Before = λ (a b : List ℕ × A). IsBefore a.0 b.0 in
    let under = λ (node : List ℕ × A). begins p node.0 && test node.0 in
    let behind = λ (node : List ℕ × A). is_lt (byte_order p node.0) && test node.0 in
    let left = count-step under x xs in
    let right = count-step behind x xs in
    let later = behind-prefix p test xs (AllPairs-rest Before x xs ascend) in
    let first : cond (under x) 1 0 ≤ 1 = at-most-one (under x) in
    let all : p ≡ x.0 → count_by under xs ≤ count_by behind xs =
    λ same. count-fewer under behind xs (λ y there passes.
    and_from (is_lt (byte_order p y.0)) (test y.0)
    (before-lt p y.0 (subst (λ z. IsBefore z y.0) (sym same)
    (AllPairs-first Before x xs ascend y there)))
    (and_parts (begins p y.0) (test y.0) passes).1) in
    let other : (p ≡ x.0 → ⊥) → cond (under x) 1 0 ≤ cond (behind x) 1 0 =
    λ apart. one-fewer (under x) (behind x) (λ passes.
    let parts = and_parts (begins p x.0) (test x.0) passes in
    and_from (is_lt (byte_order p x.0)) (test x.0)
    (before-lt p x.0 (begins-before p x.0 parts.0 apart)) parts.1) in
    ⊎_elim
    (λ same. let fewer = all same in omega (arith, left, right, first, fewer))
    (λ apart. let fewer = other apart in omega (arith, left, right, later, fewer))
    (same-or-not p x.0)
  where
    at-most-one : (b : Bool) → cond b 1 0 ≤ 1
    at-most-one true = omega arith
    at-most-one false = omega arith

    begins-before : (p w : List ℕ) → begins p w ≡ true → (p ≡ w → ⊥) → IsBefore p w
    begins-before [] [] is apart = absurd (apart refl)
    begins-before [] (c ∷ w) is apart = tt
    begins-before (b ∷ p) [] is apart = absurd (false≢true is)
    begins-before (b ∷ p) (c ∷ w) is apart =
        let parts = and_parts (b == c) (begins p w) is in
        let same = eqb-true b c parts.0 in
        inr (same, begins-before p w parts.1 (λ more. apart (λ i. same i ∷ more i)))

    same-or-not : (u w : List ℕ) → (u ≡ w) ⊎ (u ≡ w → ⊥)
    same-or-not u w =
        elim (bytes_eq u w) as (λ b. bytes_eq u w ≡ b → (u ≡ w) ⊎ (u ≡ w → ⊥)) [
          | true ↦ λ is. inl ((bytes_eq-Decides u w).0 is)
          | false ↦ λ is. inr (λ same. false≢true (sym is ∙ (bytes_eq-Decides u w).1 same))
        ] refl

-- ---- keys up to the one at which it ends

at_most-parts : (b c : ℕ) (u w : List ℕ) → IsAtMost (b ∷ u) (c ∷ w)
    → (b < c) ⊎ ((b ≡ c) × IsAtMost u w)
at_most-parts b c u w most =
    ⊎_elim
    (λ same. inr (ap head_of same, inl (ap tail_of same)))
    (λ before. ⊎_elim inl (λ here. inr (here.0, inr here.1)) before)
    most

-- What stands between a prefix and a string that it begins is under it too.
between-begins : (p k x : List ℕ) → begins p k ≡ true → IsAtMost p x → IsAtMost x k
    → begins p x ≡ true
between-begins [] k x is low high = refl
between-begins (b ∷ p) [] x is low high = absurd (false≢true is)
between-begins (b ∷ p) (c ∷ k) [] is low high =
    absurd (⊎_elim (λ same. let long = ap length same in omega (arith, long)) (λ none. none) low)
between-begins (b ∷ p) (c ∷ k) (d ∷ x) is low high =
    let parts = and_parts (b == c) (begins p k) is in
    let same = eqb-true b c parts.0 in
    ⊎_elim
    (λ less. ⊎_elim
    (λ more. absurd (omega (arith, less, more, same)))
    (λ both. absurd (omega (arith, less, both.0, same)))
    (at_most-parts d c x k high))
    (λ here. ⊎_elim
    (λ more. absurd (omega (arith, here.0, more, same)))
    (λ both. and_from (b == d) (begins p x) (eq-eqb b d here.0)
    (between-begins p k x parts.1 here.1 both.1))
    (at_most-parts d c x k high))
    (at_most-parts b d p x low)

module _ {V : Type 0} where
  contains-middle : (front rest : List (List ℕ × V)) (last : List ℕ × V)
      → Contains (front ++ last ∷ rest) last
  contains-middle [] rest last = Contains-here last rest
  contains-middle (x ∷ front) rest last =
      Contains-later x (front ++ last ∷ rest) last (contains-middle front rest last)

  -- Each key in front of the last one meets that as an upper bound,
  front-meets : (front rest : List (List ℕ × V)) (last : List ℕ × V)
      → KeysAscend (λ pair. pair.0) (front ++ last ∷ rest)
      → MeetUpTo (Included last.0) (front ++ last ∷ [])
  front-meets [] rest last ascend =
      let P = λ (pair : List ℕ × V). is_below (Included last.0) pair.0 ≡ true in
      All-cons P last [] ((high-meets (Included last.0) last.0).1 (inl refl)) (All-nil P)
  front-meets (x ∷ front) rest last ascend =
      let P = λ (pair : List ℕ × V). is_below (Included last.0) pair.0 ≡ true in
      let Before = λ (a b : List ℕ × V). IsBefore a.0 b.0 in
      All-cons P x (front ++ last ∷ [])
      ((high-meets (Included last.0) x.0).1
      (inr (AllPairs-first Before x (front ++ last ∷ rest) ascend last
      (contains-middle front rest last))))
      (front-meets front rest last (AllPairs-rest Before x (front ++ last ∷ rest) ascend))

  none-behind : (rest : List (List ℕ × V)) (last : List ℕ × V)
      → KeysAscend (λ pair. pair.0) (last ∷ rest) → up_to (Included last.0) rest ≡ []
  none-behind [] last ascend = refl
  none-behind (x ∷ rest) last ascend =
      let Before = λ (a b : List ℕ × V). IsBefore a.0 b.0 in
      let later = AllPairs-first Before last (x ∷ rest) ascend x (Contains-here x rest) in
      let past : is_below (Included last.0) x.0 ≡ false =
      elim (is_below (Included last.0) x.0)
      as (λ b. is_below (Included last.0) x.0 ≡ b → b ≡ false) [
        | true ↦ λ is. absurd (⊎_elim
            (λ same. IsBefore-itself last.0 (subst (IsBefore last.0) same later))
            (λ back. IsBefore-back last.0 x.0 later back)
            ((high-meets (Included last.0) x.0).0 is))
        | false ↦ λ is. refl
      ] refl in
      up_to-past (Included last.0) x rest (AllPairs-rest Before last (x ∷ rest) ascend) past

  -- and no key behind it does.
  up_to-last : (front rest : List (List ℕ × V)) (last : List ℕ × V)
      → KeysAscend (λ pair. pair.0) (front ++ last ∷ rest)
      → length (up_to (Included last.0) (front ++ last ∷ rest)) ≤ length front + 1
  up_to-last [] rest last ascend =
      let first = ap length (up_to-first (Included last.0) last rest ascend
      ((high-meets (Included last.0) last.0).1 (inl refl))) in
      let none = ap length (none-behind rest last ascend) in
      omega (arith, first, none)
  up_to-last (x ∷ front) rest last ascend =
      let Before = λ (a b : List ℕ × V). IsBefore a.0 b.0 in
      let list = front ++ last ∷ rest in
      let later = up_to-last front rest last (AllPairs-rest Before x list ascend) in
      let kept = up_to (Included last.0) list in
      let longer : length (up_to (Included last.0) (x ∷ list)) ≤ length front + 1 + 1 =
      one-longer (is_below (Included last.0) x.0) x kept (length front + 1) later in
      omega (arith, longer)
    where
      one-longer : (b : Bool) (x : List ℕ × V) (kept : List (List ℕ × V)) (n : ℕ)
          → length kept ≤ n → length (cond b (x ∷ kept) kept) ≤ n + 1
      one-longer true x kept n most = omega (arith, most)
      one-longer false x kept n most = omega (arith, most)

  module _ (m : Map V) (p : List ℕ) (front rest : List (List ℕ × V)) (last : List ℕ × V)
      (is : under m p ≡ front ++ last ∷ rest) where
    ascends : KeysAscend (λ pair. pair.0) (front ++ last ∷ rest)
    ascends = subst (KeysAscend (λ pair. pair.0)) is (under_ascends V m p)

    last-under : begins p last.0 ≡ true
    last-under =
        ((Contains-filter (λ (pair : List ℕ × V). begins p pair.0) (pairs m) last).0
        (subst (λ list. Contains list last) (sym is) (contains-middle front rest last))).1

    -- From the prefix up to the last key there are no more than the pairs visited.
    few-visited : length (within m (Included p) (Included last.0)) ≤ length front + 1
    few-visited =
        let high = Included last.0 in
        let between = λ (pair : List ℕ × V).
        bounds_contain (as_partial_cmp byte_order) (Included p) high pair.0 in
        let under_to = λ (pair : List ℕ × V). begins p pair.0 && is_below high pair.0 in
        let fewer = count-fewer between under_to (pairs m) (λ pair there passes.
        let meets = (bounds_contain-is (Included p) high pair.0).0 passes in
        and_from (begins p pair.0) (is_below high pair.0)
        (between-begins p last.0 pair.0 last-under meets.0 meets.1)
        ((high-meets high pair.0).1 meets.1)) in
        let left = length-filter between (pairs m) in
        let right = length-filter under_to (pairs m) in
        let both = ap length (filter-both (λ (pair : List ℕ × V). begins p pair.0)
        (λ (pair : List ℕ × V). is_below high pair.0) (pairs m)) in
        let shown = ap (λ list. length (up_to high list)) is in
        let few = up_to-last front rest last ascends in
        omega (arith, fewer, left, right, both, shown, few)

    -- So a visit of a walk under p that ends there has entered few nodes.
    pub ends-soon : (paths : List (List ℕ)) (hand : ℕ) (before way after : Counts)
        → CountsUpTo (length p + 1) 0 before way → before.entered + hand ≤ way.entered
        → ((high : Bound (List ℕ)) → count_by (is_below high) paths
        ≤ bound_length high + 1 + 2 * length (within m (Included p) high))
        → EntersUpTo paths hand way after front last → EndsSoon p before after front last
    ends-soon paths hand before way after down at_hand few enters =
        let visit = enters.at_most (Included last.0) (front-meets front rest last ascends) in
        let most = few (Included last.0) in
        let visited = few-visited in
        let down_grows = down.entered_grows in
        let down_most = down.entered_at_most in
        let down_kept = down.made_grows in
        let down_made = down.made_at_most in
        let visit_grows = visit.entered_grows in
        let visit_most = visit.entered_at_most in
        let visit_kept = visit.made_grows in
        let visit_made = visit.made_at_most in
        let least = enters.at_least in
        record {
          at_most = record {
            entered_grows = omega (arith, down_grows, visit_grows);
            entered_at_most = omega (arith, down_most, visit_most, most, visited);
            made_grows = omega (arith, down_kept, visit_kept);
            made_at_most = omega (arith, down_made, visit_made);
          };
          at_least = omega (arith, least, at_hand);
        }

  -- A visit of a walk over all pairs is one under the prefix that is empty.
  pub ends-soon-of-all : (m : Map V) (front rest : List (List ℕ × V)) (last : List ℕ × V)
      → pairs m ≡ front ++ last ∷ rest
      → (paths : List (List ℕ)) (hand : ℕ) (before way after : Counts)
      → CountsUpTo 1 0 before way → before.entered + hand ≤ way.entered
      → ((high : Bound (List ℕ)) → count_by (is_below high) paths
      ≤ bound_length high + 1 + 2 * length (within m (Included []) high))
      → EntersUpTo paths hand way after front last → EndsSoon [] before after front last
  ends-soon-of-all m front rest last is = ends-soon m [] front rest last (all (pairs m) ∙ is)
    where
      all : (list : List (List ℕ × V)) → filter (λ pair. begins [] pair.0) list ≡ list
      all [] = refl
      all (x ∷ list) = ap (λ rest. x ∷ rest) (all list)

-- What a walk back over a tree goes over and enters, in the words of the version that is shown.
use Rattle.std.proofs.Common.{◌≡◌, ◌+◌, ◌*◌, ◌≤◌, ◌&&◌, ⊎_elim, inl, inr, ℕ, Bool, true, false, cond, List, [], ◌∷◌, ◌++◌, length, filter, reverse, arith, refl, sym, ap, subst, ◌∙◌}
use Rattle.std.specs.Prelude.{All, Contains, count_by, ◌||◌}
use Rattle.std.specs.Ordering.{as_partial_cmp}
use Rattle.std.specs.Range.Bound.{bounds_contain}
use Rattle.std.specs.declared.ops.Bound.{Bound}
use Rattle.std.specs.declared.ops.Bound.TheVariants.{Included, Unbounded}
use Rattle.std.proofs.lemmas.List.{append-nil, append_assoc, length-append, length-reverse, reverse-append, reverse-reverse}
use Rattle.std.proofs.lemmas.List.Elements.{All-push, filter-append}
use Rattle.std.proofs.lemmas.List.Sums.{count_by-le-length, length-filter, sum_by-append, sum_by-cons}
use Rattle.rart_below.specs.Bytes.{begins, byte_order}
use Rattle.rart_maps.specs.FoundLaws.{KeysAscend}
use Rattle.rart_maps.specs.Order.{IsBefore}
use Rattle.rart_maps.specs.Pairs.{pairs, within}
use Rattle.rart_maps.specs.Versions.{Map}
use Rattle.rart_maps.proofs.ElementLemmas.{All-from_contains, AllPairs-first, AllPairs-rest, Contains-here, Contains-later}
use Rattle.rart_maps.proofs.FoundLemmas.{KeysAscend-filter_pairs, pairs_ascend_by_key}
use Rattle.rart_maps.proofs.RangeLemmas.{is_above, is_below, up_to, within-from}
use Rattle.rart_maps.proofs.OrderLemmas.{IsBefore-back, IsBefore-itself, before-longer, begins-rest, bounds_contain-is}
use Rattle.rart_node.specs.Counts.{Counts, CountsUpTo}
use Rattle.rart_walks.specs.OnWay.{EntersOnWay, PassesStarts}
use Rattle.rart_walks.specs.Descending.{KeysDescend, leads_from, pairs_down_to}
use Rattle.rart_walks.proofs.DescendLemmas.{All-reverse, ascending-descends, leads-to}
use Rattle.rart_versioned.specs.VisitCounts.{EndsSoon}

module _ {X : Type 0} where
  -- ---- a list the other way round
  reverse-first : (x : X) (xs : List X) → reverse (x ∷ xs) ≡ reverse xs ++ x ∷ []
  reverse-first x xs = reverse-append (x ∷ []) xs

  pub filter-reverse : (test : X → Bool) (xs : List X)
      → filter test (reverse xs) ≡ reverse (filter test xs)
  filter-reverse test [] = refl
  filter-reverse test (x ∷ xs) =
      ap (filter test) (reverse-first x xs)
      ∙ filter-append test (reverse xs) (x ∷ [])
      ∙ ap (λ front. front ++ filter test (x ∷ [])) (filter-reverse test xs)
      ∙ last (test x)
    where
      last : (t : Bool) → reverse (filter test xs) ++ cond t (x ∷ []) []
          ≡ reverse (cond t (x ∷ filter test xs) (filter test xs))
      last true = sym (reverse-first x (filter test xs))
      last false = append-nil (reverse (filter test xs))

-- ---- the nodes that lead to keys from a string on

-- In an ascending list those that begin a string have different lengths, none above its own.
begun-few : {A : Type 0} (key : List ℕ) (least : ℕ) (nodes : List (List ℕ × A))
    → KeysAscend (λ node. node.0) nodes
    → ((node : List ℕ × A) → Contains nodes node → begins node.0 key ≡ true
    → least ≤ length node.0) → least ≤ length key + 1
    → count_by (λ node. begins node.0 key) nodes + least ≤ length key + 1
begun-few key least [] ascend long most = omega (arith, most)
begun-few {A} key least (x ∷ nodes) ascend long most =
    let Before = λ (a b : List ℕ × A). IsBefore a.0 b.0 in
    let test = λ (node : List ℕ × A). begins node.0 key in
    let rest = AllPairs-rest Before x nodes ascend in
    let count = sum_by-cons (λ node. cond (test node) 1 0) x nodes in
    elim (begins x.0 key) as (λ t. begins x.0 key ≡ t
    → count_by test (x ∷ nodes) + least ≤ length key + 1) [
      | true ↦ λ is.
          let here = long x (Contains-here x nodes) is in
          let more = begins-rest x.0 key is in
          let fits = ap length more.1 ∙ length-append x.0 more.0 in
          let one : cond (begins x.0 key) 1 0 ≡ 1 = ap {B = ℕ} (λ t. cond t 1 0) is in
          let later = begun-few key (length x.0 + 1) nodes rest
          (λ node there begun.
          let longer = before-longer x.0 node.0 key is begun
          (AllPairs-first Before x nodes ascend node there) in
          omega (arith, longer)) (omega (arith, fits)) in
          omega (arith, here, count, one, later)
      | false ↦ λ is.
          let none : cond (begins x.0 key) 1 0 ≡ 0 = ap {B = ℕ} (λ t. cond t 1 0) is in
          let later = begun-few key least nodes rest
          (λ node there begun. long node (Contains-later x nodes node there) begun) most in
          omega (arith, count, none, later)
    ] refl

pub begun-counted : {A : Type 0} (key : List ℕ) (nodes : List (List ℕ × A))
    → KeysAscend (λ node. node.0) nodes
    → count_by (λ node. begins node.0 key) nodes ≤ length key + 1
begun-counted key nodes ascend =
    let few = begun-few key 0 nodes ascend (λ node there begun. omega arith) (omega arith) in
    omega (arith, few)

either-one : (s t : Bool) → cond (s || t) 1 0 ≤ cond s 1 0 + cond (t && true) 1 0
either-one true t = omega arith
either-one false true = omega arith
either-one false false = omega arith

-- Those that pass either test are no more than those that pass the one, and the other.
pub either-counted : (test other : List ℕ → Bool) (paths : List (List ℕ))
    → count_by (λ path. test path || other path) paths
    ≤ count_by test paths + count_by (λ path. other path && true) paths
either-counted test other [] = omega arith
either-counted test other (path ∷ paths) =
    let later = either-counted test other paths in
    let here = either-one (test path) (other path) in
    let both = sum_by-cons (λ path. cond (test path || other path) 1 0) path paths in
    let left = sum_by-cons (λ path. cond (test path) 1 0) path paths in
    let right = sum_by-cons (λ path. cond (other path && true) 1 0) path paths in
    omega (arith, later, here, both, left, right)

-- ---- a visit back that its closure ends at a key

module _ {V : Type 0} where
  tail-ascends : (front back : List (List ℕ × V)) → KeysAscend (λ pair. pair.0) (front ++ back)
      → KeysAscend (λ pair. pair.0) back
  tail-ascends [] back ascend = ascend
  tail-ascends (x ∷ front) back ascend =
      tail-ascends front back (AllPairs-rest (λ a b. IsBefore a.0 b.0) x (front ++ back) ascend)

  contains-middle : (front back : List (List ℕ × V)) (x : List ℕ × V)
      → Contains (front ++ x ∷ back) x
  contains-middle [] back x = Contains-here x back
  contains-middle (y ∷ front) back x =
      Contains-later y (front ++ x ∷ back) x (contains-middle front back x)

  none-before : (front back : List (List ℕ × V)) (x : List ℕ × V) (test : List ℕ × V → Bool)
      → KeysAscend (λ pair. pair.0) (front ++ x ∷ back)
      → ((pair : List ℕ × V) → IsBefore pair.0 x.0 → test pair ≡ false)
      → count_by test front ≡ 0
  none-before [] back x test ascend fails = refl
  none-before (y ∷ front) back x test ascend fails =
      let Before = λ (a b : List ℕ × V). IsBefore a.0 b.0 in
      let list = front ++ x ∷ back in
      let later = none-before front back x test (AllPairs-rest Before y list ascend) fails in
      let here : cond (test y) 1 0 ≡ 0 = ap {B = ℕ} (λ t. cond t 1 0)
      (fails y (AllPairs-first Before y list ascend x (contains-middle front back x))) in
      let count = sum_by-cons (λ pair. cond (test pair) 1 0) y front in
      omega (arith, later, here, count)

  module _ (m : Map V) (front rest : List (List ℕ × V)) (last : List ℕ × V)
      (is : reverse (pairs m) ≡ front ++ last ∷ rest) where
    ascending : pairs m ≡ reverse rest ++ last ∷ reverse front
    ascending =
        sym (reverse-reverse (pairs m)) ∙ ap reverse is
        ∙ reverse-append front (last ∷ rest)
        ∙ ap (λ z. z ++ reverse front) (reverse-append (last ∷ []) rest)
        ∙ append_assoc (reverse rest) (last ∷ []) (reverse front)

    ascends : KeysAscend (λ pair. pair.0) (reverse rest ++ last ∷ reverse front)
    ascends = subst (KeysAscend (λ pair. pair.0)) ascending (pairs_ascend_by_key V m)

    -- from the last key on there are no more than the pairs visited
    few-visited : length (within m (Included last.0) Unbounded) ≤ length front + 1
    few-visited =
        let test = λ (pair : List ℕ × V).
        bounds_contain (as_partial_cmp byte_order) (Included last.0) Unbounded pair.0 in
        let long = length-filter test (pairs m) ∙ ap (count_by test) ascending
        ∙ sum_by-append (λ pair. cond (test pair) 1 0) (reverse rest) (last ∷ reverse front) in
        let none = none-before (reverse rest) (reverse front) last test ascends
        (λ pair before. fails pair before) in
        let most = count_by-le-length test (last ∷ reverse front) in
        let same = length-reverse front in
        omega (arith, long, none, most, same)
      where
        fails : (pair : List ℕ × V) → IsBefore pair.0 last.0
            → bounds_contain (as_partial_cmp byte_order) (Included last.0) Unbounded pair.0 ≡ false
        fails pair before =
            elim (bounds_contain (as_partial_cmp byte_order) (Included last.0) Unbounded pair.0)
            as (λ t. bounds_contain (as_partial_cmp byte_order) (Included last.0) Unbounded pair.0
            ≡ t → t ≡ false) [
              | true ↦ λ meets.
                  absurd (⊎_elim
                  (λ same. IsBefore-itself pair.0 (subst (IsBefore pair.0) same before))
                  (λ back. IsBefore-back pair.0 last.0 before back)
                  ((bounds_contain-is (Included last.0) Unbounded pair.0).0 meets).0)
              | false ↦ λ _. refl
            ] refl

    -- each of which leads from there
    front-leads : PassesStarts (leads_from last.0) (front ++ last ∷ [])
    front-leads =
        let Before = λ (a b : List ℕ × V). IsBefore a.0 b.0 in
        let tail = tail-ascends (reverse rest) (last ∷ reverse front) ascends in
        let later = λ (pair : List ℕ × V). λ (there : Contains (reverse front) pair).
        AllPairs-first Before last (reverse front) tail pair there in
        let P = λ (pair : List ℕ × V). (u : List ℕ) → begins u pair.0 ≡ true
        → leads_from last.0 u ≡ true in
        let each : All P (reverse front) = All-from_contains P (reverse front)
        (λ pair there u begun. leads-to last.0 u pair.0 (inr (later pair there)) begun) in
        All-push P front last (subst (All P) (reverse-reverse front)
        (All-reverse P (reverse front) each))
        (λ u begun. leads-to last.0 u last.0 (inl refl) begun)

    -- So a visit of a walk over all that ends there has entered few nodes.
    pub ends-soon-back : (paths : List (List ℕ)) (hand : ℕ) (before way after : Counts)
        → CountsUpTo 1 0 before way → before.entered + hand ≤ way.entered
        → ((key : List ℕ) → count_by (leads_from key) paths
        ≤ length key + 1 + 2 * length (within m (Included key) Unbounded))
        → EntersOnWay paths hand way after front last → EndsSoon [] before after front last
    ends-soon-back paths hand before way after down at_hand few enters =
        let visit = enters.at_most (leads_from last.0) front-leads in
        let most = few last.0 in
        let visited = few-visited in
        let down_grows = down.entered_grows in
        let down_most = down.entered_at_most in
        let down_kept = down.made_grows in
        let down_made = down.made_at_most in
        let visit_grows = visit.entered_grows in
        let visit_most = visit.entered_at_most in
        let visit_kept = visit.made_grows in
        let visit_made = visit.made_at_most in
        let least = enters.at_least in
        record {
          at_most = record {
            entered_grows = omega (arith, down_grows, visit_grows);
            entered_at_most = omega (arith, down_most, visit_most, most, visited);
            made_grows = omega (arith, down_kept, visit_kept);
            made_at_most = omega (arith, down_made, visit_made);
          };
          at_least = omega (arith, least, at_hand);
        }

-- ---- the pairs within two bounds, from the last to the first
filter-swap : {A : Type 0} (p q : A → Bool) (xs : List A)
    → filter p (filter q xs) ≡ filter q (filter p xs)
filter-swap p q [] = refl
filter-swap p q (x ∷ xs) =
    elim (p x) as (λ s. p x ≡ s → filter p (cond (q x) (x ∷ filter q xs) (filter q xs))
    ≡ filter q (cond s (x ∷ filter p xs) (filter p xs))) [
      | true ↦ λ is. elim (q x) as (λ t. filter p (cond t (x ∷ filter q xs) (filter q xs))
          ≡ cond t (x ∷ filter q (filter p xs)) (filter q (filter p xs))) [
            | true ↦ ap (λ t. cond t (x ∷ filter p (filter q xs)) (filter p (filter q xs))) is
                ∙ ap (λ rest. x ∷ rest) (filter-swap p q xs)
            | false ↦ filter-swap p q xs
          ]
      | false ↦ λ is. elim (q x) as (λ t. filter p (cond t (x ∷ filter q xs) (filter q xs))
          ≡ filter q (filter p xs)) [
            | true ↦ ap (λ t. cond t (x ∷ filter p (filter q xs)) (filter p (filter q xs))) is
                ∙ filter-swap p q xs
            | false ↦ filter-swap p q xs
          ]
    ] refl

module _ {V : Type 0} (m : Map V) (low high : Bound (List ℕ)) where
  pub within-back : pairs_down_to low (reverse (up_to high (pairs m))) ≡ reverse (within m low high)
  within-back =
      filter-reverse (λ pair. is_above low pair.0) (up_to high (pairs m))
      ∙ ap reverse (filter-swap (λ pair. is_above low pair.0) (λ pair. is_below high pair.0)
      (pairs m) ∙ sym (within-from m low high))

  pub to-descends : KeysDescend (reverse (up_to high (pairs m)))
  to-descends =
      ascending-descends (up_to high (pairs m)) (KeysAscend-filter_pairs (is_below high) m)

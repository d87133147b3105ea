-- Which pairs stand in what is read off maps.
use Rattle.std.proofs.Common.{◌≡◌, ◌↔◌, ℕ, Bool, true, List, [], ◌∷◌, refl, sym, ap, subst, ◌∙◌, ⊎_elim, arith}
use Rattle.std.specs.Prelude.{Option, Some, None, Contains, filter}
use Rattle.std.specs.List.{filter_map, cons_option}
use Rattle.std.specs.Option.{option_map, unwrap_or, is_some}
use Rattle.std.specs.Ordering.{as_partial_cmp}
use Rattle.std.specs.Cmp.Lexicographic.{nat_list_cmp_total}
use Rattle.std.specs.Range.Bound.{bounds_contain}
use Rattle.std.specs.FinMap as finite
use Rattle.std.specs.FinMap.Entries.{is_sorted, below_all}
use Rattle.std.proofs.lemmas.Bool.{and_parts, false≢true}
use Rattle.std.proofs.lemmas.List.Kept.{AllPairs-cons, AllPairs-filter}
use Rattle.rart_below.specs.Bytes.{byte_order, begins}
use Rattle.rart_maps.specs.Versions.{Map}
use Rattle.rart_maps.specs.Pairs.{pairs, common}
use Rattle.rart_maps.specs.Order.{IsBefore}
use Rattle.rart_maps.specs.FoundLaws.{PairsAscendByKey, WithinAscends, UnderAscends, PrefixMatchesAscend, PairsAreFound, WithinIsFound, UnderIsFound, PrefixMatchesAreFound, CommonIsFound, CommonAscends, KeysAscend, AscendingListsAreFixed}
use Rattle.rart_maps.proofs.ElementLemmas.{Contains-nil, Contains-here, Contains-later, Contains-cases, All-from_contains, AllPairs-first, AllPairs-rest, Contains-filter, Contains-filter_map, Contains-entries, below-contains}
use Rattle.rart_maps.proofs.PairLawLemmas.{pairs_ascend}
use Rattle.rart_maps.proofs.OrderLemmas.{byte_order-IsAntisymmetric, bounds_contain-is, lt-before, IsBefore-itself, IsBefore-back}

module _ {V : Type 0} where
  pub Contains-pairs : (m : Map V) (key : List ℕ) (x : V) → Contains (pairs m) (key, x)
      ↔ (finite.get m key ≡ Some x)
  Contains-pairs m key x = Contains-entries nat_list_cmp_total byte_order-IsAntisymmetric m key x

  -- A filter of the pairs by a test of keys contains a pair exactly where the key passes and the
  -- map has the value there.
  pub Contains-filter_pairs : (p : List ℕ → Bool) (m : Map V) (key : List ℕ) (x : V)
      → Contains (filter (λ pair. p pair.0) (pairs m)) (key, x)
      ↔ ((p key ≡ true) × (finite.get m key ≡ Some x))
  Contains-filter_pairs p m key x =
      let kept = Contains-filter (λ pair. p pair.0) (pairs m) (key, x) in
      let there = Contains-pairs m key x in (
        λ found. ((kept.0 found).1, there.0 (kept.0 found).0),
        λ both. kept.1 (there.1 both.1, both.0),
      )

  -- Of entries in order the keys ascend strictly.
  pub KeysAscend-sorted : (entries : List (List ℕ × V)) → is_sorted byte_order entries ≡ true
      → KeysAscend (λ entry. entry.0) entries
  KeysAscend-sorted [] sorted = λ i j d less below. absurd (omega (arith, below))
  KeysAscend-sorted (pair ∷ rest) sorted =
      let parts = and_parts (below_all byte_order pair.0 rest) (is_sorted byte_order rest) sorted in
      AllPairs-cons (λ a b. IsBefore a.0 b.0) pair rest
      (All-from_contains (λ e. IsBefore pair.0 e.0) rest
      (λ entry there. lt-before pair.0 entry.0
      (below-contains nat_list_cmp_total byte_order-IsAntisymmetric pair.0 rest parts.0 entry
      there)))
      (KeysAscend-sorted rest parts.1)

  -- A filter of the pairs ascends too.
  pub KeysAscend-filter_pairs : (p : List ℕ → Bool) (m : Map V)
      → KeysAscend (λ pair. pair.0) (filter (λ pair. p pair.0) (pairs m))
  KeysAscend-filter_pairs p m =
      AllPairs-filter (λ a b. IsBefore a.0 b.0) (λ pair. p pair.0) (pairs m)
      (KeysAscend-sorted (pairs m) (pairs_ascend V m))

  -- what `common` makes of a pair, by the other map's values
  abbrev joined : (List ℕ → Option V) → List ℕ × V → Option (List ℕ × V × V)
  joined other pair = option_map (λ x. (pair.0, pair.1, x)) (other pair.0)

  joined-is : (other : List ℕ → Option V) (pair : List ℕ × V) (entry : List ℕ × V × V)
      → joined other pair ≡ Some entry → (pair.0 ≡ entry.0) × (pair.1 ≡ entry.1)
      × (other pair.0 ≡ Some entry.2)
  joined-is other pair entry is =
      elim (other pair.0) as (λ o. option_map (λ x. (pair.0, pair.1, x)) o ≡ Some entry
      → (pair.0 ≡ entry.0) × (pair.1 ≡ entry.1) × (o ≡ Some entry.2)) [
        | None ↦ λ is. absurd (false≢true (ap is_some is))
        | Some x ↦ λ is.
            let whole : ◌≡◌ {A = List ℕ × V × V} (pair.0, pair.1, x) entry =
            ap (λ o. unwrap_or o (pair.0, pair.1, x)) is in
            (ap (λ e. e.0) whole, ap (λ e. e.1) whole, ap (λ e. Some e.2) whole)
      ] is

  common-from : (left right : Map V) (key : List ℕ) (x y : V)
      → Contains (common left right) (key, x, y) → (finite.get left key ≡ Some x)
      × (finite.get right key ≡ Some y)
  common-from left right key x y there =
      let found =
      (Contains-filter_map (joined (finite.get right)) (pairs left) (key, x, y)).0 there in
      let parts = joined-is (finite.get right) found.0 (key, x, y) found.2 in (
        (Contains-pairs left key x).0
            (subst (Contains (pairs left)) (λ i. (parts.0 i, parts.1 i)) found.1),
        ap (finite.get right) (sym parts.0) ∙ parts.2,
      )

  common-to : (left right : Map V) (key : List ℕ) (x y : V) → finite.get left key ≡ Some x
      → finite.get right key ≡ Some y → Contains (common left right) (key, x, y)
  common-to left right key x y here there =
      (Contains-filter_map (joined (finite.get right)) (pairs left) (key, x, y)).1
      ((key, x), (Contains-pairs left key x).1 here, ap (option_map (λ z. (key, x, z))) there)

  joined-ascends : (other : List ℕ → Option V) (entries : List (List ℕ × V))
      → is_sorted byte_order entries ≡ true
      → KeysAscend (λ entry. entry.0) (filter_map (joined other) entries)
  joined-ascends other [] sorted = λ i j d less below. absurd (omega (arith, below))
  joined-ascends other (pair ∷ rest) sorted =
      let parts = and_parts (below_all byte_order pair.0 rest) (is_sorted byte_order rest) sorted in
      let more = joined-ascends other rest parts.1 in
      elim (other pair.0) as (λ o. KeysAscend (λ (entry : List ℕ × V × V). entry.0)
      (cons_option (option_map (λ x. (pair.0, pair.1, x)) o) (filter_map (joined other) rest))) [
        | None ↦ more
        | Some x ↦ AllPairs-cons (λ a b. IsBefore a.0 b.0) (pair.0, pair.1, x)
            (filter_map (joined other) rest)
            (All-from_contains (λ e. IsBefore pair.0 e.0) (filter_map (joined other) rest)
            (λ entry there.
            let found = (Contains-filter_map (joined other) rest entry).0 there in
            subst (IsBefore pair.0) (joined-is other found.0 entry found.2).0
            (lt-before pair.0 found.0.0 (below-contains nat_list_cmp_total
            byte_order-IsAntisymmetric pair.0 rest parts.0 found.0 found.1))))
            more
      ]

module _ (V : Type 0) where
  pub pairs_ascend_by_key : PairsAscendByKey V
  pairs_ascend_by_key m = KeysAscend-sorted (pairs m) (pairs_ascend V m)

  pub within_ascends : WithinAscends V
  within_ascends m low high =
      KeysAscend-filter_pairs (bounds_contain (as_partial_cmp byte_order) low high) m

  pub under_ascends : UnderAscends V
  under_ascends m p = KeysAscend-filter_pairs (begins p) m

  pub prefix_matches_ascend : PrefixMatchesAscend V
  prefix_matches_ascend m w = KeysAscend-filter_pairs (λ key. begins key w) m

  pub pairs_are_found : PairsAreFound V
  pairs_are_found m key x = Contains-pairs m key x

  pub within_is_found : WithinIsFound V
  within_is_found m low high key x =
      let kept =
      Contains-filter_pairs (bounds_contain (as_partial_cmp byte_order) low high) m key x in
      let meets = bounds_contain-is low high key in (
        λ there. let both = kept.0 there in
            ((meets.0 both.0).0, (meets.0 both.0).1, both.1),
        λ all. kept.1 (meets.1 (all.0, all.1), all.2),
      )

  pub under_is_found : UnderIsFound V
  under_is_found m p key x = Contains-filter_pairs (begins p) m key x

  pub prefix_matches_are_found : PrefixMatchesAreFound V
  prefix_matches_are_found m w key x = Contains-filter_pairs (λ k. begins k w) m key x

  pub common_is_found : CommonIsFound V
  common_is_found left right key x y =
      (common-from left right key x y, λ both. common-to left right key x y both.0 both.1)

  pub common_ascends : CommonAscends V
  common_ascends left right = joined-ascends (finite.get right) (pairs left) (pairs_ascend V left)

module _ (A : Type 0) where
  -- the first of two lists with the same elements
  first_same : (key : A → List ℕ) (x y : A) (xs ys : List A) → KeysAscend key (x ∷ xs)
      → KeysAscend key (y ∷ ys) → Contains (y ∷ ys) x → Contains (x ∷ xs) y → x ≡ y
  first_same key x y xs ys ascends also x_there y_there =
      ⊎_elim
      (λ is. sym is)
      (λ x_later. ⊎_elim
      (λ is. is)
      (λ y_later. absurd (IsBefore-back (key y) (key x)
      (AllPairs-first (λ a b. IsBefore (key a) (key b)) y ys also x x_later)
      (AllPairs-first (λ a b. IsBefore (key a) (key b)) x xs ascends y y_later)))
      (Contains-cases x xs y y_there))
      (Contains-cases y ys x x_there)

  -- what stands in the rest of the one stands in the rest of the other
  rest_same : (key : A → List ℕ) (x y : A) (xs ys : List A) → KeysAscend key (x ∷ xs) → x ≡ y
      → (z : A) → (Contains (x ∷ xs) z → Contains (y ∷ ys) z) → Contains xs z → Contains ys z
  rest_same key x y xs ys ascends same z into there =
      ⊎_elim
      (λ is. absurd (IsBefore-itself (key z)
      (subst (λ a. IsBefore (key a) (key z)) (same ∙ is)
      (AllPairs-first (λ a b. IsBefore (key a) (key b)) x xs ascends z there))))
      (λ later. later)
      (Contains-cases y ys z (into (Contains-later x xs z there)))

  pub ascending_lists_are_fixed : AscendingListsAreFixed A
  ascending_lists_are_fixed key [] [] ascends also same = refl
  ascending_lists_are_fixed key [] (y ∷ ys) ascends also same =
      absurd (Contains-nil y ((same y).1 (Contains-here y ys)))
  ascending_lists_are_fixed key (x ∷ xs) [] ascends also same =
      absurd (Contains-nil x ((same x).0 (Contains-here x xs)))
  ascending_lists_are_fixed key (x ∷ xs) (y ∷ ys) ascends also same =
      let first =
      first_same key x y xs ys ascends also ((same x).0 (Contains-here x xs))
      ((same y).1 (Contains-here y ys)) in
      let rest =
      ascending_lists_are_fixed key xs ys
      (AllPairs-rest (λ a b. IsBefore (key a) (key b)) x xs ascends)
      (AllPairs-rest (λ a b. IsBefore (key a) (key b)) y ys also)
      (λ z. (
        rest_same key x y xs ys ascends first z (same z).0,
        rest_same key y x ys xs also (sym first) z (same z).1,
      )) in
      λ i. first i ∷ rest i

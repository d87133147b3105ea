-- The part of a map that another one lacks or has too: what it answers, and that a visit of what
-- differs or is in common meets its pairs.
use Rattle.std.proofs.Common.{◌≡◌, ◌∙◌, ◌≤◌, ℕ, Bool, true, false, cond, not, List, [], ◌∷◌, ◌++◌, Option, Some, None, IsTrue, Contains, ap, get_or, unwrap_or, append-nil, append_assoc, arith, filter, filter_map, is_some, length, option_map, refl, subst, sym}
use Rattle.std.proofs.lemmas.Bool.{false≢true}
use Rattle.std.proofs.lemmas.List.{length-map}
use Rattle.std.proofs.lemmas.List.Sums.{count_by-le-length, length-filter}
use Rattle.std.proofs.lemmas.Option.{get_or_from_slice_get, slice_get-map, slice_get_within}
use Rattle.std.specs.FinMap as finite
use Rattle.std.specs.Fn.{Mut}
use Rattle.std.specs.List.{cons_option}
use Rattle.rart_below.specs.Plain.{by_bytes}
use Rattle.std.specs.Prelude.{IfOk, Result, Ok, Err}
use Rattle.rart_c.specs.Trees.{Tree, of_content}
use Rattle.rart_c.specs.Differences.{ArePairsOf, by_key, DifferenceIsOfPairs, IntersectionIsOfKeys, difference, intersection, pair_at}
use Rattle.rart_maps.proofs.ChangeLemmas.{KeysAscend-kept, changes-ascend, changes-from, changes-to}
use Rattle.rart_maps.proofs.ElementLemmas.{Contains-filter_map}
use Rattle.rart_maps.proofs.FoundLemmas.{Contains-filter_pairs, Contains-pairs, KeysAscend-filter_pairs, ascending_lists_are_fixed, common_ascends, common_is_found, pairs_ascend_by_key}
use Rattle.rart_maps.proofs.OrderLemmas.{byte_order-IsAntisymmetric}
use Rattle.rart_maps.specs.ChangeLaws.{Decides}
use Rattle.rart_maps.specs.ChangeLists.{Change, changes, differ}
use Rattle.rart_maps.specs.Disorders.{IsDisorderAt}
use Rattle.rart_maps.specs.FoundLaws.{KeysAscend}
use Rattle.rart_maps.specs.Order.{IsBefore}
use Rattle.rart_maps.specs.Pairs.{common, pairs}
use Rattle.rart_maps.specs.Versions.{Map}
use Rattle.rart_maps.specs.Visits.{Answers, CalledOn}
use Rattle.rart_versioned.specs.declared.VectorKey.{VectorKey}

-- ---- the pairs of a map whose keys pass a test
module _ {V : Type 0} where
  chosen-some : (t : Bool) (o : Option V) (x : V) → cond t o None ≡ Some x
      → (t ≡ true) × (o ≡ Some x)
  chosen-some true o x is = (refl, is)
  chosen-some false o x is = absurd (false≢true (ap is_some is))

  module _ (m : Map V) (test : List ℕ → Bool) where
    abbrev kept : Map V
    kept = finite.retain_keys m test

    get-kept : (q : List ℕ) → finite.get kept q ≡ cond (test q) (finite.get m q) None
    get-kept q =
        finite.get-retain_keys m test q
        (λ x tied. ap test (sym (byte_order-IsAntisymmetric q x tied)))

    kept-from : (q : List ℕ) (x : V) → finite.get kept q ≡ Some x
        → (test q ≡ true) × (finite.get m q ≡ Some x)
    kept-from q x is = chosen-some (test q) (finite.get m q) x (sym (get-kept q) ∙ is)

    kept-to : (q : List ℕ) (x : V) → test q ≡ true → finite.get m q ≡ Some x
        → finite.get kept q ≡ Some x
    kept-to q x passes is = get-kept q ∙ ap (λ t. cond t (finite.get m q) None) passes ∙ is

    kept-pairs : pairs kept ≡ filter (λ pair. test pair.0) (pairs m)
    kept-pairs =
        ascending_lists_are_fixed (List ℕ × V) (λ pair. pair.0) (pairs kept)
        (filter (λ pair. test pair.0) (pairs m)) (pairs_ascend_by_key V kept)
        (KeysAscend-filter_pairs test m) (λ pair.
        let here = Contains-pairs kept pair.0 pair.1 in
        let there = Contains-filter_pairs test m pair.0 pair.1 in (
          λ found. there.1 (kept-from pair.0 pair.1 (here.0 found)),
          λ found. let both = there.0 found in here.1 (kept-to pair.0 pair.1 both.0 both.1),
        ))

    kept-few : length (pairs kept) ≤ finite.len m
    kept-few =
        let few = count_by-le-length (λ (pair : List ℕ × V). test pair.0) (pairs m) in
        let many = ap length kept-pairs ∙ length-filter (λ (pair : List ℕ × V). test pair.0)
        (pairs m) in
        let all = finite.len-entries m in
        omega (arith, few, many, all)

    still : (t : Bool) (o : Option V) → is_some (cond t o None) ≡ true → is_some o ≡ true
    still true o some = some
    still false o some = absurd (false≢true some)

    kept-key : (q : List ℕ) → IsTrue (finite.contains_key kept q)
        → IsTrue (finite.contains_key m q)
    kept-key q there = still (test q) (finite.get m q) (sym (ap is_some (get-kept q)) ∙ there)

  -- ---- a table of such pairs
  module _ (m : Map V) (list : List (List ℕ × V)) (of : ArePairsOf m list) where
    pub few-pairs : length list ≤ finite.len m
    few-pairs = subst (λ xs. length xs ≤ finite.len m) (sym of.1) (kept-few m of.0)

    ascend : KeysAscend (λ pair. pair.0) list
    ascend =
        subst (KeysAscend (λ pair. pair.0)) (sym of.1)
        (pairs_ascend_by_key V (finite.retain_keys m of.0))

    -- In the list the key at a place stands behind the one before it.
    pub no-disorder : {K : Type 0} (bytes : K → List ℕ) (items : List (K × V)) (at : ℕ)
        → list ≡ by_bytes bytes items → IsDisorderAt bytes at items → ⊥
    no-disorder {K} bytes items at is disorder =
        let before = disorder.0 in
        let shown : K × V → List ℕ × V = λ pair. (bytes pair.0, pair.1) in
        let first = slice_get-map shown items before ∙ ap (option_map shown) disorder.4 in
        let second = slice_get-map shown items at ∙ ap (option_map shown) disorder.5 in
        let d = shown disorder.1 in
        let within = slice_get_within (by_bytes bytes items) at (shown disorder.2) second in
        let place = disorder.3 in
        disorder.6
        (subst (λ pair. IsBefore pair.0 (bytes disorder.2.0))
        (get_or_from_slice_get (by_bytes bytes items) before d d first)
        (subst (λ pair. IsBefore (get_or (by_bytes bytes items) before d).0 pair.0)
        (get_or_from_slice_get (by_bytes bytes items) at (shown disorder.2) d second)
        (subst (KeysAscend (λ pair. pair.0)) is ascend before at d (omega (arith, place)) within)))

    module _ (after : Map V) (is : pairs after ≡ list) where
      after-is : after ≡ finite.retain_keys m of.0
      after-is = finite.same_entries_map after (finite.retain_keys m of.0) (is ∙ of.1)

      pub len-of : length list ≡ finite.len after
      len-of = ap length (sym is) ∙ sym (finite.len-entries after)

      pub keys-of : (q : List ℕ) → IsTrue (finite.contains_key after q)
          → IsTrue (finite.contains_key m q)
      keys-of q there =
          kept-key m of.0 q (subst (λ n. IsTrue (finite.contains_key n q)) after-is there)

-- ---- the same of pairs whose keys are on the heap
module _ {V : Type 0} (m : Map V) (items : List (VectorKey × V))
    (of : ArePairsOf m (by_key items)) where
  many-items : length (by_key items) ≡ length items
  many-items =
      length-map {B = List ℕ × V} items (λ (pair : VectorKey × V). (pair.0.bytes.items, pair.1))

  pub few-items : length items ≤ finite.len m
  few-items =
      let few = few-pairs m (by_key items) of in
      let many = many-items in
      omega (arith, few, many)

  pub items-ascend : (at : ℕ)
      → IsDisorderAt (λ (key : VectorKey). key.bytes.items) at items → ⊥
  items-ascend at disorder =
      no-disorder m (by_key items) of (λ (key : VectorKey). key.bytes.items) items at refl disorder

  pub items-counted : (after : Map V) → pairs after ≡ by_key items
      → length items ≡ finite.len after
  items-counted after is = sym many-items ∙ len-of m (by_key items) of after is

-- ---- what differs
module _ {V : Type 0} (same : V → V → Bool) where
  differ-not : Decides same → (x : V) (o : Option V) → differ same (Some x) o ≡ true
      → ¬ (o ≡ Some x)
  differ-not decides x None d is = false≢true (ap is_some is)
  differ-not decides x (Some y) d is =
      let both : y ≡ x = cc in
      false≢true (sym (ap not ((decides x y).1 (sym both))) ∙ d)

  not-differ : Decides same → (x : V) (o : Option V) → ¬ (o ≡ Some x)
      → differ same (Some x) o ≡ true
  not-differ decides x None other = refl
  not-differ decides x (Some y) other =
      elim (same x y) as (λ t. same x y ≡ t → not t ≡ true) [
        | true ↦ λ is. absurd (other (ap Some (sym ((decides x y).0 is))))
        | false ↦ λ is. refl
      ] refl

  module _ (m other : Map V) where
    abbrev test : List ℕ → Bool
    test key = differ same (finite.get m key) (finite.get other key)

    pub difference-from : Decides same → (key : List ℕ) (x : V)
        → finite.get (difference same m other) key ≡ Some x
        → (finite.get m key ≡ Some x) × ¬ (finite.get other key ≡ Some x)
    difference-from decides key x is =
        let both = kept-from m test key x is in (
          both.1,
          differ-not decides x (finite.get other key)
              (sym (ap (λ o. differ same o (finite.get other key)) both.1) ∙ both.0),
        )

    pub difference-to : Decides same → (key : List ℕ) (x : V) → finite.get m key ≡ Some x
        → ¬ (finite.get other key ≡ Some x)
        → finite.get (difference same m other) key ≡ Some x
    difference-to decides key x is lacks =
        kept-to m test key x
        (ap (λ o. differ same o (finite.get other key)) is
        ∙ not-differ decides x (finite.get other key) lacks) is

    abbrev mine : Change V → Option (List ℕ × V)
    mine change = pair_at change.0 change.1

    pair-is : (key q : List ℕ) (o : Option V) (x : V) → pair_at key o ≡ Some (q, x)
        → (q ≡ key) × (o ≡ Some x)
    pair-is key q None x is = absurd (false≢true (ap is_some is))
    pair-is key q (Some y) x is =
        let both : (key, y) ≡ (q, x) = cc in
        (ap (λ pair. pair.0) (sym both), ap (λ (pair : List ℕ × V). Some pair.1) both)

    -- The changes show the pairs of the difference, where the one map has a value.
    pub changed-pairs : filter_map mine (changes same m other) ≡ pairs (difference same m other)
    changed-pairs =
        ascending_lists_are_fixed (List ℕ × V) (λ pair. pair.0)
        (filter_map mine (changes same m other)) (pairs (difference same m other))
        (KeysAscend-kept (λ (c : Change V). c.0) (λ (pair : List ℕ × V). pair.0) mine
        (λ c pair is. (pair-is c.0 pair.0 c.1 pair.1 is).0) (changes same m other)
        (changes-ascend same m other))
        (pairs_ascend_by_key V (difference same m other)) (λ pair.
        let here = Contains-filter_map mine (changes same m other) pair in
        let there = Contains-pairs (difference same m other) pair.0 pair.1 in (
          λ found.
              let change = here.0 found in
              let is = pair-is change.0.0 pair.0 change.0.1 pair.1 change.2 in
              let from = changes-from same m other change.0 change.1 in
              there.1 (subst (λ q. finite.get (difference same m other) q ≡ Some pair.1)
              (sym is.0) (kept-to m test change.0.0 pair.1
              ((λ i. differ same (from.0 i) (from.1 i)) ∙ from.2) (from.0 ∙ is.1))),
          λ found.
              let both = kept-from m test pair.0 pair.1 (there.0 found) in
              here.1 (
                (pair.0, finite.get m pair.0, finite.get other pair.0),
                changes-to same m other pair.0 (finite.get m pair.0)
                    (finite.get other pair.0) refl refl both.0,
                ap (pair_at pair.0) both.1,
              ),
        ))

pub difference_is_of_pairs : {V : Type 0} (same : V → V → Bool) → DifferenceIsOfPairs same
difference_is_of_pairs same decides m other key x = (
  difference-from same m other decides key x,
  λ both. difference-to same m other decides key x both.0 both.1,
)

-- ---- what is in common
module _ {V : Type 0} (m other : Map V) where
  abbrev ours : List ℕ × V × V → Option (List ℕ × V)
  ours entry = pair_at entry.0 (Some entry.1)

  some-there : (o : Option V) → is_some o ≡ true → (y : V) × (o ≡ Some y)
  some-there None some = absurd (false≢true some)
  some-there (Some y) some = (y, refl)

  pub common-pairs : filter_map ours (common m other) ≡ pairs (intersection m other)
  common-pairs =
      ascending_lists_are_fixed (List ℕ × V) (λ pair. pair.0)
      (filter_map ours (common m other)) (pairs (intersection m other))
      (KeysAscend-kept (λ (entry : List ℕ × V × V). entry.0) (λ (pair : List ℕ × V). pair.0) ours
      (λ entry pair is. ap (λ (o : Option (List ℕ × V)). (unwrap_or o pair).0) (sym is))
      (common m other) (common_ascends V m other))
      (pairs_ascend_by_key V (intersection m other)) (λ pair.
      let here = Contains-filter_map ours (common m other) pair in
      let there = Contains-pairs (intersection m other) pair.0 pair.1 in (
        λ found.
            let entry = here.0 found in
            let both = (common_is_found V m other entry.0.0 entry.0.1 entry.0.2).0 entry.1 in
            subst (λ p. Contains (pairs (intersection m other)) p)
            (ap (λ (o : Option (List ℕ × V)). unwrap_or o pair) entry.2)
            ((Contains-pairs (intersection m other) entry.0.0 entry.0.1).1
            (kept-to m (finite.contains_key other) entry.0.0 entry.0.1 (ap is_some both.1) both.0)),
        λ found.
            let both = kept-from m (finite.contains_key other) pair.0 pair.1 (there.0 found) in
            let some = some-there (finite.get other pair.0) both.0 in
            here.1 (
              (pair.0, pair.1, some.0),
              (common_is_found V m other pair.0 pair.1 some.0).1 (both.1, some.1),
              refl,
            ),
      ))

pub intersection_is_of_keys : (V : Type 0) → IntersectionIsOfKeys V
intersection_is_of_keys V m other key x = (
  λ is. let both = kept-from m (finite.contains_key other) key x is in (both.1, both.0),
  λ both. kept-to m (finite.contains_key other) key x both.1 both.0,
)

-- ---- a tree of such pairs
module _ {V E : Type 0} (combine : Map V → Map V → Map V) (tree other before theirs : Tree V)
    (list : List (List ℕ × V)) where
  pub combined : (made : Result (Tree V) E) → before ≡ tree → theirs ≡ other
      → list ≡ pairs (combine before.version.content theirs.version.content)
      → IfOk made (λ part. pairs part.version.content ≡ list)
      → IfOk made (λ part. part ≡ of_content tree part.version.content)
      → IfOk made (λ part. part
      ≡ of_content tree (combine tree.version.content other.version.content))
  combined (Err refused) same also is has others = tt
  combined (Ok part) same also is has others =
      others
      ∙ ap (of_content tree) (finite.same_entries_map part.version.content
      (combine before.version.content theirs.version.content) (has ∙ is))
      ∙ (λ i. of_content tree (combine (same i).version.content (also i).version.content))

-- ---- a visit that keeps of each member what it shows, if anything, until it gives up
module _ {F A R X Y : Type 0} (g : Mut F A R) (Shows : A → X → Type 0) (answer : R)
    (Goes : F → Type 0) (seen : F → List Y) (shown : X → Option Y)
    (each : (f : F) (x : X) (j : F) → CalledOn g Shows f x answer j → Goes j
    → Goes f × (seen j ≡ seen f ++ cons_option (shown x) [])) where
  behind : (o : Option Y) (ys : List Y) → cons_option o [] ++ ys ≡ cons_option o ys
  behind None ys = refl
  behind (Some y) ys = refl

  pub visit-collects : (members : List X) (f last : F) → Answers g Shows answer f members last
      → Goes last → Goes f × (seen last ≡ seen f ++ filter_map shown members)
  visit-collects [] f last visit goes =
      (subst Goes (sym visit) goes, ap seen (sym visit) ∙ sym (append-nil (seen f)))
  visit-collects (x ∷ xs) f last visit goes =
      let later = visit-collects xs visit.0 last visit.2 goes in
      let here = each f x visit.0 visit.1 later.0 in (
        here.0,
        later.1 ∙ ap (λ ys. ys ++ filter_map shown xs) here.1
            ∙ append_assoc (seen f) (cons_option (shown x) []) (filter_map shown xs)
            ∙ ap (λ ys. seen f ++ ys) (behind (shown x) (filter_map shown xs)),
      )

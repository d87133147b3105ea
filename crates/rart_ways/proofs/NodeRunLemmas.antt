-- The node that a run of pairs makes: where its children begin, and what it has once all are made.
use Rattle.std.proofs.Common.{◌≡◌, ◌<◌, ◌≤◌, ◌≢◌, ◌⊎◌, inl, inr, true, ℕ, zero, suc, ◌+◌, ◌-◌, List, [], ◌∷◌, ◌++◌, get_or, length, map, take, drop, refl, sym, ap, subst, ◌∙◌, ⊎_elim, arith, Some, None}
use Rattle.std.specs.Prelude.{IsTrue, slice_get}
use Rattle.std.specs.FinMap.Entries.{is_sorted}
use Rattle.std.proofs.lemmas.Bool.{cases_lt, cases_eq}
use Rattle.std.proofs.Math.Seq.{take-length}
use Rattle.std.proofs.lemmas.List.{append-nil, drop-drop, drop_all, length-drop, length-take}
use Rattle.rart_below.specs.Bytes.{byte_order, common_length}
use Rattle.rart_node.specs.Nodes.{nodes_of}
use Rattle.rart_node.specs.Shape.{Shape, Forest, node, bare, grown, entries_of, prefix_of, with_value, width_for}
use Rattle.rart_node.specs.Trees.{BeginsWith, IsTree, is_key_or_fork, pairs_of, pairs_below}
use Rattle.rart_node.proofs.PairOrderLemmas.{sorted-behind}
use Rattle.rart_ways.specs.Paths.{first_byte}
use Rattle.rart_ways.specs.Runs.{AllBegin, AllLong, last_key, run_from, runs, shared}
use Rattle.rart_ways.proofs.AscendingRunLemmas.{AllSome, AllUnder, behind-shared, cut, long-less, long-under, put_behind, run-split, tail-sorted, under-front, runs-one, runs-some, shared-begins, shared-stops, some-later, under-none}
use Rattle.rart_ways.proofs.RunPlaceLemmas.{cons-at, long-at, run-at, run-none}
use Rattle.rart_ways.proofs.BuildingLemmas.{Building}

module _ {V : Type 0} where
  shared-short : (p : List ℕ × V) (l : List (List ℕ × V)) → length (shared (p ∷ l)) ≤ length p.0
  shared-short p l =
      let long = length-take (common_length p.0 (last_key p.0 l)) p.0 in omega (arith, long)

  -- the same, of any list with a first pair
  short-in : (run : List (List ℕ × V)) (p : List ℕ × V) (l : List (List ℕ × V)) → run ≡ p ∷ l
      → length (shared run) ≤ length p.0
  short-in run p l is =
      subst (λ r. length (shared r) ≤ length p.0) (sym is) (shared-short p l)

  stops-in : (run : List (List ℕ × V)) (p : List ℕ × V) (l : List (List ℕ × V)) → run ≡ p ∷ l
      → (byte : ℕ) → AllBegin byte (cut (length (shared run)) run) → ⊥
  stops-in run p l is byte =
      subst (λ r. AllBegin byte (cut (length (shared r)) r) → ⊥) (sym is) (shared-stops byte p l)

  pub begins-in : (run : List (List ℕ × V)) (p : List ℕ × V) (l : List (List ℕ × V)) → run ≡ p ∷ l
      → (byte : ℕ) → AllBegin byte run → BeginsWith byte (shared run)
  begins-in run p l is byte =
      subst (λ r. AllBegin byte r → BeginsWith byte (shared r)) (sym is) (shared-begins byte p l)

  sorted-cut : (run : List (List ℕ × V)) → is_sorted byte_order run ≡ true
      → is_sorted byte_order (cut (length (shared run)) run) ≡ true
  sorted-cut run sorted =
      sym (sorted-behind (shared run) (cut (length (shared run)) run))
      ∙ ap (is_sorted byte_order) (behind-shared run sorted) ∙ sorted

  fork : (forest : Forest V) → 2 ≤ length (entries_of forest)
      → IsTrue (is_key_or_fork None forest)
  fork bare two = absurd (omega (arith, two))
  fork (grown byte child bare) two = absurd (omega (arith, two))
  fork (grown byte child (grown next other forest)) two = refl

  two-runs : (run : List (List ℕ × V)) (p : List ℕ × V) (l : List (List ℕ × V)) → run ≡ p ∷ l
      → AllSome run → ((byte : ℕ) → AllBegin byte run → ⊥) → 2 ≤ runs run
  two-runs run p l is some apart =
      subst (λ r. AllSome r → ((byte : ℕ) → AllBegin byte r → ⊥) → 2 ≤ runs r) (sym is)
      (λ some apart.
      let more = runs-some p l in
      ⊎_elim (λ one. absurd (apart (first_byte p.0) (runs-one p l some one)))
      (λ other. omega (arith, more, other)) (cases_eq (runs (p ∷ l)) 1))
      some apart

module _ {K V : Type 0} (bytes : K → List ℕ) where
  pub pair-at : (from : ℕ) (items : List (K × V)) → from < length items
      → (pair : K × V) × (slice_get items from ≡ Some pair) × (pair ≡ get_or items from pair)
  pair-at from [] lt = absurd (omega (arith, lt))
  pair-at zero (x ∷ items) lt = (x, refl, refl)
  pair-at (suc from) (x ∷ items) lt = pair-at from items (omega (arith, lt))

  cut-run : (depth n : ℕ) (items : List (K × V))
      → cut n (map (λ (pair : K × V). (drop depth (bytes pair.0), pair.1)) items)
      ≡ map (λ (pair : K × V). (drop (depth + n) (bytes pair.0), pair.1)) items
  cut-run depth n [] = refl
  cut-run depth n (pair ∷ items) =
      λ i. (drop-drop n depth (bytes pair.0) i, pair.1) ∷ cut-run depth n items i

  -- the pairs that stand below a node, and what it has of its own
  pub record Begun (from depth at first : ℕ) (whole : List (K × V)) (pair : K × V) : Type 0 where
    pub from_le : from ≤ first
    pub within : first ≤ length whole
    pub sorted : is_sorted byte_order (run_from bytes first at whole) ≡ true
    pub some : AllSome (run_from bytes first at whole)
    pub ends : ((first ≡ from + 1)
        × (run_from bytes from depth whole ≡ put_behind (shared (run_from bytes from depth whole))
        (([], pair.1) ∷ run_from bytes first at whole)))
        ⊎ ((first ≡ from)
        × (run_from bytes from depth whole ≡ put_behind (shared (run_from bytes from depth whole))
        (run_from bytes first at whole))
        × ((byte : ℕ) → AllBegin byte (run_from bytes first at whole) → ⊥))

  module _ (from depth at first : ℕ) (whole : List (K × V)) (pair : K × V)
      (lt : from < length whole) (long : AllLong bytes depth (drop from whole))
      (sorted : is_sorted byte_order (run_from bytes from depth whole) ≡ true)
      (at_is : at ≡ depth + length (shared (run_from bytes from depth whole)))
      (read : pair ≡ get_or whole from pair) where
    abbrev run : List (List ℕ × V)
    run = run_from bytes from depth whole

    here : run ≡ (drop depth (bytes pair.0), pair.1) ∷ run_from bytes (from + 1) depth whole
    here = run-at bytes depth from whole pair lt read

    below-run : cut (length (shared run)) run ≡ run_from bytes from at whole
    below-run =
        cut-run depth (length (shared run)) (drop from whole)
        ∙ ap (λ n. run_from bytes from n whole) (sym at_is)

    below-sorted : is_sorted byte_order (run_from bytes from at whole) ≡ true
    below-sorted = ap (is_sorted byte_order) (sym below-run) ∙ sorted-cut run sorted

    behind : run ≡ put_behind (shared run) (run_from bytes from at whole)
    behind = sym (behind-shared run sorted) ∙ ap (put_behind (shared run)) below-run

    below-here : run_from bytes from at whole
        ≡ (drop at (bytes pair.0), pair.1) ∷ run_from bytes (from + 1) at whole
    below-here = run-at bytes at from whole pair lt read

    later-sorted : is_sorted byte_order ((drop at (bytes pair.0), pair.1)
        ∷ run_from bytes (from + 1) at whole) ≡ true
    later-sorted = ap (is_sorted byte_order) (sym below-here) ∙ below-sorted

    begun-at_end : first ≡ from + 1 → length (bytes pair.0) ≡ at
        → Begun from depth at first whole pair
    begun-at_end is ends =
        let nothing : drop at (bytes pair.0) ≡ [] = drop_all at (bytes pair.0) (omega (arith, ends)) in
        record {
          from_le = omega (arith, is);
          within = omega (arith, is, lt);
          sorted = subst (λ n. is_sorted byte_order (run_from bytes n at whole) ≡ true) (sym is)
              (tail-sorted (drop at (bytes pair.0), pair.1) (run_from bytes (from + 1) at whole)
              later-sorted);
          some = subst (λ n. AllSome (run_from bytes n at whole)) (sym is)
              (some-later (drop at (bytes pair.0), pair.1) (run_from bytes (from + 1) at whole)
              later-sorted);
          ends = inl (
            is,
            behind ∙ ap (put_behind (shared run)) (below-here
                ∙ (λ i. (nothing i, pair.1) ∷ run_from bytes (sym is i) at whole)),
          );
        }

    begun-inside : first ≡ from → length (bytes pair.0) ≢ at → Begun from depth at first whole pair
    begun-inside is other =
        let short = short-in run (drop depth (bytes pair.0), pair.1)
        (run_from bytes (from + 1) depth whole) here in
        let left = length-drop depth (bytes pair.0) in
        let enough = long-at bytes depth from from whole pair long (omega arith) lt read in
        let more = length-drop at (bytes pair.0) in
        record {
          from_le = omega (arith, is);
          within = omega (arith, is, lt);
          sorted = subst (λ n. is_sorted byte_order (run_from bytes n at whole) ≡ true) (sym is)
              below-sorted;
          some = subst (λ n. AllSome (run_from bytes n at whole)) (sym is)
              (subst AllSome (sym below-here) (
                omega (arith, short, left, enough, more, other, at_is),
                some-later (drop at (bytes pair.0), pair.1) (run_from bytes (from + 1) at whole)
                    later-sorted,
              ));
          ends = inr (
            is,
            behind ∙ ap (λ n. put_behind (shared run) (run_from bytes n at whole)) (sym is),
            λ byte all. stops-in run (drop depth (bytes pair.0), pair.1)
                (run_from bytes (from + 1) depth whole) here byte
                (subst (AllBegin byte) (sym below-run)
                (subst (λ n. AllBegin byte (run_from bytes n at whole)) is all)),
          );
        }

    pub begun : ((first ≡ from + 1) × (length (bytes pair.0) ≡ at))
        ⊎ ((first ≡ from) × (length (bytes pair.0) ≢ at)) → Begun from depth at first whole pair
    begun cases =
        ⊎_elim (λ ends. begun-at_end ends.0 ends.1) (λ inside. begun-inside inside.0 inside.1) cases

    pub run-first : (byte : ℕ) → AllBegin byte run → BeginsWith byte (shared run)
    run-first = begins-in run (drop depth (bytes pair.0), pair.1)
        (run_from bytes (from + 1) depth whole) here

  -- ---- the loop begins
  pub building-none : (from depth at first count : ℕ) (whole : List (K × V)) (pair : K × V)
      (prefix : List ℕ) (begun : ℕ) (shape : Shape V) → Begun from depth at first whole pair
      → count ≡ runs (run_from bytes first at whole)
      → shape ≡ node prefix None (width_for count) bare
      → Building bytes first at count whole prefix begun whole shape begun
  building-none from depth at first count whole pair prefix begun shape b counted is = record {
    forest = bare;
    is = is;
    taken = sym (take-length whole);
    within = b.within;
    sorted = b.sorted;
    under = under-none (run_from bytes first at whole) b.some;
    branches = tt;
    ascending = refl;
    together = append-nil (run_from bytes first at whole);
    counted = omega (arith, counted);
    made_is = omega arith;
  }

  -- ---- the loop ends
  module _ (from depth at first count : ℕ) (whole items : List (K × V)) (pair : K × V)
      (begun made : ℕ) (shape : Shape V) (s : Begun from depth at first whole pair)
      (b : Building bytes first at count whole (shared (run_from bytes from depth whole)) begun items
      shape made) (empty : length items ≤ first)
      (count_is : count ≡ runs (run_from bytes first at whole)) where
    none-left : run_from bytes first at items ≡ []
    none-left = run-none bytes first at items empty

    all-below : pairs_below b.forest ≡ run_from bytes first at whole
    all-below = ap (λ l. l ++ pairs_below b.forest) (sym none-left) ∙ b.together

    all-counted : length (entries_of b.forest) ≡ count
    all-counted =
        let counted = ap (λ l. runs l + length (entries_of b.forest)) (sym none-left) ∙ b.counted in
        omega (arith, counted)

    pub record Done (after : Shape V) : Type 0 where
      pub tree : IsTree after
      pub pairs : pairs_of after ≡ run_from bytes from depth whole
      pub prefix : prefix_of after ≡ shared (run_from bytes from depth whole)
      pub nodes : begun + nodes_of after ≡ made + 1

    -- with the value of its own pair
    pub done-own : first ≡ from + 1
        → run_from bytes from depth whole ≡ put_behind (shared (run_from bytes from depth whole))
        (([], pair.1) ∷ run_from bytes first at whole)
        → (value : V) (after : Shape V) → value ≡ pair.1 → after ≡ with_value (Some value) shape
        → Done after
    done-own is ends value after value_is after_is =
        let q = shared (run_from bytes from depth whole) in
        let made_is = b.made_is in
        let whole_is : after ≡ node q (Some pair.1) (width_for count) b.forest =
        after_is ∙ (λ i. with_value (Some (value_is i)) (b.is i)) in
        subst Done (sym whole_is) record {
          tree = (b.ascending, b.branches, refl);
          pairs = ap (λ l. put_behind q (([], pair.1) ∷ l)) all-below ∙ sym ends;
          prefix = refl;
          nodes = omega (arith, made_is);
        }

    -- without a pair of its own
    pub done-fork : run_from bytes from depth whole
        ≡ put_behind (shared (run_from bytes from depth whole)) (run_from bytes first at whole)
        → ((byte : ℕ) → AllBegin byte (run_from bytes first at whole) → ⊥)
        → first < length whole → Done shape
    done-fork ends apart lt =
        let q = shared (run_from bytes from depth whole) in
        let made_is = b.made_is in
        let cons = cons-at bytes first at whole lt in
        let two = two-runs (run_from bytes first at whole) cons.0 cons.1 cons.2 s.some apart in
        let counted = all-counted in
        subst Done (sym b.is) record {
          tree = (b.ascending, b.branches, fork b.forest (omega (arith, two, counted, count_is)));
          pairs = ap (put_behind q) all-below ∙ sym ends;
          prefix = refl;
          nodes = omega (arith, made_is);
        }

  -- ---- one more child
  pub falls : (from depth at first count : ℕ) (whole items : List (K × V)) (pair : K × V)
      (prefix : List ℕ) (begun made : ℕ) (shape : Shape V) → Begun from depth at first whole pair
      → Building bytes first at count whole prefix begun items shape made → (start byte : ℕ)
      → first ≤ start → start < length items → AllBegin byte (run_from bytes start at items)
      → length items - start < length whole - from
  falls from depth at first count whole items pair prefix begun made shape s b start byte le lt all =
      let from_le = s.from_le in
      let fits = ap length b.taken ∙ length-take (length items) whole in
      ⊎_elim
      (λ own. let is = own.0 in omega (arith, is, fits, le, lt))
      (λ fork. let is = fork.0 in
      ⊎_elim
      (λ later. omega (arith, is, fits, le, lt, later))
      (λ early. ⊎_elim
      (λ shorter. omega (arith, is, fits, le, lt, shorter))
      (λ longer.
      let same : start ≡ first = omega (arith, early, le) in
      let all_of : items ≡ whole =
      b.taken ∙ ap (λ n. take n whole)
      (let n : length items ≡ length whole = omega (arith, fits, longer) in n)
      ∙ take-length whole in
      absurd (fork.2 byte (subst (AllBegin byte) (λ i. run_from bytes (same i) at (all_of i)) all)))
      (cases_lt (length items) (length whole)))
      (cases_lt first start))
      s.ends

  pub long-child : (first start at : ℕ) (forest : Forest V) (items : List (K × V)) → first ≤ start
      → AllUnder forest (run_from bytes first at items) → AllLong bytes at (drop start items)
  long-child first start at forest items le under =
      long-less bytes (at + 1) at (drop start items) (omega arith)
      (long-under bytes forest start at items
      (under-front forest (run_from bytes first at (take start items))
      (run_from bytes start at items)
      (subst (AllUnder forest) (run-split bytes first start at items le) under)).1)

  pub first-most : (from depth at first : ℕ) (whole : List (K × V)) (pair : K × V)
      → Begun from depth at first whole pair → first ≤ from + 1
  first-most from depth at first whole pair s =
      ⊎_elim (λ own. let is = own.0 in omega (arith, is)) (λ fork. let is = fork.0 in omega (arith, is))
      s.ends

  module _ (from depth at first count : ℕ) (whole items : List (K × V)) (pair : K × V)
      (begun made : ℕ) (shape : Shape V) (s : Begun from depth at first whole pair)
      (b : Building bytes first at count whole (shared (run_from bytes from depth whole)) begun items
      shape made) (empty : length items ≤ first)
      (count_is : count ≡ runs (run_from bytes first at whole)) where
    pub done-none : length items ≡ from → from < length whole
        → Done from depth at first count whole items pair begun made shape s b empty count_is shape
    done-none none some =
        let from_le = s.from_le in
        let within = b.within in
        ⊎_elim
        (λ own. let is = own.0 in absurd (omega (arith, is, none, within)))
        (λ fork. let is = fork.0 in
        done-fork from depth at first count whole items pair begun made shape s b empty count_is
        fork.1 fork.2 (omega (arith, is, some)))
        s.ends

    pub done-some : length items ≡ from + 1 → (value : V) (after : Shape V) → value ≡ pair.1
        → after ≡ with_value (Some value) shape
        → Done from depth at first count whole items pair begun made shape s b empty count_is after
    done-some one value after value_is after_is =
        ⊎_elim
        (λ own. done-own from depth at first count whole items pair begun made shape s b empty
        count_is own.0 own.1 value after value_is after_is)
        (λ fork. let is = fork.0 in absurd (omega (arith, is, one, empty)))
        s.ends

  pub front-at : (n i : ℕ) (items : List (K × V)) → i < n
      → slice_get (take n items) i ≡ slice_get items i
  front-at zero i items lt = absurd (omega (arith, lt))
  front-at (suc n) i [] lt = refl
  front-at (suc n) zero (x ∷ items) lt = refl
  front-at (suc n) (suc i) (x ∷ items) lt = front-at n i items (omega (arith, lt))

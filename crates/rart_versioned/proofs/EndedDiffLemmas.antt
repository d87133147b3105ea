-- A diff that its closure ends, in the words of the maps.
use Rattle.std.proofs.Common.{◌≡◌, ◌+◌, ◌≤◌, ⊎_elim, inl, inr, ℕ, true, false, cond, List, [], ◌∷◌, ◌++◌, Option, Result, Ok, Err, IfOk, length, arith, refl, sym, ap, subst, ◌∙◌, append-nil}
use Rattle.std.specs.Prelude.{Contains, count_by}
use Rattle.std.specs.Option.{is_some}
use Rattle.std.specs.Ordering.{is_le}
use Rattle.std.specs.declared.ops.Bound.TheVariants.{Included}
use Rattle.std.proofs.lemmas.List.Sums.{sum_by-cons}
use Rattle.rart_below.specs.Bytes.{byte_order}
use Rattle.rart_maps.specs.ChangeLists.{Change}
use Rattle.rart_walks.specs.DiffEnds.{EntersTo, EntersToFirst, pairs_from, is_up_to_first, nodes_to}
use Rattle.rart_walks.specs.TwoWalks.{nodes_ahead}
use Rattle.rart_maps.specs.Bounds.{node_count}
use Rattle.rart_maps.specs.Order.{IsAtMost}
use Rattle.rart_maps.specs.Versions.{Map}
use Rattle.rart_maps.proofs.ElementLemmas.{Contains-here, Contains-filter}
use Rattle.rart_maps.proofs.OrderLemmas.{high-meets}
use Rattle.rart_maps.proofs.PointLemmas.{map-contains}
use Rattle.rart_node.specs.Counts.{Counts, CountsUpTo}
use Rattle.rart_node.specs.Shape.{Shape, node}
use Rattle.rart_node.specs.Trees.{own_pair, pairs_of, pairs_below}
use Rattle.rart_walks.specs.WalkFields.{cursor, at_hand}
use Rattle.rart_walks.specs.Walks.{IsEndOf, paths_of, nodes_of}
use Rattle.rart_walks.specs.declared.walk.Walk.{Walk}
use Rattle.rart_walks.proofs.CursorLemmas.{nodes-paths}
use Rattle.rart_versioned.specs.VisitCounts.{DiffEndsSoon, EndsAtFirst, node_count_to}

-- One pair is at hand at most.
pub one-hand : {A : Type 0} (o : Option A) → cond (is_some o) 1 0 ≤ 1
one-hand o = elim (is_some o) as (λ b. cond b 1 0 ≤ 1) [ true ↦ omega arith | false ↦ omega arith ]

abbrev first-path : List (List ℕ) → List ℕ
first-path [] = []
first-path (path ∷ paths) = path

at_most-longer : (u more : List ℕ) → IsAtMost u (u ++ more)
at_most-longer [] [] = inl refl
at_most-longer [] (c ∷ more) = inr tt
at_most-longer (b ∷ u) more =
    ⊎_elim (λ same. inl (ap (λ w. b ∷ w) same)) (λ before. inr (inr (refl, before)))
    (at_most-longer u more)

module _ {V : Type 0} where
  -- A string that is at most each key is not behind the first of some.
  before-first : (string : List ℕ) (kept all : List (List ℕ × V))
      → ((pair : List ℕ × V) → Contains kept pair → Contains all pair)
      → ((pair : List ℕ × V) → Contains all pair → IsAtMost string pair.0)
      → is_up_to_first kept string ≡ true
  before-first string [] all within most = refl
  before-first string (first ∷ kept) all within most =
      (high-meets (Included first.0) string).1
      (most first (within first (Contains-here first kept)))

  -- So it is with the path of a root.
  root-before : (s : Shape V) (key : List ℕ)
      → is_up_to_first (pairs_from key (pairs_of s)) (first-path (paths_of s)) ≡ true
  root-before (node prefix value width forest) key =
      let s : Shape V = node prefix value width forest in
      let inside = own_pair value ++ pairs_below forest in
      let behind : (pair : List ℕ × V) → List ℕ × V = λ pair. (prefix ++ pair.0, pair.1) in
      before-first (prefix ++ []) (pairs_from key (pairs_of s)) (pairs_of s)
      (λ pair there. ((Contains-filter (λ (pair : List ℕ × V). is_le (byte_order key pair.0))
      (pairs_of s) pair).0 there).0)
      (λ pair there.
      let found = map-contains behind inside pair there in
      subst (λ p. IsAtMost p pair.0) (sym (append-nil prefix))
      (subst (λ (q : List ℕ × V). IsAtMost prefix q.0) found.2
      (at_most-longer prefix found.0.0)))

  -- Of a tree whose root was entered, by what a walk over it has left.
  pub entered-to : (s : Shape V) (key : List ℕ) (pairs : List (List ℕ × V))
      (paths : List (List ℕ)) (start now : Counts) (n : ℕ)
      → count_by (is_up_to_first (pairs_from key (pairs_of s))) (paths_of s) ≡ n
      → pairs ≡ pairs_of s → length paths + 1 ≡ nodes_of s → IsEndOf paths (paths_of s)
      → now.entered ≡ start.entered + 1
      → now.entered + count_by (is_up_to_first (pairs_from key pairs)) paths ≤ start.entered + n
  entered-to s key pairs paths start now n counted all nodes end one =
      let test = is_up_to_first (pairs_from key (pairs_of s)) in
      let same = ap (λ pairs. count_by (is_up_to_first (pairs_from key pairs)) paths) all in
      let long = nodes-paths s in
      ⊎_elim
      (λ whole. let whole = ap length whole in absurd (omega (arith, whole, nodes, long)))
      (λ rest.
      let passes = ap test (sym (ap first-path rest.1)) ∙ root-before s key in
      let step = ap (count_by test) rest.1
      ∙ sum_by-cons (λ path. cond (test path) 1 0) rest.0 paths
      ∙ ap (λ b. cond b 1 0 + count_by test paths) passes in
      omega (arith, same, step, counted, one))
      end

  module _ {P E : Type 0} {partial : _} {T : Type 0} (s : Shape V) (start now : Counts)
      (n : List ℕ → ℕ)
      (counted : (key : List ℕ)
      → count_by (is_up_to_first (pairs_from key (pairs_of s))) (paths_of s) ≡ n key)
      (one : now.entered ≡ start.entered + 1) where
    pub whole-to : (result : Result (Walk P V T partial) E)
        → IfOk result (λ it. (cursor it).pairs ≡ pairs_of s)
        → IfOk result (λ it. length (cursor it).paths + 1 ≡ nodes_of s)
        → IfOk result (λ it. IsEndOf (cursor it).paths (paths_of s))
        → IfOk result (λ it. (key : List ℕ) → now.entered
        + count_by (is_up_to_first (pairs_from key (cursor it).pairs)) (cursor it).paths
        ≤ start.entered + n key)
    whole-to (Ok it) all nodes end =
        λ key. entered-to s key (cursor it).pairs (cursor it).paths start now (n key) (counted key)
        all nodes end one
    whole-to (Err e) all nodes end = tt

-- ---- a diff over two walks, for which nodes were entered
module _ {P V : Type 0} {partial : _} (m n : Map V) (old new : Walk P V (List ℕ) partial)
    (start between after : Counts) (most : ℕ) (opened : CountsUpTo most 0 start between)
    (to : (key : List ℕ) → between.entered + (nodes_to key old + nodes_to key new)
    ≤ start.entered + (node_count_to m key + node_count_to n key))
    (held : start.entered + (at_hand old + at_hand new) ≤ between.entered) where
  pub diff-soon : (front : List (Change V)) (last : Change V)
      → EntersTo old new between after front last → DiffEndsSoon m n start after front last
  diff-soon front last enters =
      let few = to last.0 in
      let grows = opened.entered_grows in
      let kept = opened.made_grows in
      let none = opened.made_at_most in
      let more = enters.at_most.entered_grows in
      let most = enters.at_most.entered_at_most in
      let made = enters.at_most.made_grows in
      let nothing = enters.at_most.made_at_most in
      let least = enters.at_least in
      record {
        at_most = record {
          entered_grows = omega (arith, grows, more);
          entered_at_most = omega (arith, few, most);
          made_grows = omega (arith, kept, made);
          made_at_most = omega (arith, none, nothing);
        };
        at_least = omega (arith, least, held);
      }

  pub diff-first : between.entered + nodes_ahead old new
      ≡ start.entered + (node_count m + node_count n) → (changes : List (Change V))
      → EntersToFirst old new between after changes → EndsAtFirst m n start after changes
  diff-first nodes [] through = omega (arith, nodes, through)
  diff-first nodes (first ∷ changes) enters = diff-soon [] first enters

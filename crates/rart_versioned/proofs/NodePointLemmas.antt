-- The points of a map are the paths of the nodes of its tree.
use Rattle.std.proofs.Common.{◌≡◌, ◌≢◌, ◌⊎◌, ◌+◌, ◌≤◌, ◌&&◌, ℕ, Bool, true, false, cond, List, [], ◌∷◌, ◌++◌, map, length, refl, sym, ap, subst, ◌∙◌, ⊎_elim, inl, inr, arith, Option, Some, None, IsSome, is_some}
use Rattle.std.specs.Prelude.{◌==◌, ◌↔◌, ◌*◌, IsTrue, Contains, count_by, filter}
use Rattle.std.specs.Option.{option_and_then, option_map}
use Rattle.std.specs.declared.ops.Bound.{Bound}
use Rattle.std.specs.declared.ops.Bound.TheVariants.{Included, Unbounded}
use Rattle.std.proofs.lemmas.Bool.{and_parts, and_from, eq-eqb, ne_eqb, false≢true, cases_eq}
use Rattle.std.proofs.lemmas.Option.{same_Some}
use Rattle.rart_node.specs.Shape.{Shape, Forest, node, bare, grown, prefix_of, entries_of}
use Rattle.rart_node.specs.Trees.{strip_prefix, at_end, found, found_below, is_key_or_fork, BeginsWith, IsTree, AreBranches, pairs_of, pairs_below}
use Rattle.rart_below.specs.Children as children
use Rattle.rart_below.proofs.AscendingLemmas.{below_parts, ascending_parts}
use Rattle.rart_node.proofs.KeyLemmas.{tree-has-key}
use Rattle.rart_node.proofs.PairLemmas.{found-empty, found-other, find-pairs}
use Rattle.rart_node.proofs.PairOrderLemmas.{sorted-pairs}
use Rattle.rart_maps.specs.FoundLaws.{KeysAscend}
use Rattle.rart_maps.specs.Order.{IsBefore}
use Rattle.rart_maps.specs.Bounds.{bound_string, bound_length}
use Rattle.rart_maps.specs.Pairs.{pairs, under, within}
use Rattle.rart_maps.specs.Versions.{Map}
use Rattle.rart_maps.proofs.ElementLemmas.{contains-find, find-contains, Contains-map, Contains-filter}
use Rattle.rart_maps.proofs.FoundLemmas.{Contains-pairs, KeysAscend-sorted, under_ascends}
use Rattle.rart_maps.proofs.OrderLemmas.{byte_order-IsAntisymmetric}
use Rattle.rart_maps.proofs.RangeLemmas.{is_below}
use Rattle.rart_maps.proofs.RangePointLemmas.{range-points-few}
use Rattle.rart_maps.proofs.SetLemmas.{contains-kept}
use Rattle.rart_maps.proofs.StartLemmas.{sum_by-map}
use Rattle.std.specs.Cmp.Lexicographic.{nat_list_cmp_total}
use Rattle.std.specs.FinMap as finite
use Rattle.std.specs.FinMap.Entries.{is_sorted, below_all}
use Rattle.std.specs.FinSet as set
use Rattle.std.specs.Ordering.{nat_cmp, is_lt}
use Rattle.std.proofs.lemmas.List.{length-map, map-append}
use Rattle.std.proofs.lemmas.List.Kept.{AllPairs-filter}
use Rattle.std.proofs.lemmas.List.Sums.{length-filter}
use Rattle.rart_below.specs.Bytes.{byte_order, begins}
use Rattle.rart_walks.specs.Walks.{paths_of, paths_below}
use Rattle.rart_walks.specs.Descending.{leads_from}
use Rattle.rart_versioned.proofs.BackWalkLemmas.{begun-counted, either-counted}
use Rattle.rart_versioned.proofs.PrefixEndLemmas.{behind-prefix}
use Rattle.rart_maps.specs.Points.{parting, points}
use Rattle.rart_maps.proofs.PointLemmas.{head_of, tail_of, parting-cons, parting-same, parting-other, IsPointOf, points-is, points-counted, under-point, key-pair, in-list, len-ascending, map-contains}

same-truth : (a b : Bool) → (a ≡ true → b ≡ true) → (b ≡ true → a ≡ true) → a ≡ b
same-truth true b to from = sym (to refl)
same-truth false true to from = from refl
same-truth false false to from = refl

-- The tree's nodes, each with a value: so its pairs are its paths.
abbrev mutual
  marked : {V : Type 0} → Shape V → Shape (Unit {0})
  marked (node prefix value width forest) = node prefix (Some tt) width (marked_below forest)

  marked_below : {V : Type 0} → Forest V → Forest (Unit {0})
  marked_below bare = bare
  marked_below (grown byte child forest) = grown byte (marked child) (marked_below forest)

-- Strings that part at one that is not empty begin with its first byte.
parting-first : (x y : List ℕ) (b : ℕ) (r : List ℕ) → parting x y ≡ Some (b ∷ r) →
    (u : List ℕ) × (w : List ℕ) × (x ≡ b ∷ u) × (y ≡ b ∷ w) × (parting u w ≡ Some r)
parting-first [] y b r is = absurd (false≢true (ap is_some is))
parting-first (c ∷ x) [] b r is = absurd (false≢true (ap is_some is))
parting-first (c ∷ x) (d ∷ y) b r is =
    ⊎_elim
    (λ same.
    let rest = parting-cons c (parting x y) (b ∷ r) (sym (parting-same c d x y same) ∙ is) in
    let first = ap head_of rest.1 in
    let others = ap tail_of rest.1 in (
      x,
      y,
      (λ i. sym first i ∷ x),
      (λ i. sym (first ∙ same) i ∷ y),
      rest.2 ∙ ap (λ t. Some t) (sym others),
    ))
    (λ other.
    let none = ap length (same_Some (b ∷ r) [] (sym is ∙ parting-other c d x y other)) in
    absurd (omega (arith, none)))
    (cases_eq c d)

strip-first : (a c : ℕ) (p q : List ℕ) → a ≡ c → strip_prefix (a ∷ p) (c ∷ q) ≡ strip_prefix p q
strip-first a c p q is = λ i. cond (eq-eqb c a (sym is) i) (strip_prefix p q) None

-- what a node with this value and these children has behind its prefix
abbrev inside : {V : Type 0} → Option V → Forest V → List ℕ → Option V
inside value forest rest = at_end rest value (found_below forest rest)

module _ {V : Type 0} where
  -- The string has a value, or two that have one part there.
  abbrev IsPointIn : (List ℕ → Option V) → List ℕ → Type 0
  IsPointIn values q = IsSome (values q)
      ⊎ ((x : List ℕ) × (y : List ℕ) × IsSome (values x) × IsSome (values y)
      × (parting x y ≡ Some q))

  -- what stands behind a prefix
  abbrev behind : List ℕ → (List ℕ → Option V) → List ℕ → Option V
  behind prefix values q = option_and_then values (strip_prefix prefix q)

  -- What has a point that is not empty depends on strings with its first byte alone.
  point-agrees : (F G : List ℕ → Option V) (b : ℕ) (r : List ℕ) →
      ((w : List ℕ) → F (b ∷ w) ≡ G (b ∷ w)) → IsPointIn F (b ∷ r) → IsPointIn G (b ∷ r)
  point-agrees F G b r same point =
      ⊎_elim
      (λ here. inl (subst IsSome (same r) here))
      (λ parts.
      let first = parting-first parts.0 parts.1 b r parts.4 in
      inr (
        b ∷ first.0,
        b ∷ first.1,
        subst IsSome (ap F first.2 ∙ same first.0) parts.2,
        subst IsSome (ap F first.3 ∙ same first.1) parts.3,
        parting-same b b first.0 first.1 refl ∙ ap (option_map (λ t. b ∷ t)) first.4,
      ))
      point

  -- Behind a prefix with a first byte only strings with that byte have a value.
  behind-first : (a : ℕ) (p : List ℕ) (values : List ℕ → Option V) (q : List ℕ) →
      IsSome (behind (a ∷ p) values q) →
      (u : List ℕ) × (q ≡ a ∷ u) × IsSome (behind p values u)
  behind-first a p values [] there = absurd (false≢true there)
  behind-first a p values (c ∷ q) there =
      ⊎_elim
      (λ same. (
        q,
        (λ i. same i ∷ q),
        subst (λ o. IsSome (option_and_then values o)) (strip-first a c p q (sym same)) there,
      ))
      (λ other. absurd (false≢true (ap {B = Bool} (λ t.
      is_some (option_and_then values (cond t (strip_prefix p q) None)))
      (sym (ne_eqb c a other)) ∙ there)))
      (cases_eq c a)

  -- A point behind a prefix is the prefix and a point.
  point-behind : (prefix : List ℕ) (values : List ℕ → Option V) (q : List ℕ) →
      IsPointIn (behind prefix values) q →
      (r : List ℕ) × (strip_prefix prefix q ≡ Some r) × IsPointIn values r
  point-behind [] values q point = (q, refl, point)
  point-behind (a ∷ p) values q point =
      let shorter : (u : List ℕ) → q ≡ a ∷ u → IsPointIn (behind p values) u →
      (r : List ℕ) × (strip_prefix (a ∷ p) q ≡ Some r) × IsPointIn values r =
      λ u is inner. let rest = point-behind p values u inner in (
        rest.0,
        ap (strip_prefix (a ∷ p)) is ∙ strip-first a a p u refl ∙ rest.1,
        rest.2,
      ) in
      ⊎_elim
      (λ here. let first = behind-first a p values q here in
      shorter first.0 first.1 (inl first.2))
      (λ parts.
      let left = behind-first a p values parts.0 parts.2 in
      let right = behind-first a p values parts.1 parts.3 in
      let both = parting-cons a (parting left.0 right.0) q
      (sym (parting-same a a left.0 right.0 refl)
      ∙ (λ i. parting (sym left.1 i) (sym right.1 i)) ∙ parts.4) in
      shorter both.0 both.1 (inr (left.0, right.0, left.2, right.2, both.2)))
      point

  behind-point : (prefix : List ℕ) (values : List ℕ → Option V) (q r : List ℕ) →
      strip_prefix prefix q ≡ Some r → IsPointIn values r → IsPointIn (behind prefix values) q
  behind-point [] values q r is point =
      subst (IsPointIn values) (sym (same_Some q r is)) point
  behind-point (a ∷ p) values [] r is point = absurd (false≢true (ap is_some is))
  behind-point (a ∷ p) values (c ∷ q) r is point =
      ⊎_elim
      (λ same.
      let inner = behind-point p values q r (sym (strip-first a c p q (sym same)) ∙ is) point in
      let more : (w : List ℕ) → IsSome (behind p values w) → IsSome (behind (a ∷ p) values
      (a ∷ w)) =
      λ w there. subst (λ o. IsSome (option_and_then values o)) (sym (strip-first a a p w refl))
      there in
      subst (λ b. IsPointIn (behind (a ∷ p) values) (b ∷ q)) (sym same) (⊎_elim
      (λ here. inl (more q here))
      (λ parts. inr (
        a ∷ parts.0,
        a ∷ parts.1,
        more parts.0 parts.2,
        more parts.1 parts.3,
        parting-same a a parts.0 parts.1 refl ∙ ap (option_map (λ t. a ∷ t)) parts.4,
      ))
      inner))
      (λ other. absurd (false≢true (ap {B = Bool} (λ t. is_some (cond t (strip_prefix p q) None))
      (sym (ne_eqb c a other)) ∙ ap is_some is)))
      (cases_eq c a)

  -- Below a node a point that is not empty is one below its children.
  point-inside : (value : Option V) (forest : Forest V) (b : ℕ) (r : List ℕ) →
      IsPointIn (inside value forest) (b ∷ r) → IsPointIn (found_below forest) (b ∷ r)
  point-inside value forest b r =
      point-agrees (inside value forest) (found_below forest) b r (λ w. refl)

  inside-point : (value : Option V) (forest : Forest V) (b : ℕ) (r : List ℕ) →
      IsPointIn (found_below forest) (b ∷ r) → IsPointIn (inside value forest) (b ∷ r)
  inside-point value forest b r =
      point-agrees (found_below forest) (inside value forest) b r (λ w. refl)

  -- what children have behind the byte of the first, and behind another
  below-first : (byte b : ℕ) (child : Shape V) (forest : Forest V) (w : List ℕ) →
      (b == byte) ≡ true → found_below (grown byte child forest) (b ∷ w) ≡ found child (b ∷ w)
  below-first byte b child forest w is =
      λ i. cond (is i) (found child (b ∷ w)) (found_below forest (b ∷ w))

  below-other : (byte b : ℕ) (child : Shape V) (forest : Forest V) (w : List ℕ) →
      (b == byte) ≡ false → found_below (grown byte child forest) (b ∷ w) ≡ found_below forest
      (b ∷ w)
  below-other byte b child forest w is =
      λ i. cond (is i) (found child (b ∷ w)) (found_below forest (b ∷ w))

  path-inside : (value : Option V) (forest : Forest V) →
      ((b : ℕ) (r : List ℕ) → IsPointIn (found_below forest) (b ∷ r) →
      IsSome (found_below (marked_below forest) (b ∷ r))) → (r : List ℕ) →
      IsPointIn (inside value forest) r → IsSome (inside (Some tt) (marked_below forest) r)
  path-inside value forest below [] point = refl
  path-inside value forest below (b ∷ r) point = below b r (point-inside value forest b r point)

  mutual
    -- A point of a tree is a path of it.
    point-path : (s : Shape V) (q : List ℕ) → IsPointIn (found s) q → IsSome (found (marked s) q)
    point-path (node prefix value width forest) q point =
        let rest = point-behind prefix (inside value forest) q point in
        subst (λ o. IsSome (option_and_then (inside (Some tt) (marked_below forest)) o))
        (sym rest.1)
        (path-inside value forest (point-path_below forest) rest.0 rest.2)

    point-path_below : (forest : Forest V) (b : ℕ) (r : List ℕ) →
        IsPointIn (found_below forest) (b ∷ r) → IsSome (found_below (marked_below forest) (b ∷ r))
    point-path_below bare b r point =
        absurd (⊎_elim (λ here. false≢true here) (λ parts. false≢true parts.2) point)
    point-path_below (grown byte child forest) b r point =
        elim (b == byte) as (λ t. (b == byte) ≡ t → IsSome (cond t (found (marked child) (b ∷ r))
        (found_below (marked_below forest) (b ∷ r)))) [
          | true ↦ λ is. point-path child (b ∷ r)
              (point-agrees (found_below (grown byte child forest)) (found child) b r
              (λ w. below-first byte b child forest w is) point)
          | false ↦ λ is. point-path_below forest b r
              (point-agrees (found_below (grown byte child forest)) (found_below forest) b r
              (λ w. below-other byte b child forest w is) point)
        ] refl

  -- A key below a child, whose prefix begins with its byte.
  child-key : (byte : ℕ) (child : Shape V) → IsTree child → BeginsWith byte (prefix_of child) →
      (w : List ℕ) × IsSome (found child (byte ∷ w))
  child-key byte child tree begins =
      let has = tree-has-key child tree in byte_key has.key has.there
    where
      byte_key : (key : List ℕ) → IsSome (found child key) →
          (w : List ℕ) × IsSome (found child (byte ∷ w))
      byte_key [] there = absurd (false≢true (ap is_some (sym (found-empty child byte begins))
          ∙ there))
      byte_key (c ∷ w) there =
          ⊎_elim
          (λ same. (w, subst (λ b. IsSome (found child (b ∷ w))) same there))
          (λ other. absurd (false≢true (ap is_some
          (sym (found-other child byte c w begins (ne_eqb c byte other))) ∙ there)))
          (cases_eq c byte)

  -- Where a node has no value, keys of two children part at it.
  fork-point : (byte next : ℕ) (child other : Shape V) (forest : Forest V) → byte ≢ next →
      AreBranches (grown byte child (grown next other forest)) →
      IsPointIn (inside None (grown byte child (grown next other forest))) []
  fork-point byte next child other forest apart branches =
      let left = child-key byte child branches.1 branches.0 in
      let right = child-key next other branches.2.1 branches.2.0 in
      let here = below-first byte byte child (grown next other forest) left.0
      (eq-eqb byte byte refl) in
      let there = below-other byte next child (grown next other forest) right.0
      (ne_eqb next byte (λ is. apart (sym is)))
      ∙ below-first next next other forest right.0 (eq-eqb next next refl) in
      inr (
        byte ∷ left.0,
        next ∷ right.0,
        subst IsSome (sym here) left.1,
        subst IsSome (sym there) right.1,
        parting-other byte next left.0 right.0 apart,
      )

  node-point : (value : Option V) (forest : Forest V) → children.IsAscending (entries_of forest) →
      AreBranches forest → IsTrue (is_key_or_fork value forest) → IsPointIn (inside value forest) []
  node-point (Some value) forest ascending branches fork = inl refl
  node-point None bare ascending branches fork = absurd (false≢true fork)
  node-point None (grown byte child bare) ascending branches fork = absurd (false≢true fork)
  node-point None (grown byte child (grown next other forest)) ascending branches fork =
      let first = ascending_parts (byte, child) ((next, other) ∷ entries_of forest) ascending in
      let less = below_parts byte (next, other) (entries_of forest) first.0 in
      fork-point byte next child other forest (λ is. let lt = less.0 in omega (arith, is, lt))
      branches

  inside-path : (value : Option V) (forest : Forest V) →
      children.IsAscending (entries_of forest) × AreBranches forest
      × IsTrue (is_key_or_fork value forest) →
      ((b : ℕ) (r : List ℕ) → IsSome (found_below (marked_below forest) (b ∷ r)) →
      IsPointIn (found_below forest) (b ∷ r)) → (r : List ℕ) →
      IsSome (inside (Some tt) (marked_below forest) r) → IsPointIn (inside value forest) r
  inside-path value forest tree below [] there =
      node-point value forest tree.0 tree.1 tree.2
  inside-path value forest tree below (b ∷ r) there =
      inside-point value forest b r (below b r there)

  mutual
    -- And a path of a tree is a point of it.
    path-point : (s : Shape V) (q : List ℕ) → IsTree s → IsSome (found (marked s) q) →
        IsPointIn (found s) q
    path-point (node prefix value width forest) q tree there =
        let rest = some-behind (inside (Some tt) (marked_below forest)) (strip_prefix prefix q)
        there in
        behind-point prefix (inside value forest) q rest.0 rest.1
        (inside-path value forest tree (λ b r. path-point_below forest b r tree.1) rest.0 rest.2)
      where
        some-behind : (values : List ℕ → Option (Unit {0})) (o : Option (List ℕ)) →
            IsSome (option_and_then values o) → (r : List ℕ) × (o ≡ Some r) × IsSome (values r)
        some-behind values None there = absurd (false≢true there)
        some-behind values (Some r) there = (r, refl, there)

    path-point_below : (forest : Forest V) (b : ℕ) (r : List ℕ) → AreBranches forest →
        IsSome (found_below (marked_below forest) (b ∷ r)) → IsPointIn (found_below forest) (b ∷ r)
    path-point_below bare b r branches there = absurd (false≢true there)
    path-point_below (grown byte child forest) b r branches there =
        elim (b == byte) as (λ t. (b == byte) ≡ t → IsSome (cond t (found (marked child) (b ∷ r))
        (found_below (marked_below forest) (b ∷ r))) →
        IsPointIn (found_below (grown byte child forest)) (b ∷ r)) [
          | true ↦ λ is there.
              point-agrees (found child) (found_below (grown byte child forest)) b r
              (λ w. sym (below-first byte b child forest w is))
              (path-point child (b ∷ r) branches.1 there)
          | false ↦ λ is there.
              point-agrees (found_below forest) (found_below (grown byte child forest)) b r
              (λ w. sym (below-other byte b child forest w is))
              (path-point_below forest b r branches.2 there)
        ] refl there

-- ---- as many points as nodes

abbrev place : List ℕ → List ℕ × Unit {0}
place path = (path, tt)

paths-behind : (prefix : List ℕ) (paths : List (List ℕ)) →
    map (λ (pair : List ℕ × Unit {0}). (prefix ++ pair.0, pair.1)) (map place paths)
    ≡ map place (map (λ path. prefix ++ path) paths)
paths-behind prefix [] = refl
paths-behind prefix (path ∷ paths) = ap (λ more. (prefix ++ path, tt) ∷ more)
    (paths-behind prefix paths)

module _ {V : Type 0} where
  marked-prefix : (s : Shape V) → prefix_of (marked s) ≡ prefix_of s
  marked-prefix (node prefix value width forest) = refl

  marked-below : (byte : ℕ) (forest : Forest V) →
      below_all nat_cmp byte (entries_of (marked_below forest))
      ≡ below_all nat_cmp byte (entries_of forest)
  marked-below byte bare = refl
  marked-below byte (grown b child forest) =
      ap (λ t. is_lt (nat_cmp byte b) && t) (marked-below byte forest)

  marked-ascending : (forest : Forest V) →
      is_sorted nat_cmp (entries_of (marked_below forest)) ≡ is_sorted nat_cmp (entries_of forest)
  marked-ascending bare = refl
  marked-ascending (grown byte child forest) =
      λ i. marked-below byte forest i && marked-ascending forest i

  mutual
    marked-tree : (s : Shape V) → IsTree s → IsTree (marked s)
    marked-tree (node prefix value width forest) tree =
        (marked-ascending forest ∙ tree.0, marked-branches forest tree.1, refl)

    marked-branches : (forest : Forest V) → AreBranches forest → AreBranches (marked_below forest)
    marked-branches bare branches = tt
    marked-branches (grown byte child forest) branches = (
      subst (BeginsWith byte) (sym (marked-prefix child)) branches.0,
      marked-tree child branches.1,
      marked-branches forest branches.2,
    )

  mutual
    -- The pairs of the marked tree are the paths of the tree.
    marked-pairs : (s : Shape V) → pairs_of (marked s) ≡ map place (paths_of s)
    marked-pairs (node prefix value width forest) =
        ap (λ pairs. map (λ (pair : List ℕ × Unit {0}). (prefix ++ pair.0, pair.1))
        (([], tt) ∷ pairs)) (marked-pairs_below forest)
        ∙ paths-behind prefix ([] ∷ paths_below forest)

    marked-pairs_below : (forest : Forest V) →
        pairs_below (marked_below forest) ≡ map place (paths_below forest)
    marked-pairs_below bare = refl
    marked-pairs_below (grown byte child forest) =
        (λ i. marked-pairs child i ++ marked-pairs_below forest i)
        ∙ sym (map-append place (paths_of child) (paths_below forest))

  -- what stands on the paths of a tree: where its nodes are
  abbrev nodes_at : Shape V → List (List ℕ × Unit {0})
  nodes_at s = pairs_of (marked s)

  nodes-ascend : (s : Shape V) → IsTree s → KeysAscend (λ at. at.0) (nodes_at s)
  nodes-ascend s tree =
      KeysAscend-sorted (nodes_at s) (sorted-pairs (marked s) (marked-tree s tree))

  at-path : (s : Shape V) → IsTree s → (q : List ℕ) →
      Contains (nodes_at s) (q, tt) ↔ IsSome (found (marked s) q)
  at-path s tree q =
      let o = nat_list_cmp_total in
      let same = byte_order-IsAntisymmetric in
      let sorted = sorted-pairs (marked s) (marked-tree s tree) in
      let is = find-pairs (marked s) q (marked-tree s tree) in (
        λ there. subst IsSome is
            (ap is_some (contains-find o same (nodes_at s) sorted q tt there)),
        λ there. find-contains o same (nodes_at s) q tt (is ∙ unit_some (found (marked s) q) there),
      )
    where
      unit_some : (x : Option (Unit {0})) → IsSome x → x ≡ Some tt
      unit_some None there = absurd (false≢true there)
      unit_some (Some u) there = refl

  module _ (m : Map V) (s : Shape V) (tree : IsTree s)
      (is : (q : List ℕ) → finite.get m q ≡ found s q) where
    point-in : (q : List ℕ) → IsPointOf (pairs m) q → IsPointIn (found s) q
    point-in q point =
        let value : (pair : List ℕ × V) → Contains (pairs m) pair → IsSome (found s pair.0) =
        λ pair there. subst IsSome (is pair.0)
        (ap is_some ((Contains-pairs m pair.0 pair.1).0 there)) in
        ⊎_elim
        (λ key. inl (value (q, key.0) key.1))
        (λ parts. inr (
          parts.0.0,
          parts.1.0,
          value parts.0 parts.2,
          value parts.1 parts.3,
          parts.4,
        ))
        point

    point-of : (q : List ℕ) → IsPointIn (found s) q → IsPointOf (pairs m) q
    point-of q point =
        let pair : (k : List ℕ) → IsSome (found s k) → (x : V) × Contains (pairs m) (k, x) =
        λ k there. key-pair m k (subst IsSome (sym (is k)) there) in
        ⊎_elim
        (λ here. inl (pair q here))
        (λ parts.
        let left = pair parts.0 parts.2 in
        let right = pair parts.1 parts.3 in
        inr ((parts.0, left.0), (parts.1, right.0), left.1, right.1, parts.4))
        point

    node-is : (at : List ℕ × Unit {0}) → Contains (nodes_at s) at → IsPointOf (pairs m) at.0
    node-is at there =
        point-of at.0 (path-point s at.0 tree ((at-path s tree at.0).0 there))

    paths-points : points m ≡ set.from_list (map (λ at. at.0) (nodes_at s))
    paths-points =
        set.same_set nat_list_cmp_total byte_order-IsAntisymmetric (points m)
        (set.from_list (map (λ at. at.0) (nodes_at s))) (λ q.
        both (set.contains (points m) q)
        (set.contains (set.from_list {R = byte_order} (map (λ at. at.0) (nodes_at s))) q)
        (λ there. (in-list (map (λ at. at.0) (nodes_at s)) q).1
        (Contains-map (λ (at : List ℕ × Unit {0}). at.0) (nodes_at s) (q, tt)
        ((at-path s tree q).1 (point-path s q (point-in q ((points-is m q).0 there))))))
        (λ there.
        let found = map-contains (λ (at : List ℕ × Unit {0}). at.0) (nodes_at s) q
        ((in-list (map (λ at. at.0) (nodes_at s)) q).0 there) in
        (points-is m q).1 (subst (IsPointOf (pairs m)) found.2 (node-is found.0 found.1))))
      where
        both : (a b : Bool) → (a ≡ true → b ≡ true) → (b ≡ true → a ≡ true) → a ≡ b
        both true b to from = sym (to refl)
        both false true to from = from refl
        both false false to from = refl

    -- A tree has as many nodes as its map has points.
    pub nodes-points : set.len (points m) ≡ length (paths_of s)
    nodes-points =
        ap set.len paths-points ∙ len-ascending (nodes_at s) (nodes-ascend s tree)
        ∙ ap length (marked-pairs s) ∙ length-map (paths_of s) place

    -- As many of them pass a test as points do.
    pub nodes-kept : (test : List ℕ → Bool)
        → count_by test (paths_of s) ≡ set.len (set.retain (points m) test)
    nodes-kept test =
        let key = λ (at : List ℕ × Unit {0}). at.0 in
        let kept = λ (at : List ℕ × Unit {0}). test at.0 in
        let nodes = filter kept (nodes_at s) in
        let many = length-filter kept (nodes_at s) ∙ ap (count_by kept) (marked-pairs s)
        ∙ sum_by-map (λ (at : List ℕ × Unit {0}). cond (kept at) 1 0) place (paths_of s) in
        let long = len-ascending nodes
        (AllPairs-filter (λ a b. IsBefore a.0 b.0) kept (nodes_at s) (nodes-ascend s tree)) in
        let shown = set.same_set nat_list_cmp_total byte_order-IsAntisymmetric
        (set.retain (points m) test) (set.from_list (map key nodes)) (λ q.
        contains-kept nat_list_cmp_total byte_order-IsAntisymmetric (points m) test q
        ∙ same-truth (set.contains (points m) q && test q)
        (set.contains (set.from_list {R = byte_order} (map key nodes)) q)
        (λ both.
        let parts = and_parts (set.contains (points m) q) (test q) both in
        let at = map-contains key (nodes_at s) q ((in-list (map key (nodes_at s)) q).0
        (subst (λ points. set.contains points q ≡ true) paths-points parts.0)) in
        (in-list (map key nodes) q).1 (subst (Contains (map key nodes)) at.2
        (Contains-map key nodes at.0 ((Contains-filter kept (nodes_at s) at.0).1
        (at.1, subst (λ k. test k ≡ true) (sym at.2) parts.1)))))
        (λ there.
        let at = map-contains key nodes q ((in-list (map key nodes) q).0 there) in
        let both = (Contains-filter kept (nodes_at s) at.0).0 at.1 in
        and_from (set.contains (points m) q) (test q)
        (subst (λ points. set.contains points q ≡ true) (sym paths-points)
        ((in-list (map key (nodes_at s)) q).1 (subst (Contains (map key (nodes_at s))) at.2
        (Contains-map key (nodes_at s) at.0 both.0))))
        (subst (λ k. test k ≡ true) at.2 both.1))) in
        let all = ap set.len shown in
        omega (arith, many, long, all)

    -- Those whose path begins with p are at most twice as many as the pairs under p.
    pub nodes-under : (p : List ℕ) → count_by (begins p) (paths_of s) ≤ 2 * length (under m p)
    nodes-under p =
        let kept = λ (at : List ℕ × Unit {0}). begins p at.0 in
        let nodes = filter kept (nodes_at s) in
        let few = points-counted (under m p) (under_ascends V m p) nodes
        (AllPairs-filter (λ a b. IsBefore a.0 b.0) kept (nodes_at s) (nodes-ascend s tree))
        (λ at there.
        let both = (Contains-filter kept (nodes_at s) at).0 there in
        under-point V m p at.0 both.1 (node-is at both.0)) in
        let many = length-filter kept (nodes_at s) ∙ ap (count_by kept) (marked-pairs s)
        ∙ sum_by-map (λ (at : List ℕ × Unit {0}). cond (kept at) 1 0) place (paths_of s) in
        omega (arith, few, many)

    -- Those behind a lower bound whose path meets an upper one are at most as many as that has
    -- bytes, and twice as many as the pairs within both.
    pub nodes-within : (low high : Bound (List ℕ)) →
        count_by (λ path. is_lt (byte_order (bound_string low) path) && is_below high path)
        (paths_of s) ≤ bound_length high + 2 * length (within m low high)
    nodes-within low high =
        let kept = λ (at : List ℕ × Unit {0}).
        is_lt (byte_order (bound_string low) at.0) && is_below high at.0 in
        let few = range-points-few m low high (filter kept (nodes_at s))
        (AllPairs-filter (λ a b. IsBefore a.0 b.0) kept (nodes_at s) (nodes-ascend s tree))
        (λ at there.
        let both = (Contains-filter kept (nodes_at s) at).0 there in
        let meets = and_parts (is_lt (byte_order (bound_string low) at.0)) (is_below high at.0)
        both.1 in
        (node-is at both.0, meets.0, meets.1)) in
        let many = length-filter kept (nodes_at s) ∙ ap (count_by kept) (marked-pairs s)
        ∙ sum_by-map (λ (at : List ℕ × Unit {0}). cond (kept at) 1 0) place (paths_of s) in
        omega (arith, few, many)

    -- Those under p whose path meets an upper bound are no more than that, and one, with p for the
    -- lower bound.
    pub nodes-under-to : (p : List ℕ) (high : Bound (List ℕ)) →
        count_by (λ path. begins p path && is_below high path) (paths_of s)
        ≤ bound_length high + 1 + 2 * length (within m (Included p) high)
    nodes-under-to p high =
        let few = nodes-within (Included p) high in
        let under = λ (at : List ℕ × Unit {0}). begins p at.0 && is_below high at.0 in
        let behind = λ (at : List ℕ × Unit {0}).
        is_lt (byte_order p at.0) && is_below high at.0 in
        let fewer = behind-prefix p (is_below high) (nodes_at s) (nodes-ascend s tree) in
        let left = ap (count_by under) (marked-pairs s)
        ∙ sum_by-map (λ (at : List ℕ × Unit {0}). cond (under at) 1 0) place (paths_of s) in
        let right = ap (count_by behind) (marked-pairs s)
        ∙ sum_by-map (λ (at : List ℕ × Unit {0}). cond (behind at) 1 0) place (paths_of s) in
        omega (arith, few, fewer, left, right)

    -- Those that lead to keys from a string on are at most one more than that has bytes, and twice
    -- as many as the pairs from there on.
    pub nodes-leading : (key : List ℕ) → count_by (leads_from key) (paths_of s)
        ≤ length key + 1 + 2 * length (within m (Included key) Unbounded)
    nodes-leading key =
        let begun = λ (at : List ℕ × Unit {0}). begins at.0 key in
        let few = begun-counted key (nodes_at s) (nodes-ascend s tree) in
        let same = ap (count_by begun) (marked-pairs s)
        ∙ sum_by-map (λ (at : List ℕ × Unit {0}). cond (begun at) 1 0) place (paths_of s) in
        let behind = nodes-within (Included key) Unbounded in
        let either = either-counted (λ path. begins path key)
        (λ path. is_lt (byte_order key path)) (paths_of s) in
        omega (arith, few, same, behind, either)

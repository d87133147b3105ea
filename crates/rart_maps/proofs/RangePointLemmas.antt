-- The points of a map within two bounds are few: at most as many as the upper bound has bytes, and
-- twice as many as keys lie within.
use Rattle.std.proofs.Common.{◌≡◌, ◌≤◌, ◌+◌, ◌*◌, ◌&&◌, ℕ, true, false, List, [], ◌∷◌, ◌++◌, map, filter, length, not, refl, sym, ap, subst, ◌∙◌, ⊎_elim, inl, inr, arith, append-nil}
use Rattle.std.specs.Prelude.{◌==◌, Contains}
use Rattle.std.specs.declared.ops.Bound.{Bound}
use Rattle.std.specs.declared.ops.Bound.TheVariants.{Included, Excluded, Unbounded}
use Rattle.std.specs.Ordering.{is_lt, as_partial_cmp}
use Rattle.std.specs.Cmp.Lexicographic.{nat_list_cmp_total}
use Rattle.std.specs.Range.Bound.{is_up_to_end, bounds_contain}
use Rattle.std.specs.FinSet as set
use Rattle.std.proofs.lemmas.Bool.{and_parts, eqb-true, eq-eqb, false≢true, true≢false, not-true}
use Rattle.std.proofs.lemmas.List.{length-map}
use Rattle.std.proofs.lemmas.List.Filters.{length-filter_both}
use Rattle.std.proofs.lemmas.List.Kept.{AllPairs-filter}
use Rattle.rart_below.specs.Bytes.{byte_order, begins}
use Rattle.rart_maps.specs.Bounds.{bound_string, bound_length}
use Rattle.rart_maps.specs.FoundLaws.{KeysAscend}
use Rattle.rart_maps.specs.Order.{IsBefore, MeetsLow, MeetsHigh}
use Rattle.rart_maps.specs.Pairs.{pairs, within, prefixes_of}
use Rattle.rart_maps.specs.StartLaws.{with_byte}
use Rattle.rart_maps.specs.Versions.{Map}
use Rattle.rart_maps.proofs.ElementLemmas.{Contains-here, Contains-later, Contains-map, Contains-filter}
use Rattle.rart_maps.proofs.FoundLemmas.{within_ascends}
use Rattle.rart_maps.proofs.OrderLemmas.{byte_order-IsAntisymmetric, lt-before, high-meets, bounds_contain-is, begins-append, begins-rest}
use Rattle.rart_maps.proofs.PairLawLemmas.{begins-shorter}
use Rattle.rart_maps.proofs.PointLemmas.{IsPointOf, parting-bytes, map-contains, in-list, len-ascending, points-counted}
use Rattle.rart_maps.proofs.SetLemmas.{few-listed}

-- ---- the strings that begin another

-- the strings that begin w, without the empty one
abbrev nonempty_prefixes : List ℕ → List (List ℕ)
nonempty_prefixes [] = []
nonempty_prefixes (b ∷ w) = map (λ u. b ∷ u) (prefixes_of w)

length-prefixes_of : (w : List ℕ) → length (prefixes_of w) ≡ length w + 1
length-prefixes_of [] = refl
length-prefixes_of (b ∷ w) =
    let longer = length-map (prefixes_of w) (λ u. b ∷ u) in
    let more = length-prefixes_of w in
    omega (arith, longer, more)

length-nonempty_prefixes : (w : List ℕ) → length (nonempty_prefixes w) ≡ length w
length-nonempty_prefixes [] = refl
length-nonempty_prefixes (b ∷ w) =
    let longer = length-map (prefixes_of w) (λ u. b ∷ u) in
    let more = length-prefixes_of w in
    omega (arith, longer, more)

Contains-prefixes_of : (u w : List ℕ) → begins u w ≡ true → Contains (prefixes_of w) u
Contains-prefixes_of [] [] is = Contains-here [] []
Contains-prefixes_of [] (c ∷ w) is = Contains-here [] (map (λ u. c ∷ u) (prefixes_of w))
Contains-prefixes_of (b ∷ u) [] is = absurd (false≢true is)
Contains-prefixes_of (b ∷ u) (c ∷ w) is =
    let parts = and_parts (b == c) (begins u w) is in
    let longer = map (λ u. c ∷ u) (prefixes_of w) in
    Contains-later [] longer (b ∷ u)
    (subst (λ a. Contains longer (a ∷ u)) (sym (eqb-true b c parts.0))
    (Contains-map (λ u. c ∷ u) (prefixes_of w) u (Contains-prefixes_of u w parts.1)))

-- A string that begins w, and before which another stands, is one of them.
Contains-nonempty_prefixes : (v u w : List ℕ) → IsBefore v u → begins u w ≡ true →
    Contains (nonempty_prefixes w) u
Contains-nonempty_prefixes v [] w before is = absurd before
Contains-nonempty_prefixes v (b ∷ u) [] before is = absurd (false≢true is)
Contains-nonempty_prefixes v (b ∷ u) (c ∷ w) before is =
    let parts = and_parts (b == c) (begins u w) is in
    subst (λ a. Contains (map (λ u. c ∷ u) (prefixes_of w)) (a ∷ u))
    (sym (eqb-true b c parts.0))
    (Contains-map (λ u. c ∷ u) (prefixes_of w) u (Contains-prefixes_of u w parts.1))

-- Nodes that each stand at another string of a list are no more than these.
nodes-listed : {A : Type 0} (list : List (List ℕ)) (nodes : List (List ℕ × A)) →
    KeysAscend (λ node. node.0) nodes →
    ((node : List ℕ × A) → Contains nodes node → Contains list node.0) →
    length nodes ≤ length list
nodes-listed list nodes apart all =
    let strings = map (λ node. node.0) nodes in
    let few = few-listed nat_list_cmp_total byte_order-IsAntisymmetric list
    (set.from_list {R = byte_order} strings) (λ s there.
    let found = map-contains (λ node. node.0) nodes s ((in-list strings s).0 there) in
    subst (Contains list) found.2 (all found.0 found.1)) in
    let many = len-ascending nodes apart in
    omega (arith, few, many)

-- ---- the strings that one begins, and bounds on it

begins-itself : (s : List ℕ) → begins s s ≡ true
begins-itself s = ap (begins s) (sym (append-nil s)) ∙ begins-append s []

-- What stands before a string stands before each that this begins.
before-longer : (u s rest : List ℕ) → IsBefore u s → IsBefore u (s ++ rest)
before-longer u [] rest before = absurd before
before-longer [] (c ∷ s) rest before = tt
before-longer (b ∷ u) (c ∷ s) rest before =
    ⊎_elim
    (λ less. inl less)
    (λ both. inr (both.0, before-longer u s rest both.1))
    before

-- Where a string stands before another that it does not begin, so does each that it begins.
longer-before : (s rest w : List ℕ) → begins s w ≡ false → IsBefore s w → IsBefore (s ++ rest) w
longer-before s rest [] apart before = absurd before
longer-before [] rest (c ∷ w) apart before = absurd (true≢false apart)
longer-before (b ∷ s) rest (c ∷ w) apart before =
    ⊎_elim
    (λ less. inl less)
    (λ both. inr (
      both.0,
      longer-before s rest w
          (ap (λ t. t && begins s w) (sym (eq-eqb b c both.0)) ∙ apart) both.1,
    ))
    before

longer-meets_low : (low : Bound (List ℕ)) (s rest : List ℕ) → IsBefore (bound_string low) s →
    MeetsLow low (s ++ rest)
longer-meets_low (Included a) s rest before = inr (before-longer a s rest before)
longer-meets_low (Excluded a) s rest before = before-longer a s rest before
longer-meets_low Unbounded s rest before = tt

longer-meets_high : (high : Bound (List ℕ)) (s rest : List ℕ) →
    begins s (bound_string high) ≡ false → MeetsHigh high s → MeetsHigh high (s ++ rest)
longer-meets_high (Included a) s rest apart meets =
    ⊎_elim
    (λ same. absurd (true≢false (sym (ap (begins s) (sym same) ∙ begins-itself s) ∙ apart)))
    (λ before. inr (longer-before s rest a apart before))
    meets
longer-meets_high (Excluded a) s rest apart meets = longer-before s rest a apart meets
longer-meets_high Unbounded s rest apart meets = tt

-- A string behind the lower bound's that meets the upper one, and does not begin its string, begins
-- none but strings within both.
begun-within : (low high : Bound (List ℕ)) (s u : List ℕ) → IsBefore (bound_string low) s →
    MeetsHigh high s → begins s (bound_string high) ≡ false → begins s u ≡ true →
    bounds_contain (as_partial_cmp byte_order) low high u ≡ true
begun-within low high s u before meets apart is =
    let rest = begins-rest s u is in
    ap (bounds_contain (as_partial_cmp byte_order) low high) rest.1
    ∙ (bounds_contain-is low high (s ++ rest.0)).1
    (longer-meets_low low s rest.0 before, longer-meets_high high s rest.0 apart meets)

-- ---- the points within two bounds

module _ {V : Type 0} where
  -- So where such a string is a point of a map, it is one of the pairs within both too.
  within-point : (m : Map V) (low high : Bound (List ℕ)) (s : List ℕ) →
      IsBefore (bound_string low) s → MeetsHigh high s → begins s (bound_string high) ≡ false →
      IsPointOf (pairs m) s → IsPointOf (within m low high) s
  within-point m low high s before meets apart point =
      let test = bounds_contain (as_partial_cmp byte_order) low high in
      let further : (b : ℕ) (u : List ℕ) → begins (with_byte s b) u ≡ true → test u ≡ true =
      λ b u longer.
      begun-within low high s u before meets apart (begins-shorter s (b ∷ []) u longer) in
      let kept = λ (pair : List ℕ × V). Contains-filter (λ pair. test pair.0) (pairs m) pair in
      ⊎_elim
      (λ key. inl (
        key.0,
        (kept (s, key.0)).1
            (key.1, begun-within low high s s before meets apart (begins-itself s)),
      ))
      (λ parts. let bytes = parting-bytes parts.0.0 parts.1.0 s parts.4 in
      inr (
        parts.0,
        parts.1,
        (kept parts.0).1 (parts.2, further bytes.0 parts.0.0 bytes.3),
        (kept parts.1).1 (parts.3, further bytes.1 parts.1.0 bytes.4),
        parts.4,
      ))
      point

-- Nodes that stand each at another point of a map, behind the lower bound's string and not past the
-- upper bound, are few: of those whose string begins the upper bound's there are at most as many as
-- that has bytes, of the others at most twice as many as pairs within both.
pub range-points-few : {V A : Type 0} (m : Map V) (low high : Bound (List ℕ))
    (nodes : List (List ℕ × A)) → KeysAscend (λ node. node.0) nodes →
    ((node : List ℕ × A) → Contains nodes node →
    IsPointOf (pairs m) node.0
    × (is_lt (byte_order (bound_string low) node.0) ≡ true)
    × (is_up_to_end (as_partial_cmp byte_order) high node.0 ≡ true)) →
    length nodes ≤ bound_length high + 2 * length (within m low high)
range-points-few {V} {A} m low high nodes apart all =
    let before = λ (a b : List ℕ × A). IsBefore a.0 b.0 in
    let test = λ (node : List ℕ × A). begins node.0 (bound_string high) in
    let other = λ (node : List ℕ × A). not (test node) in
    let begun = nodes-listed (nonempty_prefixes (bound_string high)) (filter test nodes)
    (AllPairs-filter before test nodes apart) (λ node there.
    let found = (Contains-filter test nodes node).0 there in
    Contains-nonempty_prefixes (bound_string low) node.0 (bound_string high)
    (lt-before (bound_string low) node.0 (all node found.0).1) found.1) in
    let others = points-counted (within m low high) (within_ascends V m low high)
    (filter other nodes) (AllPairs-filter before other nodes apart) (λ node there.
    let found = (Contains-filter other nodes node).0 there in
    let is = all node found.0 in
    within-point m low high node.0 (lt-before (bound_string low) node.0 is.1)
    ((high-meets high node.0).0 is.2) (not-true (test node) found.1) is.0) in
    let prefix_matches = length-nonempty_prefixes (bound_string high) in
    let both = length-filter_both test other (λ node. refl) nodes in
    omega (arith, begun, others, prefix_matches, both)

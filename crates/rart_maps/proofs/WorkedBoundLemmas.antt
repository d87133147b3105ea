-- The worked values of the bounds, by computation.
use Rattle.std.proofs.Common.{◌≡◌, ◌+◌, ◌-◌, ◌*◌, ◌∙◌, ℕ, List, [], ◌∷◌, length, refl, ap, inl, inr, arith}
use Rattle.std.specs.Prelude.{filter, codes}
use Rattle.std.specs.List.{flat_map}
use Rattle.rart_below.specs.Bytes.{byte_order}
use Rattle.rart_maps.specs.MapParts.{common_part, without}
use Rattle.rart_maps.specs.Pairs.{pairs, prefixes_of}
use Rattle.rart_maps.specs.Points.{places}
use Rattle.rart_maps.specs.Versions.{Map}
use Rattle.rart_maps.proofs.MapPartLemmas.{common_part_has_these_pairs, other_part_has_these_pairs}
use Rattle.rart_maps.specs.WorkedBounds.{LookupOfNoByte, LookupOfThreeBytes, ChangeOfNoByte, ChangeOfThreeBytes, TouchOfNoByte, TouchOfThreeBytes, MeetOfTwo, MeetBelowOne, MeetWithItself, MeetOfEmpty, ReachOfTwo, ReachOfAll, ReachOfNone, MeetOfDistinct, MeetInsideKeys, ReachOfFive, ReachOfOne, ReachPastKeys, WalkOfThree, WalkOfOneBelowOther, WalkOfNone, ReachByPairsOfTwo, ReachByPairsOfAll, ReachByPairsOfNone, ReachByPairsOfThree, RangeOfTwo, RangeOfAll, RangeReversed, RangeOfNone, RangeOfNoneBelow, DifferenceOfThree, IntersectionOfThree, CutOfThree, DifferenceOfLong, IntersectionOfLong, UnionOfThree, JoinedOfThree, ApartOfThree, UnionOfLong, JoinedWithItselfMakesNone, map_of, of_three, of_two}
use Rattle.rart_maps.proofs.MapLemmas.{maps, sets}
use Rattle.rart_maps.proofs.PairLawLemmas.{shared_is_empty}
use Rattle.std.specs.FinMap as finite
use Rattle.std.specs.FinSet as set

pub lookup_of_no_byte : LookupOfNoByte
lookup_of_no_byte = refl

pub lookup_of_three_bytes : LookupOfThreeBytes
lookup_of_three_bytes = refl

pub change_of_no_byte : ChangeOfNoByte
change_of_no_byte = refl

pub change_of_three_bytes : ChangeOfThreeBytes
change_of_three_bytes = refl

pub touch_of_no_byte : TouchOfNoByte
touch_of_no_byte = refl

pub touch_of_three_bytes : TouchOfThreeBytes
touch_of_three_bytes = refl

pub meet_of_two : MeetOfTwo
meet_of_two = simp (maps, sets) refl

pub meet_below_one : MeetBelowOne
meet_below_one = simp (maps, sets) refl

pub meet_with_itself : MeetWithItself
meet_with_itself = simp (maps, sets) refl

pub reach_of_two : ReachOfTwo
reach_of_two = simp (maps, sets) refl

pub reach_of_all : ReachOfAll
reach_of_all = simp (maps, sets) refl

pub reach_of_none : ReachOfNone
reach_of_none = simp (maps, sets) refl

pub meet_of_empty : (V : Type 0) → MeetOfEmpty V
meet_of_empty V m = (
  ap (λ n. 2 * n) ((shared_is_empty V finite.empty m).1 (inl refl)),
  ap (λ n. 2 * n) ((shared_is_empty V m finite.empty).1 (inr refl)),
)

pub meet_of_distinct : MeetOfDistinct
meet_of_distinct = simp (maps, sets) refl

pub meet_inside_keys : MeetInsideKeys
meet_inside_keys = simp (maps, sets) refl

pub reach_of_five : ReachOfFive
reach_of_five = simp (maps, sets) refl

pub reach_of_one : ReachOfOne
reach_of_one = simp (maps, sets) refl

pub reach_past_keys : ReachPastKeys
reach_past_keys = simp (maps, sets) refl

pub walk_of_three : WalkOfThree
walk_of_three = simp (maps, sets) refl

pub walk_of_one_below_other : WalkOfOneBelowOther
walk_of_one_below_other = simp (maps, sets) refl

pub walk_of_none : WalkOfNone
walk_of_none = simp (maps, sets) refl

pub reach_by_pairs_of_two : ReachByPairsOfTwo
reach_by_pairs_of_two = simp (maps, sets) refl

pub range_of_two : RangeOfTwo
range_of_two = simp maps refl

pub range_of_all : RangeOfAll
range_of_all = simp maps refl

pub range_reversed : RangeReversed
range_reversed = simp maps refl

pub range_of_none : RangeOfNone
range_of_none = simp maps refl

pub reach_by_pairs_of_all : ReachByPairsOfAll
reach_by_pairs_of_all = simp maps refl

pub reach_by_pairs_of_none : ReachByPairsOfNone
reach_by_pairs_of_none = simp maps refl

pub reach_by_pairs_of_three : ReachByPairsOfThree
reach_by_pairs_of_three = simp maps refl

pub range_of_none_below : RangeOfNoneBelow
range_of_none_below = simp maps refl

-- the pairs of three keys whose key two others have too
kept-of_three : filter (λ pair. finite.contains_key of_two pair.0) (pairs of_three)
    ≡ (codes "ac", 0) ∷ []
kept-of_three = simp maps refl

common-of_three : pairs (common_part of_three of_two) ≡ (codes "ac", 0) ∷ []
common-of_three = common_part_has_these_pairs ℕ ℕ of_three of_two ∙ kept-of_three

kept-of_long : filter (λ pair. finite.contains_key (map_of (codes "abcde" ∷ [])) pair.0)
    (pairs (map_of (codes "abcd" ∷ [])))
    ≡ []
kept-of_long = simp maps refl

common-of_long :
    pairs (common_part (map_of (codes "abcd" ∷ [])) (map_of (codes "abcde" ∷ []))) ≡ []
common-of_long =
    common_part_has_these_pairs ℕ ℕ (map_of (codes "abcd" ∷ [])) (map_of (codes "abcde" ∷ []))
    ∙ kept-of_long

pub intersection_of_three : IntersectionOfThree
intersection_of_three = simp (maps, sets) refl

pub intersection_of_long : IntersectionOfLong
intersection_of_long = simp (maps, sets) refl

-- A difference enters one more for each common key.
with-keys : (n k places : ℕ) (m : Map ℕ) (list : List (List ℕ × ℕ)) → 3 * places ≡ n
    → pairs m ≡ list → length list ≡ k → 2 * places + finite.len m ≡ n - places + k
with-keys n k places m list most are many =
    let long = finite.len-entries m ∙ ap length are ∙ many in omega (arith, most, long)

pub difference_of_three : DifferenceOfThree
difference_of_three =
    with-keys 12 1 (set.len (places of_three of_two)) (common_part of_three of_two)
    ((codes "ac", 0) ∷ []) intersection_of_three common-of_three refl
    ∙ simp (maps, sets) refl

starts-of_three : set.len (set.from_list {R = byte_order}
    (flat_map (λ (pair : List ℕ × ℕ). prefixes_of pair.0) ((codes "ac", 0) ∷ []))) ≡ 3
starts-of_three = simp sets refl

pub cut_of_three : CutOfThree
cut_of_three =
    ap (λ (list : List (List ℕ × ℕ)).
    set.len (set.from_list {R = byte_order} (flat_map (λ pair. prefixes_of pair.0) list)))
    common-of_three
    ∙ starts-of_three

pub difference_of_long : DifferenceOfLong
difference_of_long =
    with-keys 3 0 (set.len (places (map_of (codes "abcd" ∷ [])) (map_of (codes "abcde" ∷ []))))
    (common_part (map_of (codes "abcd" ∷ [])) (map_of (codes "abcde" ∷ []))) []
    intersection_of_long common-of_long refl
    ∙ simp (maps, sets) refl

-- ---- unions
pub union_of_three : UnionOfThree
union_of_three = simp (maps, sets) refl

pub apart_of_three : ApartOfThree
apart_of_three = simp (maps, sets) refl

pub union_of_long : UnionOfLong
union_of_long = simp (maps, sets) refl

-- how many nodes a union makes, where the right map adds these pairs
abbrev makes_for : Map ℕ → Map ℕ → List (List ℕ × ℕ) → ℕ
makes_for left right added = 3 * set.len (set.intersection (places left right)
    (set.from_list (flat_map (λ pair. prefixes_of pair.0) added)))

added-of_two : pairs (without of_two of_three) ≡ (codes "ade", 0) ∷ []
added-of_two = other_part_has_these_pairs ℕ ℕ of_two of_three ∙ simp maps refl

pub joined_of_three : JoinedOfThree
joined_of_three = ap (makes_for of_three of_two) added-of_two ∙ simp (maps, sets) refl

added-of_none : pairs (without of_two of_two) ≡ []
added-of_none = other_part_has_these_pairs ℕ ℕ of_two of_two ∙ simp maps refl

pub joined_with_itself_makes_none : JoinedWithItselfMakesNone
joined_with_itself_makes_none = ap (makes_for of_two of_two) added-of_none ∙ simp (maps, sets) refl

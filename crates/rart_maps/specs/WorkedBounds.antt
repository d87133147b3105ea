-- Worked values of the bounds, found by hand.
use Rattle.std.specs.Prelude.{◌≡◌, ℕ, List, [], ◌∷◌, map, codes}
use Rattle.std.specs.declared.ops.Bound.TheVariants.{Included, Excluded, Unbounded}
use Rattle.std.specs.FinMap as finite
use Rattle.rart_maps.specs.Versions.{Map}
use Rattle.rart_maps.specs.Bounds.{lookup_bound, change_bound, enter_bound, meet_bound, difference_bound, intersection_bound, cut_makes, union_bound, union_makes, apart_makes, reach_bound, reach_by_pairs, range_bound, node_count}

-- a map of these keys: on values no bound depends
abbrev pub map_of : List (List ℕ) → Map ℕ
map_of keys = finite.from_entries (map (λ key. (key, 0)) keys)

abbrev pub LookupOfNoByte : Type 0
LookupOfNoByte = lookup_bound [] ≡ 1

abbrev pub LookupOfThreeBytes : Type 0
LookupOfThreeBytes = lookup_bound (codes "abc") ≡ 4

abbrev pub ChangeOfNoByte : Type 0
ChangeOfNoByte = change_bound [] ≡ 2

abbrev pub ChangeOfThreeBytes : Type 0
ChangeOfThreeBytes = change_bound (codes "abc") ≡ 5

abbrev pub TouchOfNoByte : Type 0
TouchOfNoByte = enter_bound [] ≡ 3

abbrev pub TouchOfThreeBytes : Type 0
TouchOfThreeBytes = enter_bound (codes "abc") ≡ 12

-- Shared are "", a, ab and b.
abbrev pub MeetOfTwo : Type 0
MeetOfTwo = meet_bound
    (map_of (codes "a" ∷ codes "ab" ∷ codes "b" ∷ []))
    (map_of (codes "ab" ∷ codes "b" ∷ codes "c" ∷ []))
    ≡ 8

-- Shared are "", a, ab and abc.
abbrev pub MeetBelowOne : Type 0
MeetBelowOne = meet_bound (map_of (codes "abc" ∷ [])) (map_of (codes "abc" ∷ codes "abd" ∷ [])) ≡ 8

-- Shared are "" and a.
abbrev pub MeetWithItself : Type 0
MeetWithItself = meet_bound (map_of ([] ∷ codes "a" ∷ [])) (map_of ([] ∷ codes "a" ∷ [])) ≡ 4

-- With a map of no key none is shared.
abbrev pub MeetOfEmpty : Type 0 → Type 0
MeetOfEmpty V = (m : Map V) → (meet_bound finite.empty m ≡ 0) × (meet_bound m finite.empty ≡ 0)

-- Under a are a and ab. Beside these count the byte of the prefix, and one.
abbrev pub ReachOfTwo : Type 0
ReachOfTwo = reach_bound (map_of ([] ∷ codes "a" ∷ codes "ab" ∷ [])) (codes "a") ≡ 4

-- Under the empty string are "", a and ab.
abbrev pub ReachOfAll : Type 0
ReachOfAll = reach_bound (map_of ([] ∷ codes "a" ∷ codes "ab" ∷ [])) [] ≡ 4

-- Under abc is no start.
abbrev pub ReachOfNone : Type 0
ReachOfNone = reach_bound (map_of ([] ∷ codes "a" ∷ codes "ab" ∷ [])) (codes "abc") ≡ 4

-- Shared is "" alone.
abbrev pub MeetOfDistinct : Type 0
MeetOfDistinct = meet_bound (map_of (codes "a" ∷ [])) (map_of (codes "b" ∷ [])) ≡ 2

-- Shared are "", a and ab, which begin other keys in either.
abbrev pub MeetInsideKeys : Type 0
MeetInsideKeys = meet_bound (map_of (codes "abc" ∷ [])) (map_of (codes "abd" ∷ codes "x" ∷ [])) ≡ 6

-- Under the empty string are all five starts, "", a, ab, abc and b.
abbrev pub ReachOfFive : Type 0
ReachOfFive = reach_bound (map_of (codes "a" ∷ codes "ab" ∷ codes "abc" ∷ codes "b" ∷ [])) [] ≡ 6

-- Under b is b alone.
abbrev pub ReachOfOne : Type 0
ReachOfOne =
    reach_bound (map_of (codes "a" ∷ codes "ab" ∷ codes "abc" ∷ codes "b" ∷ [])) (codes "b") ≡ 3

-- Under abcd is no start, and the prefix has four bytes.
abbrev pub ReachPastKeys : Type 0
ReachPastKeys =
    reach_bound (map_of (codes "a" ∷ codes "ab" ∷ codes "abc" ∷ codes "b" ∷ [])) (codes "abcd") ≡ 5

-- The points of ac, ad and b are these and the empty string and a, at which they part.
abbrev pub WalkOfThree : Type 0
WalkOfThree = node_count (map_of (codes "ac" ∷ codes "ad" ∷ codes "b" ∷ [])) ≡ 5

-- The keys abc and ab part nowhere: the one begins the other.
abbrev pub WalkOfOneBelowOther : Type 0
WalkOfOneBelowOther = node_count (map_of (codes "ab" ∷ codes "abc" ∷ [])) ≡ 2

abbrev pub WalkOfNone : Type 0
WalkOfNone = node_count (map_of []) ≡ 0

-- Under a are two keys, and the prefix has one byte.
abbrev pub ReachByPairsOfTwo : Type 0
ReachByPairsOfTwo = reach_by_pairs (map_of (codes "ac" ∷ codes "ad" ∷ codes "b" ∷ []))
    (codes "a") ≡ 6

-- Under the empty string are all three keys.
abbrev pub ReachByPairsOfAll : Type 0
ReachByPairsOfAll = reach_by_pairs (map_of (codes "ac" ∷ codes "ad" ∷ codes "b" ∷ [])) [] ≡ 7

-- Under abc is no key, and the prefix has three bytes.
abbrev pub ReachByPairsOfNone : Type 0
ReachByPairsOfNone = reach_by_pairs (map_of (codes "ac" ∷ codes "ad" ∷ codes "b" ∷ []))
    (codes "abc") ≡ 4

-- Under a are three keys of four.
abbrev pub ReachByPairsOfThree : Type 0
ReachByPairsOfThree =
    reach_by_pairs (map_of (codes "ac" ∷ codes "ad" ∷ codes "ae" ∷ codes "b" ∷ [])) (codes "a") ≡ 8

-- From a up to b, b itself not, are a and ab, and either bound has one byte.
abbrev pub RangeOfTwo : Type 0
RangeOfTwo = range_bound (map_of (codes "a" ∷ codes "ab" ∷ codes "b" ∷ []))
    (Included (codes "a")) (Excluded (codes "b")) ≡ 8

-- Without bounds there are all three keys, and no byte of a bound.
abbrev pub RangeOfAll : Type 0
RangeOfAll =
    range_bound (map_of (codes "a" ∷ codes "ab" ∷ codes "b" ∷ [])) Unbounded Unbounded ≡ 8

-- From b up to a is no key.
abbrev pub RangeReversed : Type 0
RangeReversed = range_bound (map_of (codes "a" ∷ codes "ab" ∷ codes "b" ∷ []))
    (Included (codes "b")) (Included (codes "a")) ≡ 4

-- Where there is no key, three bytes of a bound count.
abbrev pub RangeOfNone : Type 0
RangeOfNone = range_bound (map_of []) (Excluded (codes "abc")) Unbounded ≡ 5

-- So do those of an upper bound.
abbrev pub RangeOfNoneBelow : Type 0
RangeOfNoneBelow = range_bound (map_of []) Unbounded (Included (codes "abc")) ≡ 5

abbrev pub of_three : Map ℕ
of_three = map_of (codes "ac" ∷ codes "ad" ∷ codes "b" ∷ [])

abbrev pub of_two : Map ℕ
of_two = map_of (codes "ac" ∷ codes "ade" ∷ [])

-- Places are "" and a, at which keys part, and the keys ac and ad; ac is a key of both.
abbrev pub DifferenceOfThree : Type 0
DifferenceOfThree = difference_bound of_three of_two ≡ 9

abbrev pub IntersectionOfThree : Type 0
IntersectionOfThree = intersection_bound of_three of_two ≡ 12

-- The strings "", a and ac begin ac.
abbrev pub CutOfThree : Type 0
CutOfThree = cut_makes of_three of_two ≡ 3

abbrev pub UnionOfThree : Type 0
UnionOfThree = union_bound of_three of_two ≡ 8

-- The right one adds ade, which the places "", a and ad begin.
abbrev pub JoinedOfThree : Type 0
JoinedOfThree = union_makes of_three of_two ≡ 9

abbrev pub ApartOfThree : Type 0
ApartOfThree = apart_makes of_three of_two ≡ 12

-- The place of abcd and abcde is abcd alone, though five strings begin both.
abbrev pub DifferenceOfLong : Type 0
DifferenceOfLong =
    difference_bound (map_of (codes "abcd" ∷ [])) (map_of (codes "abcde" ∷ [])) ≡ 2

abbrev pub IntersectionOfLong : Type 0
IntersectionOfLong =
    intersection_bound (map_of (codes "abcd" ∷ [])) (map_of (codes "abcde" ∷ [])) ≡ 3

abbrev pub UnionOfLong : Type 0
UnionOfLong = union_bound (map_of (codes "abcd" ∷ [])) (map_of (codes "abcde" ∷ [])) ≡ 2

-- Where the right one adds nothing, nothing is made.
abbrev pub JoinedWithItselfMakesNone : Type 0
JoinedWithItselfMakesNone = union_makes of_two of_two ≡ 0

-- The worked values of what is read off maps, by computation.
use Rattle.std.proofs.Common.{◌≡◌, ℕ, List, [], ◌∷◌, Option, None, refl, ap, ◌∙◌, inl, inr}
use Rattle.std.specs.List.{filter_map, cons_option}
use Rattle.std.specs.Option.{option_map}
use Rattle.std.specs.FinMap as finite
use Rattle.rart_below.specs.Bytes.{byte_order}
use Rattle.rart_maps.specs.Pairs.{pairs}
use Rattle.rart_maps.specs.WorkedPairs.{WithinIncluded, WithinExcluded, WithinOtherKeys, WithinLowAlone, WithinHighAlone, WithinReversed, WithinOneKey, WithinNoKey, UnderTwo, UnderOne, UnderItself, UnderEmpty, UnderNone, PrefixMatchesShortestFirst, PrefixMatchesOfKey, PrefixMatchesNone, LongestInside, LongestIsItself, LongestIsEmpty, LongestNone, CommonLeftFirst, CommonNone, CommonOfTwo, CommonOfOne, CommonOfEmpty, SharedOfTwo, SharedOfOne, SharedOfEmpty}
use Rattle.rart_maps.proofs.MapLemmas.{maps, sets}
use Rattle.rart_maps.proofs.PairLawLemmas.{pairs-empty, shared_is_empty}

pub within_included : WithinIncluded
within_included = simp maps refl

pub within_excluded : WithinExcluded
within_excluded = simp maps refl

pub within_other_keys : WithinOtherKeys
within_other_keys = simp maps refl

pub within_low_alone : WithinLowAlone
within_low_alone = simp maps refl

pub within_high_alone : WithinHighAlone
within_high_alone = simp maps refl

pub within_reversed : WithinReversed
within_reversed = simp maps refl

pub within_one_key : WithinOneKey
within_one_key = simp maps refl

pub within_no_key : WithinNoKey
within_no_key = simp maps refl

pub under_two : UnderTwo
under_two = simp maps refl

pub under_one : UnderOne
under_one = simp maps refl

pub under_itself : UnderItself
under_itself = simp maps refl

pub under_empty : UnderEmpty
under_empty = simp maps refl

pub under_none : UnderNone
under_none = simp maps refl

pub prefix_matches_shortest_first : PrefixMatchesShortestFirst
prefix_matches_shortest_first = simp maps refl

pub prefix_matches_of_key : PrefixMatchesOfKey
prefix_matches_of_key = simp maps refl

pub prefix_matches_none : PrefixMatchesNone
prefix_matches_none = simp maps refl

pub longest_inside : LongestInside
longest_inside = simp maps refl

pub longest_is_itself : LongestIsItself
longest_is_itself = simp maps refl

pub longest_is_empty : LongestIsEmpty
longest_is_empty = simp maps refl

pub longest_none : LongestNone
longest_none = simp maps refl

pub common_left_first : CommonLeftFirst
common_left_first = simp maps refl

pub common_none : CommonNone
common_none = simp maps refl

pub common_of_two : CommonOfTwo
common_of_two = simp maps refl

pub common_of_one : CommonOfOne
common_of_one = simp maps refl

module _ {V : Type 0} (other : List ℕ → Option V) where
  -- the pair with the other value of its key, if there is one
  abbrev entry_of : List ℕ × V → Option (List ℕ × V × V)
  entry_of pair = option_map (λ x. (pair.0, pair.1, x)) (other pair.0)

  -- No key has another value.
  found-none : ((key : List ℕ) → other key ≡ None) → (list : List (List ℕ × V))
      → filter_map entry_of list ≡ []
  found-none none [] = refl
  found-none none (pair ∷ list) =
      ap (λ o. cons_option (option_map (λ x. (pair.0, pair.1, x)) o) (filter_map entry_of list))
      (none pair.0) ∙ found-none none list

pub common_of_empty : (V : Type 0) → CommonOfEmpty V
common_of_empty V m = (
  ap (filter_map (entry_of (finite.get m))) (pairs-empty V),
  found-none (finite.get finite.empty) (finite.get-empty byte_order) (pairs m),
)

pub shared_of_two : SharedOfTwo
shared_of_two = (
  simp (maps, sets) refl,
  simp (maps, sets) refl,
  simp (maps, sets) refl,
  simp (maps, sets) refl,
  simp (maps, sets) refl,
)

pub shared_of_one : SharedOfOne
shared_of_one = simp (maps, sets) refl

pub shared_of_empty : (V : Type 0) → SharedOfEmpty V
shared_of_empty V m = (
  (shared_is_empty V finite.empty m).1 (inl refl),
  (shared_is_empty V m finite.empty).1 (inr refl),
)

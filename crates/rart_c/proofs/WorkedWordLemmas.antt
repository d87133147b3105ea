-- The worked words, by computation.
use Rattle.std.proofs.Common.{ℕ, List, Some, arith, length, refl, ap, ◌∙◌}
use Rattle.std.specs.Option.{option_map}
use Rattle.rart_maps.proofs.MapLemmas.{maps}
use Rattle.rart_c.specs.Under.{some_of}
use Rattle.rart_c.specs.WorkedWords.{WorkedAdditions, WorkedBounds, WorkedComparisons, WorkedStrings, CountIsTold, LongestIsTold}

pub worked_bounds : WorkedBounds
worked_bounds = (refl, refl, refl, refl)

pub worked_strings : WorkedStrings
worked_strings = (refl, refl, refl)

pub worked_comparisons : WorkedComparisons
worked_comparisons = (refl, refl, λ refused. refl)

pub worked_additions : WorkedAdditions
worked_additions = (simp maps refl, simp maps refl)

pub longest_is_told : (V : Type 0) → LongestIsTold V
longest_is_told V v probe key value = (
  ap (option_map {U = ℕ × V} (λ (pair : List ℕ × V). (length pair.0, pair.1))),
  ap (option_map {U = ℕ × V} (λ (pair : List ℕ × V). (length pair.0, pair.1))),
)

pub count_is_told : (V : Type 0) → CountIsTold V
count_is_told V v prefix first others = (
  λ is. ap (λ (list : List (List ℕ × V)). some_of (length list)) is
      ∙ ap (λ n. Some n) (omega arith),
  ap (λ (list : List (List ℕ × V)). some_of (length list)),
)

-- Laws that show which tuples two sets have together.
use Rattle.std.specs.Prelude.{◌≡◌, ◌&&◌, ◌||◌, not, filter}
use Rattle.tuple_index.specs.declared.tuple.Tuple.{Tuple}
use Rattle.tuple_index.specs.Tuples.{Tuples, common_tuples, has_tuple, listed, tuples_of_either, tuples_of_one_alone, without_tuples_of}

-- ---- which tuples are in it: this says all of it, as sets with the same tuples are one
abbrev pub EitherHas : Type 0
EitherHas = (one other : Tuples) (t : Tuple) →
    has_tuple (tuples_of_either one other) t ≡ (has_tuple one t || has_tuple other t)

abbrev pub CommonHas : Type 0
CommonHas = (one other : Tuples) (t : Tuple) →
    has_tuple (common_tuples one other) t ≡ (has_tuple one t && has_tuple other t)

abbrev pub WithoutOthersHas : Type 0
WithoutOthersHas = (other tuples : Tuples) (t : Tuple) →
    has_tuple (without_tuples_of other tuples) t ≡ (has_tuple tuples t && not (has_tuple other t))

abbrev pub OneAloneHas : Type 0
OneAloneHas = (one other : Tuples) (t : Tuple) →
    has_tuple (tuples_of_one_alone one other) t
    ≡ ((has_tuple one t && not (has_tuple other t)) || (has_tuple other t && not (has_tuple one t)))

-- The common tuples in order are those that a join lists.
abbrev pub CommonAreListed : Type 0
CommonAreListed = (one other : Tuples) →
    listed (common_tuples one other) ≡ filter (has_tuple other) (listed one)

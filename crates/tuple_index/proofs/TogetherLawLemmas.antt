-- The laws of two sets of tuples together.
use Rattle.std.proofs.Common.{◌≡◌, Bool, true, false, cond, not, ◌||◌, List, [], ◌∷◌, filter, map, ap, refl, ◌∙◌}
use Rattle.std.specs.FinMap as finite
use Rattle.std.specs.FinMap.Entries.{where_key}
use Rattle.tuple_index.specs.declared.tuple.Tuple.{Tuple}
use Rattle.tuple_index.specs.TogetherLaws.{CommonAreListed, CommonHas, EitherHas, OneAloneHas, WithoutOthersHas}
use Rattle.tuple_index.specs.Tuples.{has_tuple, tuple_order, without_tuples_of}
use Rattle.tuple_index.proofs.CutLawLemmas.{has-either, retained}
use Rattle.tuple_index.proofs.CutLemmas.{retained-entries}
use Rattle.tuple_index.proofs.IndexLemmas.{own-columns, total}

pub either_has : EitherHas
either_has one other t = has-either one other t

pub common_has : CommonHas
common_has one other t = retained one (has_tuple other) t

pub without_others_has : WithoutOthersHas
without_others_has other tuples t = retained tuples (λ t. not (has_tuple other t)) t

pub one_alone_has : OneAloneHas
one_alone_has one other t =
    has-either (without_tuples_of other one) (without_tuples_of one other) t
    ∙ (λ i. without_others_has other one t i || without_others_has one other t i)

-- What a test of tuples keeps of a set's entries, it keeps of its tuples.
abbrev Entry : Type 0
Entry = Tuple × Unit {0}

first-ones : (b : Bool) (e : Entry) (es : List Entry) →
    map (λ (e : Entry). e.0) (cond b (e ∷ es) es)
    ≡ cond b (e.0 ∷ map (λ (e : Entry). e.0) es) (map (λ (e : Entry). e.0) es)
first-ones true e es = refl
first-ones false e es = refl

kept-listed : (p : Tuple → Bool) (es : List Entry) →
    map (λ (e : Entry). e.0) (where_key tuple_order p es)
    ≡ filter p (map (λ (e : Entry). e.0) es)
kept-listed p [] = refl
kept-listed p (e ∷ es) =
    first-ones (p e.0) e (where_key tuple_order p es)
    ∙ (λ i. cond (p e.0) (e.0 ∷ kept-listed p es i) (kept-listed p es i))

pub common_are_listed : CommonAreListed
common_are_listed one other =
    ap (map (λ (e : Entry). e.0)) (retained-entries total own-columns one (has_tuple other))
    ∙ kept-listed (has_tuple other) (finite.entries one)

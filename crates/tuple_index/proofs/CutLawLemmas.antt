-- The laws of sets of tuples cut at first columns.
use Rattle.std.proofs.Common.{◌≡◌, length, Bool, true, false, cond, not, ◌&&◌, ◌||◌, List, [], ◌∷◌, ◌++◌, Option, Some, None, is_some, refl, sym, ap, subst, ◌∙◌, arith}
use Rattle.std.specs.Prelude.{◌==◌, Contains}
use Rattle.std.specs.FinMap as finite
use Rattle.std.specs.FinMap.Entries.{find}
use Rattle.std.specs.Ordering.{eq_by_cmp}
use Rattle.std.proofs.lemmas.Bool.{and_parts, and_from, false≢true, ne_eqb}
use Rattle.rart_maps.proofs.CallerLemmas.{Contains-entries, Contains-here, Contains-nil, begins_is_of_rest}
use Rattle.tuple_index.specs.declared.tuple.Tuple.{Tuple}
use Rattle.tuple_index.specs.CutLaws.{ColumnsAreFirst, KeptBringsBack, RestoredHas, SomeWithIsATuple, TuplesFixTheSet, WithHas, WithoutHas}
use Rattle.tuple_index.specs.Tuples.{Tuples, columns_of, has_columns, has_tuple, tuple_order, tuples_of_either, tuples_with, tuples_without, with_tuples_of}
use Rattle.tuple_index.proofs.IndexLemmas.{own-columns, total}

kept : (t : Bool) (o : Option (Unit {0})) → is_some (cond t o None) ≡ (is_some o && t)
kept true None = refl
kept true (Some x) = refl
kept false None = refl
kept false (Some x) = refl

pub columns_are_first : ColumnsAreFirst
columns_are_first columns t = begins_is_of_rest columns (columns_of t)

-- a tuple is in what a test keeps of a set where it was there and passes
pub retained : (tuples : Tuples) (p : Tuple → Bool) (t : Tuple) →
    has_tuple (finite.retain_keys tuples p) t ≡ (has_tuple tuples t && p t)
retained tuples p t =
    ap is_some (finite.get-retain_keys tuples p t (λ x tie. ap p (sym (own-columns t x tie))))
    ∙ kept (p t) (finite.get tuples t)

pub with_has : WithHas
with_has tuples columns t = retained tuples (has_columns columns) t

pub without_has : WithoutHas
without_has tuples columns t = retained tuples (λ t. not (has_columns columns t)) t

-- ---- of two sets
abbrev Entry : Type 0
Entry = Tuple × Unit {0}

found-either : (xs ys : List Entry) (t : Tuple) →
    is_some (find tuple_order t (xs ++ ys))
    ≡ (is_some (find tuple_order t xs) || is_some (find tuple_order t ys))
found-either [] ys t = refl
found-either (e ∷ xs) ys t =
    elim (eq_by_cmp tuple_order t e.0) as (λ b.
    is_some (cond b (Some e.1) (find tuple_order t (xs ++ ys)))
    ≡ (is_some (cond b (Some e.1) (find tuple_order t xs)) || is_some (find tuple_order t ys)))
    [ true ↦ refl | false ↦ found-either xs ys t ]

pub has-either : (one other : Tuples) (t : Tuple) →
    has_tuple (tuples_of_either one other) t ≡ (has_tuple one t || has_tuple other t)
has-either one other t =
    ap is_some (finite.get-from_entries total (finite.entries one ++ finite.entries other) t)
    ∙ found-either (finite.entries one) (finite.entries other) t
    ∙ (λ i. is_some (sym (finite.get-entries one t) i)
    || is_some (sym (finite.get-entries other t) i))

chosen : (t a b : Bool) → ((a && t) || (b && not t)) ≡ cond t a b
chosen true true true = refl
chosen true true false = refl
chosen true false true = refl
chosen true false false = refl
chosen false true true = refl
chosen false true false = refl
chosen false false true = refl
chosen false false false = refl

pub restored_has : RestoredHas
restored_has columns other tuples t =
    has-either (tuples_with other columns) (tuples_without tuples columns) t
    ∙ (λ i. with_has other columns t i || without_has tuples columns t i)
    ∙ chosen (has_columns columns t) (has_tuple other t) (has_tuple tuples t)

same-unit : (one other : Option (Unit {0})) → is_some one ≡ is_some other → one ≡ other
same-unit None None same = refl
same-unit None (Some x) same = absurd (false≢true same)
same-unit (Some x) None same = absurd (false≢true (sym same))
same-unit (Some x) (Some y) same = refl

pub tuples_fix_the_set : TuplesFixTheSet
tuples_fix_the_set one other same =
    finite.same_map total own-columns one other
    (λ t. same-unit (finite.get one t) (finite.get other t) (same t))

-- ---- whether there is one
some-tuple : (s : Tuples) → not (finite.len s == 0) ≡ true →
    (t : Tuple) × (has_tuple s t ≡ true)
some-tuple s some =
    elim (finite.entries s) as (λ es. finite.entries s ≡ es →
    (t : Tuple) × (has_tuple s t ≡ true)) [
      | [] ↦ λ is. absurd (false≢true
          (ap (λ n. not (n == 0)) (sym (finite.len-entries s ∙ ap length is)) ∙ some))
      | e ∷ es ↦ λ is. (
        e.0,
        ap is_some ((Contains-entries total own-columns s e.0 e.1).0
            (subst (λ z. Contains z e) (sym is) (Contains-here e es))),
      )
    ] refl

tuple-some : (s : Tuples) (t : Tuple) (o : Option (Unit {0})) → finite.get s t ≡ o →
    is_some o ≡ true → not (finite.len s == 0) ≡ true
tuple-some s t None is there = absurd (false≢true there)
tuple-some s t (Some x) is there =
    elim (finite.entries s) as (λ es. finite.entries s ≡ es → not (finite.len s == 0) ≡ true) [
      | [] ↦ λ none. absurd (Contains-nil (t, x) (subst (λ z. Contains z (t, x)) none
          ((Contains-entries total own-columns s t x).1 is)))
      | e ∷ es ↦ λ more. ap (λ n. not (n == 0)) (finite.len-entries s ∙ ap length more)
          ∙ ap not (ne_eqb (length (e ∷ es)) 0 (λ none. omega (arith, none)))
    ] refl

pub some_with_is_a_tuple : SomeWithIsATuple
some_with_is_a_tuple tuples columns = (
  λ some.
      let found = some-tuple (tuples_with tuples columns) some in
      let both = and_parts (has_tuple tuples found.0) (has_columns columns found.0)
      (sym (with_has tuples columns found.0) ∙ found.1) in
      (found.0, both.1, both.0),
  λ found. tuple-some (tuples_with tuples columns) found.0
      (finite.get (tuples_with tuples columns) found.0) refl
      (with_has tuples columns found.0
      ∙ and_from (has_tuple tuples found.0) (has_columns columns found.0) found.2 found.1),
)

-- ---- together
brought : (t a b : Bool) → (b && not t) ≡ (a && not t) → cond t (a && t) b ≡ a
brought true true b same = refl
brought true false b same = refl
brought false true true same = refl
brought false true false same = same
brought false false true same = same
brought false false false same = refl

pub kept_brings_back : KeptBringsBack
kept_brings_back before after columns same =
    tuples_fix_the_set (with_tuples_of columns (tuples_with before columns) after) before (λ t.
    restored_has columns (tuples_with before columns) after t
    ∙ ap (λ b. cond (has_columns columns t) b (has_tuple after t)) (with_has before columns t)
    ∙ brought (has_columns columns t) (has_tuple before t) (has_tuple after t)
    (sym (without_has after columns t) ∙ ap (λ s. has_tuple s t) same
    ∙ without_has before columns t))

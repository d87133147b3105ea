-- Laws that show what a set of tuples cut at first columns is.
use Rattle.std.specs.Prelude.{◌≡◌, ◌↔◌, ◌++◌, ◌&&◌, ℕ, List, not, IsTrue, if◌then◌else◌}
use Rattle.tuple_index.specs.declared.tuple.Tuple.{Tuple}
use Rattle.tuple_index.specs.Tuples.{Tuples, columns_of, has_columns, has_some_with, has_tuple, tuples_with, tuples_without, with_tuples_of}

-- A tuple has these first columns where its columns are these, and others behind them.
abbrev pub ColumnsAreFirst : Type 0
ColumnsAreFirst = (columns : List ℕ) (t : Tuple) →
    IsTrue (has_columns columns t) ↔ ((rest : List ℕ) × (columns_of t ≡ columns ++ rest))

-- ---- which tuples are in it: this says all of it, as sets with the same tuples are one
abbrev pub WithHas : Type 0
WithHas = (tuples : Tuples) (columns : List ℕ) (t : Tuple) →
    has_tuple (tuples_with tuples columns) t ≡ (has_tuple tuples t && has_columns columns t)

abbrev pub WithoutHas : Type 0
WithoutHas = (tuples : Tuples) (columns : List ℕ) (t : Tuple) →
    has_tuple (tuples_without tuples columns) t
    ≡ (has_tuple tuples t && not (has_columns columns t))

-- Restored from another set, a tuple that begins so is in it where it is in the other one.
abbrev pub RestoredHas : Type 0
RestoredHas = (columns : List ℕ) (other tuples : Tuples) (t : Tuple) →
    has_tuple (with_tuples_of columns other tuples) t
    ≡ (if has_columns columns t then has_tuple other t else has_tuple tuples t)

abbrev pub TuplesFixTheSet : Type 0
TuplesFixTheSet = (one other : Tuples) →
    ((t : Tuple) → has_tuple one t ≡ has_tuple other t) → one ≡ other

-- A set has some such tuple exactly where a tuple of it begins so.
abbrev pub SomeWithIsATuple : Type 0
SomeWithIsATuple = (tuples : Tuples) (columns : List ℕ) →
    IsTrue (has_some_with tuples columns)
    ↔ ((t : Tuple) × IsTrue (has_columns columns t) × IsTrue (has_tuple tuples t))

-- ---- together
-- What was kept of a set brings it back, if none of the other tuples has come or gone since.
abbrev pub KeptBringsBack : Type 0
KeptBringsBack = (before after : Tuples) (columns : List ℕ) →
    tuples_without after columns ≡ tuples_without before columns
    → with_tuples_of columns (tuples_with before columns) after ≡ before

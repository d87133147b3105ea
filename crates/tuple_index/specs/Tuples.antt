-- Tuples, their order and their keys; and an index, which is a finite set of tuples and a number.
use Rattle.std.specs.Prelude.{◌≡◌, ℕ, ◌+◌, ◌-◌, ◌<◌, ◌^◌, ◌==◌, Bool, not, List, [], ◌∷◌, ◌++◌, refl}
use Rattle.std.specs.declared.cmp.Ordering.{Ordering}
use Rattle.std.specs.Int.{w32, to_be_bytes}
use Rattle.std.specs.List.{flat_map}
use Rattle.std.specs.Coded.{Coded, code_by, coded×, coded_ℕ}
use Rattle.std.specs.FinMap as finite
use Rattle.std.specs.FinSet.{FinSet, code}
use Rattle.rart_versioned.specs.Bytes.{byte_order, begins}
use Rattle.tuple_index.specs.declared.tuple.Tuple.{Tuple}

abbrev pub columns_of : Tuple → List ℕ
columns_of t = t.relation ∷ t.entity ∷ t.attribute ∷ t.value ∷ []

-- Tuples are in the order of their first columns that differ.
abbrev pub tuple_order : Tuple → Tuple → Ordering
tuple_order one other = byte_order (columns_of one) (columns_of other)

-- columns in order, each as 4 bytes, the greatest byte first
abbrev pub bytes_of : List ℕ → List ℕ
bytes_of columns = flat_map (to_be_bytes w32) columns

abbrev pub key_of : Tuple → List ℕ
key_of t = bytes_of (columns_of t)

-- ---- finite sets of tuples
abbrev pub Tuples : Type 0
Tuples = FinSet tuple_order

abbrev pub no_tuple : Tuples
no_tuple = finite.empty

abbrev pub has_tuple : Tuples → Tuple → Bool
has_tuple tuples t = finite.contains_key tuples t

abbrev pub with_tuple : Tuples → Tuple → Tuples
with_tuple tuples t = finite.insert tuples t tt

abbrev pub without_tuple : Tuples → Tuple → Tuples
without_tuple tuples t = finite.remove tuples t

-- all tuples of a set, in order
abbrev pub listed : Tuples → List Tuple
listed tuples = finite.keys tuples

-- whether these are the first columns of the tuple
abbrev pub has_columns : List ℕ → Tuple → Bool
has_columns columns t = begins columns (columns_of t)

-- ---- a set cut at first columns
-- the tuples that have these
abbrev pub tuples_with : Tuples → List ℕ → Tuples
tuples_with tuples columns = finite.retain_keys tuples (has_columns columns)

-- the tuples that don't
abbrev pub tuples_without : Tuples → List ℕ → Tuples
tuples_without tuples columns = finite.retain_keys tuples (λ t. not (has_columns columns t))

-- whether there is a tuple that has them
abbrev pub has_some_with : Tuples → List ℕ → Bool
has_some_with tuples columns = not (finite.len (tuples_with tuples columns) == 0)

-- the tuples of either set
abbrev pub tuples_of_either : Tuples → Tuples → Tuples
tuples_of_either one other = finite.from_entries (finite.entries one ++ finite.entries other)

-- the set with the tuples of another one that have these first columns, in place of its own
abbrev pub with_tuples_of : List ℕ → Tuples → Tuples → Tuples
with_tuples_of columns other tuples =
    tuples_of_either (tuples_with other columns) (tuples_without tuples columns)

-- ---- two sets together
-- the tuples that both have
abbrev pub common_tuples : Tuples → Tuples → Tuples
common_tuples one other = finite.retain_keys one (has_tuple other)

-- the set without the tuples of another one
abbrev pub without_tuples_of : Tuples → Tuples → Tuples
without_tuples_of other tuples = finite.retain_keys tuples (λ t. not (has_tuple other t))

-- the tuples that one of them has and the other lacks
abbrev pub tuples_of_one_alone : Tuples → Tuples → Tuples
tuples_of_one_alone one other =
    tuples_of_either (without_tuples_of other one) (without_tuples_of one other)

-- ---- an index
pub record Index : Type 0 where
  pub tuples : Tuples
  pub number : ℕ

abbrev tuple_code : Coded Tuple
tuple_code =
    code_by (ℕ × (ℕ × (ℕ × ℕ))) (coded× coded_ℕ (coded× coded_ℕ (coded× coded_ℕ coded_ℕ)))
    (λ t. (t.relation, (t.entity, (t.attribute, t.value))))
    (λ p. record {
      relation = p.0;
      entity = p.1.0;
      attribute = p.1.1.0;
      value = p.1.1.1;
    }) (λ _. refl)

abbrev pub index_code : Coded Index
index_code =
    code_by (Tuples × ℕ) (coded× (code tuple_code) coded_ℕ)
    (λ index. (index.tuples, index.number))
    (λ p. record { tuples = p.0; number = p.1 }) (λ _. refl)

-- The number can be raised by so much and stay below 2^64.
abbrev pub HasRoom : Index → ℕ → Type 0
HasRoom index more = index.number + more < 2 ^ 64

-- A number of 2^64 - 2 can be raised by one, and not by two.
abbrev pub RoomIsBelowTheLast : Type 0
RoomIsBelowTheLast = (index : Index) → index.number ≡ 2 ^ 64 - 2
    → HasRoom index 1 × (HasRoom index 2 → ⊥)

-- Tuples and their keys: a key gives its tuple back, and keys are ordered as their tuples.
use Rattle.std.proofs.Common.{◌≡◌, ◌<◌, ◌^◌, ℕ, List, [], ◌∷◌, refl, sym, ap, ◌∙◌}
use Rattle.std.specs.Prelude.{All}
use Rattle.std.specs.Ordering.{nat_cmp, ordering_then}
use Rattle.std.specs.declared.cmp.Ordering.{Ordering}
use Rattle.std.specs.declared.cmp.Ordering.TheVariants.{Less, Equal, Greater}
use Rattle.std.proofs.lemmas.List.Elements.{All-nil, All-cons}
use Rattle.std.proofs.lemmas.Nat.{from_be_bytes-to_be_bytes_4}
use Rattle.rart_versioned.specs.Bytes.{begins, byte_order}
use Rattle.tuple_index.specs.declared.tuple.Tuple.{Tuple}
use Rattle.tuple_index.specs.Decoding.{tuple_at}
use Rattle.tuple_index.specs.Indexes.{IsNarrow, IsTupleKey}
use Rattle.tuple_index.specs.Tuples.{bytes_of, columns_of, has_columns, key_of, tuple_order}
use Rattle.tuple_index.proofs.ColumnLemmas.{columns-begin, columns-order}

pub narrow-columns : (t : Tuple) → IsNarrow t → All (λ n. n < 2 ^ 32) (columns_of t)
narrow-columns t narrow =
    let P = λ (n : ℕ). n < 2 ^ 32 in
    All-cons P t.relation (t.entity ∷ t.attribute ∷ t.value ∷ []) narrow.relation
    (All-cons P t.entity (t.attribute ∷ t.value ∷ []) narrow.entity
    (All-cons P t.attribute (t.value ∷ []) narrow.attribute
    (All-cons P t.value [] narrow.value (All-nil P))))

pub tuple-back : (t : Tuple) → IsNarrow t → tuple_at (key_of t) ≡ t
tuple-back t narrow i = record {
  relation = from_be_bytes-to_be_bytes_4 t.relation narrow.relation i;
  entity = from_be_bytes-to_be_bytes_4 t.entity narrow.entity i;
  attribute = from_be_bytes-to_be_bytes_4 t.attribute narrow.attribute i;
  value = from_be_bytes-to_be_bytes_4 t.value narrow.value i;
}

-- Different tuples have different keys.
pub own-keys : (one other : Tuple) → IsNarrow one → IsNarrow other → key_of one ≡ key_of other →
    one ≡ other
own-keys one other narrow_one narrow_other same =
    sym (tuple-back one narrow_one) ∙ ap tuple_at same ∙ tuple-back other narrow_other

pub keys-order : (one other : Tuple) → IsNarrow one → IsNarrow other →
    byte_order (key_of one) (key_of other) ≡ tuple_order one other
keys-order one other narrow_one narrow_other =
    columns-order (columns_of one) (columns_of other)
    (narrow-columns one narrow_one) (narrow-columns other narrow_other)

then-end : (o : Ordering) → ordering_then o Equal ≡ o
then-end Less = refl
then-end Equal = refl
then-end Greater = refl

-- what decides between two tuples, as a comparison of them tells it
pub compared : (one other : Tuple) →
    ordering_then (nat_cmp one.relation other.relation)
    (ordering_then (nat_cmp one.entity other.entity)
    (ordering_then (nat_cmp one.attribute other.attribute) (nat_cmp one.value other.value)))
    ≡ tuple_order one other
compared one other =
    ap (λ last. ordering_then (nat_cmp one.relation other.relation)
    (ordering_then (nat_cmp one.entity other.entity)
    (ordering_then (nat_cmp one.attribute other.attribute) last)))
    (sym (then-end (nat_cmp one.value other.value)))

-- ---- of a string that is a tuple's key

pub key-tuple : (key : List ℕ) (is : IsTupleKey key) → tuple_at key ≡ is.0
key-tuple key is = ap tuple_at is.2 ∙ tuple-back is.0 is.1

-- Two keys are ordered as the tuples that they stand for,
pub order-kept : (one other : List ℕ) → IsTupleKey one → IsTupleKey other →
    tuple_order (tuple_at one) (tuple_at other) ≡ byte_order one other
order-kept one other is_one is_other =
    (λ i. tuple_order (key-tuple one is_one i) (key-tuple other is_other i))
    ∙ sym (keys-order is_one.0 is_other.0 is_one.1 is_other.1)
    ∙ (λ i. byte_order (sym is_one.2 i) (sym is_other.2 i))

-- and begin with the same columns.
pub columns-kept : (columns key : List ℕ) → All (λ n. n < 2 ^ 32) columns → IsTupleKey key →
    begins (bytes_of columns) key ≡ has_columns columns (tuple_at key)
columns-kept columns key narrow is =
    ap (begins (bytes_of columns)) is.2
    ∙ columns-begin columns (columns_of is.0) narrow (narrow-columns is.0 is.1)
    ∙ ap (has_columns columns) (sym (key-tuple key is))

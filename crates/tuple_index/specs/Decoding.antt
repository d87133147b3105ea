-- The tuple that a key stands for: inside only.
use Rattle.std.specs.Prelude.{ℕ, List, take, drop}
use Rattle.std.specs.Int.{w32, from_be_bytes}
use Rattle.tuple_index.specs.declared.tuple.Tuple.{Tuple}

-- the column in the 4 bytes from here on
abbrev pub column_of : ℕ → List ℕ → ℕ
column_of at key = from_be_bytes w32 (take 4 (drop at key))

abbrev pub tuple_at : List ℕ → Tuple
tuple_at key = record {
  relation = column_of 0 key;
  entity = column_of 4 key;
  attribute = column_of 8 key;
  value = column_of 12 key;
}

-- The index that a version stands for, and when each of its keys is a tuple's: inside only.
use Rattle.std.specs.Prelude.{◌≡◌, ℕ, ◌<◌, ◌^◌, List, [], ◌∷◌, map, ⊤}
use Rattle.std.specs.FinMap as finite
use Rattle.rart_maps.specs.Pairs.{pairs}
use Rattle.rart_maps.specs.Versions.{Version}
use Rattle.tuple_index.specs.declared.tuple.Tuple.{Tuple}
use Rattle.tuple_index.specs.Decoding.{tuple_at}
use Rattle.tuple_index.specs.Tuples.{Index, Tuples, key_of}

-- Each column is a number of 32 bits.
pub record IsNarrow (t : Tuple) : Type 0 where
  pub relation : t.relation < 2 ^ 32
  pub entity : t.entity < 2 ^ 32
  pub attribute : t.attribute < 2 ^ 32
  pub value : t.value < 2 ^ 32

-- The string is the key of a tuple.
abbrev pub IsTupleKey : List ℕ → Type 0
IsTupleKey key = (t : Tuple) × IsNarrow t × (key ≡ key_of t)

abbrev pub Pair : Type 0
Pair = List ℕ × Unit {0}

abbrev pub AreTupleKeys : List Pair → Type 0
AreTupleKeys [] = ⊤
AreTupleKeys (pair ∷ pairs) = IsTupleKey pair.0 × AreTupleKeys pairs

-- the tuple of a pair
abbrev pub entry_of : Pair → Tuple × Unit {0}
entry_of pair = (tuple_at pair.0, tt)

abbrev pub tuples_in : List Pair → Tuples
tuples_in pairs = finite.from_sorted (map entry_of pairs)

abbrev pub index_of : Version (Unit {0}) → Index
index_of v = record { tuples = tuples_in (pairs v.content); number = v.number }

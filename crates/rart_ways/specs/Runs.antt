-- Pairs that ascend, as runs of keys that begin alike.
use Rattle.std.specs.Prelude.{◌≤◌, ◌+◌, ◌==◌, ℕ, List, [], ◌∷◌, if◌then◌else◌, drop, length, map, take, ⊤}
use Rattle.rart_below.specs.Bytes.{common_length}
use Rattle.rart_node.specs.Trees.{BeginsWith}
use Rattle.rart_ways.specs.Paths.{first_byte}

module _ {K V : Type 0} (bytes : K → List ℕ) where
  -- the pairs from a place on, each key without its first `depth` bytes
  abbrev pub run_from : ℕ → ℕ → List (K × V) → List (List ℕ × V)
  run_from from depth pairs = map (λ pair. (drop depth (bytes pair.0), pair.1)) (drop from pairs)

  -- Each key has so many bytes.
  abbrev pub AllLong : ℕ → List (K × V) → Type 0
  AllLong depth [] = ⊤
  AllLong depth (pair ∷ pairs) = (depth ≤ length (bytes pair.0)) × AllLong depth pairs

module _ {V : Type 0} where
  -- Each key begins with the byte.
  abbrev pub AllBegin : ℕ → List (List ℕ × V) → Type 0
  AllBegin byte [] = ⊤
  AllBegin byte (pair ∷ pairs) = BeginsWith byte pair.0 × AllBegin byte pairs

  -- The last key, where there is one, does not begin with the byte.
  abbrev pub EndsBesides : ℕ → List (List ℕ × V) → Type 0
  EndsBesides byte [] = ⊤
  EndsBesides byte (pair ∷ []) = ¬ BeginsWith byte pair.0
  EndsBesides byte (pair ∷ next ∷ pairs) = EndsBesides byte (next ∷ pairs)

  -- how many runs there are of keys that stand together and begin with one byte
  abbrev pub runs : List (List ℕ × V) → ℕ
  runs [] = 0
  runs (pair ∷ []) = 1
  runs (pair ∷ next ∷ pairs) =
      (if first_byte pair.0 == first_byte next.0 then 0 else 1) + runs (next ∷ pairs)

  -- the last key of a list, or this one
  abbrev pub last_key : List ℕ → List (List ℕ × V) → List ℕ
  last_key key [] = key
  last_key key (pair ∷ pairs) = last_key pair.0 pairs

  -- what the first and the last key have in common at their start
  abbrev pub shared : List (List ℕ × V) → List ℕ
  shared [] = []
  shared (pair ∷ pairs) = take (common_length pair.0 (last_key pair.0 pairs)) pair.0

-- What a plain tree stands for, and what its iterator has left.
use Rattle.std.specs.Prelude.{ℕ, List, [], ◌∷◌, map}
use Rattle.std.specs.Borrow.{Bor}
use Rattle.std.specs.Coded.{Coded, coded_list, coded_ℕ}
use Rattle.std.specs.FinMap as finite
use Rattle.rart_below.specs.Bytes.{byte_order}

-- a finite map from byte strings to values, its keys in the order of byte strings
abbrev pub PlainMap : Type 0 → Type 0
PlainMap V = finite.FinMap byte_order V

abbrev pub plain_code : {V : Type 0} → Coded V → Coded (PlainMap V)
plain_code values = finite.code (coded_list coded_ℕ) values

-- the map with these pairs put in, one after the other
abbrev pub put_all : {V : Type 0} → PlainMap V → List (List ℕ × V) → PlainMap V
put_all m [] = m
put_all m (pair ∷ others) = put_all (finite.insert m pair.0 pair.1) others

module _ {K V : Type 0} (bytes : K → List ℕ) where
  -- pairs, each key by its bytes
  abbrev pub by_bytes : List (K × V) → List (List ℕ × V)
  by_bytes pairs = map (λ pair. (bytes pair.0, pair.1)) pairs

  -- the map that has these pairs
  abbrev pub plain_map : List (K × V) → PlainMap V
  plain_map pairs = finite.from_entries (by_bytes pairs)

  -- a pair, by references to its key and to its value
  abbrev pub lent_pair : Bor K × Bor V → List ℕ × V
  lent_pair item = (bytes item.0.now, item.1.now)

-- What a version becomes by many insertions.
use Rattle.std.specs.Prelude.{◌≡◌, ℕ, ◌+◌, List, Option, length}
use Rattle.std.specs.Iterator.{Drains}
use Rattle.rart_below.specs.Plain.{by_bytes, put_all}
use Rattle.rart_maps.specs.Versions.{Version}

module _ {V : Type 0} where
  -- the map with these pairs put in, one after the other, the number one greater for each
  abbrev pub with_pairs : Version V → List (List ℕ × V) → Version V
  with_pairs v pairs =
      record { content = put_all v.content pairs; number = v.number + length pairs }

module _ {K V U T : Type 0} (bytes : K → List ℕ) (becomes : U → T → Type 0)
    (steps : T → Option (K × V) → T → Type 0) where
  -- The pairs become an iterator, which gives these until it is over, and they are put in.
  pub record PutsIn (pairs : U) (before after : Version V) : Type 0 where
    pub walk : T
    pub all : List (K × V)
    pub begins : becomes pairs walk
    pub drains : Drains steps walk all
    pub is : after ≡ with_pairs before (by_bytes bytes all)

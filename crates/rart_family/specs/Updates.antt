-- Where an update takes memory for its key.
use Rattle.std.specs.Prelude.{ℕ, List, Option, IsSome, IsSomeAnd, ◌⊎◌, ⊤}
use Rattle.rart_versioned.specs.SlotUpdate.{SlotUpdate}
use Rattle.rart_versioned.specs.SlotUpdate.TheVariants.{Insert}
use Rattle.rart_maps.specs.Versions.{Version, value_at}

module _ {V : Type 0} where
  -- a callback's answer sets the key
  abbrev pub Inserts : SlotUpdate V → Type 0
  Inserts (Insert value) = ⊤
  Inserts answer = ⊥

  -- The key is there, or the answer sets it. There is no answer where a callback fails.
  abbrev pub IsThereOrSet : Version V → List ℕ → Option (SlotUpdate V) → Type 0
  IsThereOrSet v w answer = IsSome (value_at v w) ⊎ IsSomeAnd answer Inserts

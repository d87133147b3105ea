-- What is always true of a table: it counts its keys, and none is longer than a key may be.
use Rattle.std.specs.Prelude.{◌≡◌, ℕ}
use Rattle.std.specs.FinMap as finite
use Rattle.rart_c.specs.Trees.{KeepsLimit}
use Rattle.rart_maps.specs.Versions.{Version}

pub record IsSound {V : Type 0} (len : ℕ) (version : Version V) (longest : ℕ) : Type 0 where
  pub count : len ≡ finite.len version.content
  pub limit : KeepsLimit (record { version = version; longest = longest })

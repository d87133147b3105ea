-- What making changes on a version leaves.
use Rattle.std.specs.Prelude.{◌≡◌, ◌+◌, List}
use Rattle.rart_maps.specs.ChangeLists.{Change, effects, patched}
use Rattle.rart_maps.specs.Versions.{Version}

-- These changes were made, and the number is one greater for each that takes effect.
pub record IsPatched {V : Type 0} (start : Version V) (made : List (Change V)) (now : Version V)
    : Type 0 where
  pub content : now.content ≡ patched start.content made
  pub number : now.number ≡ start.number + effects start.content made

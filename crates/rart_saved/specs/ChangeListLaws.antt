-- What is said of the changes from one version to another.
use Rattle.std.specs.Prelude.{ℕ, ◌+◌, ◌<◌, ◌^◌, Bool, Option}
use Rattle.std.specs.FinMap as finite
use Rattle.rart_maps.specs.ChangeLists.{changes}
use Rattle.rart_maps.specs.Versions.{Version}
use Rattle.rart_saved.specs.ChangeForms.{IsChangeList}
use Rattle.rart_saved.specs.Forms.{IsVersionOf}

-- The changes from one to another, where two values are the same by `same`, are a list of changes
-- whose keys are as long as theirs.
abbrev pub ChangesAreLists : Type 0 → Type 0
ChangesAreLists V = (same : V → V → Bool) (most : Option ℕ) (old new : Version V)
    → IsVersionOf most old → IsVersionOf most new
    → finite.len old.content + finite.len new.content < 2 ^ 64
    → IsChangeList most (changes same old.content new.content)

-- What a version becomes by a key that is looked up first.
use Rattle.std.specs.Prelude.{ℕ, List, if◌then◌else◌}
use Rattle.rart_maps.specs.Versions.{Version, has_key, with_key}

-- with the key set to the value where it was not there, and the number then one greater
abbrev pub after_addition : {V : Type 0} → Version V → List ℕ → V → Version V
after_addition v w x = if has_key v w then v else with_key v w x 1

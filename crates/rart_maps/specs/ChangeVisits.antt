-- How a closure is shown a change.
use Rattle.std.specs.Prelude.{◌≡◌, ℕ, List, Option}
use Rattle.std.specs.Borrow.{Bor}
use Rattle.std.specs.Option.{option_copied}
use Rattle.rart_maps.specs.ChangeLists.{Change}

module _ {V : Type 0} where
  -- by references to the values before and after, where there are any
  abbrev pub ShowsValues : Option (Bor V) → Option (Bor V) → Change V → Type 0
  ShowsValues before after change =
      (option_copied before ≡ change.1) × (option_copied after ≡ change.2)

  -- and a key with these bytes
  abbrev pub ByKeyChange : {K : Type 0} → (K → List ℕ) →
      K × (Option (Bor V) × (Option (Bor V) × Unit {0})) → Change V → Type 0
  ByKeyChange bytes shown change =
      (bytes shown.0 ≡ change.0) × ShowsValues shown.1.0 shown.1.1.0 change

  -- or a view of the key
  abbrev pub ByViewChange :
      List ℕ × (Option (Bor V) × (Option (Bor V) × Unit {0})) → Change V → Type 0
  ByViewChange shown change = (shown.0 ≡ change.0) × ShowsValues shown.1.0 shown.1.1.0 change

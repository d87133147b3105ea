-- A change in a list, by its key's bytes.
use Rattle.std.specs.Prelude.{◌≡◌, ℕ, List, Option}
use Rattle.rart_maps.specs.ChangeLists.{Change}
use Rattle.rart_changes.specs.declared.tracked.plain.listing.KeyChange.{KeyChange}

abbrev pub shown_change : {K V : Type 0} → (K → List ℕ) → KeyChange K V → Change V
shown_change bytes change = (bytes change.key, change.before, change.after)

-- What a change in a list tells: its key, by these bytes, and the values before and after, where
-- there are any.
abbrev pub ListedChangesShow : (K V : Type 0) → (K → List ℕ) → Type 0
ListedChangesShow K V bytes = (k : K) (before after : Option V)
    → shown_change bytes (record { key = k; before = before; after = after })
    ≡ (bytes k, before, after)

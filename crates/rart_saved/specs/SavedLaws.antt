-- What the form of a version fixes.
use Rattle.std.specs.Prelude.{◌≡◌, ℕ, List, ◌++◌}
use Rattle.rart_maps.specs.Versions.{Version}
use Rattle.rart_saved.specs.Forms.{saved}

module _ {V : Type 0} (written : V → List ℕ) (kind : ℕ) where
  -- Versions of the same form are equal.
  abbrev pub FormsAreOfOne : Type 0
  FormsAreOfOne = (v w : Version V) → saved written kind v ≡ saved written kind w → v ≡ w

  -- No version's form begins another's.
  abbrev pub FormsStandApart : Type 0
  FormsStandApart = (v w : Version V) (r s : List ℕ)
      → saved written kind v ++ r ≡ saved written kind w ++ s → (v ≡ w) × (r ≡ s)

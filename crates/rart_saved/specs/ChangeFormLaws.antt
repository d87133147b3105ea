-- What the form of a list of changes fixes, and worked forms, written out by hand, without sums.
use Rattle.std.specs.Prelude.{◌≡◌, ◌≢◌, ℕ, List, [], ◌∷◌, ◌++◌, Some, None, codes}
use Rattle.rart_maps.specs.ChangeLists.{Change}
use Rattle.rart_maps.specs.Versions.{Version}
use Rattle.rart_saved.specs.ChangeForms.{changes_body, saved_changes}
use Rattle.rart_saved.specs.Forms.{saved}
use Rattle.rart_saved.specs.Values.{eight_bytes, sized}

module _ {V : Type 0} (written : V → List ℕ) (kind : ℕ) where
  -- Lists of the same form are equal.
  abbrev pub ChangeFormsAreOfOne : Type 0
  ChangeFormsAreOfOne = (one other : List (Change V))
      → saved_changes written kind one ≡ saved_changes written kind other → one ≡ other

  -- No list's form begins another's.
  abbrev pub ChangeFormsStandApart : Type 0
  ChangeFormsStandApart = (one other : List (Change V)) (r s : List ℕ)
      → saved_changes written kind one ++ r ≡ saved_changes written kind other ++ s
      → (one ≡ other) × (r ≡ s)

  -- No version's form is a list's, and neither begins the other.
  abbrev pub ChangesAreNoVersion : Type 0
  ChangesAreNoVersion = (v : Version V) (list : List (Change V)) (r s : List ℕ)
      → saved written kind v ++ r ≢ saved_changes written kind list ++ s

-- No change: the head, and that there are none.
abbrev pub NoChange : Type 0
NoChange = changes_body eight_bytes 1 [] ≡ codes "changes" ++ 1 ∷ 1 ∷ 0 ∷ []

-- One key of each sort, which stand in the order of their keys: inserted, replaced, removed.
abbrev pub OneOfEach : Type 0
OneOfEach = changes_body sized 2
    ((codes "a", None, Some (codes "x")) ∷ (codes "ab", Some [], Some (codes "yz"))
    ∷ (codes "b", Some (codes "w"), None) ∷ [])
    ≡ codes "changes" ++ 1 ∷ 2 ∷ 3
    ∷ 0 ∷ 1 ∷ 97 ∷ 1 ∷ 1 ∷ 120
    ∷ 1 ∷ 1 ∷ 98 ∷ 3 ∷ 0 ∷ 2 ∷ 121 ∷ 122
    ∷ 0 ∷ 1 ∷ 98 ∷ 2 ∷ 1 ∷ 119 ∷ []

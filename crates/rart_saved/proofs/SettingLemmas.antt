-- Keys that are set, and the changes that they are.
use Rattle.std.proofs.Common.{◌≡◌, ℕ, Bool, true, false, List, [], ◌∷◌, ◌++◌, map, Option, Some, refl, sym, ap, subst, ◌∙◌, ◌⊎◌, inl, inr, ⊎_elim}
use Rattle.std.specs.Prelude.{Contains}
use Rattle.std.specs.Option.{unwrap_or}
use Rattle.std.specs.Ordering.{eq_by_cmp, is_eq}
use Rattle.std.specs.Cmp.{tied_itself}
use Rattle.std.specs.FinMap as finite
use Rattle.std.proofs.lemmas.Bool.{false≢true}
use Rattle.std.proofs.lemmas.Cmp.{nat_list_cmp_total}
use Rattle.rart_below.specs.Bytes.{byte_order}
use Rattle.rart_maps.specs.ChangeLaws.{IsReflexive}
use Rattle.rart_maps.specs.ChangeLists.{Change, changes, differ, patched}
use Rattle.rart_maps.specs.FoundLaws.{KeysAscend}
use Rattle.rart_maps.specs.Lookups.{with_value}
use Rattle.rart_maps.specs.Versions.{Map}
use Rattle.rart_maps.proofs.ChangeLawLemmas.{differ-itself}
use Rattle.rart_maps.proofs.ChangeLemmas.{KeysAscend-kept, changes-ascend, changes-from, changes-to, filter_map-all, patched-elsewhere, patched-there}
use Rattle.rart_maps.proofs.ElementLemmas.{Contains-cases, Contains-here, Contains-later, Contains-nil}
use Rattle.rart_maps.proofs.FoundLemmas.{ascending_lists_are_fixed}
use Rattle.rart_maps.proofs.PointLemmas.{map-contains}
use Rattle.rart_maps.proofs.VersionLemmas.{same_key}
use Rattle.rart_saved.specs.FamilyForms.{as_setting}

-- the map with each key set to what it has now
pub settled : {V : Type 0} → Map V → List (List ℕ × Option V) → Map V
settled m [] = m
settled m (pair ∷ later) = settled (with_value m pair.0 pair.1) later

pub settled-patched : {V : Type 0} (changed : List (Change V)) (m : Map V)
    → settled m (map as_setting changed) ≡ patched m changed
unfolding settled
settled-patched [] m = refl
settled-patched (change ∷ later) m = settled-patched later (with_value m change.0 change.2)

-- one more
pub settled-next : {V : Type 0} (done : List (List ℕ × Option V)) (pair : List ℕ × Option V)
    (m : Map V) → settled m (done ++ pair ∷ []) ≡ with_value (settled m done) pair.0 pair.1
unfolding settled
settled-next [] pair m = refl
settled-next (one ∷ done) pair m = settled-next done pair (with_value m one.0 one.1)

pub settled-none : {V : Type 0} (m : Map V) → settled m [] ≡ m
unfolding settled
settled-none m = refl

-- A change of this key is there, or none.
find-key : {V : Type 0} (list : List (Change V)) (q : List ℕ)
    → ((d : Change V) × Contains list d × (q ≡ d.0))
    ⊎ ((d : Change V) → Contains list d → q ≡ d.0 → ⊥)
find-key [] q = inr (λ d there is. Contains-nil d there)
find-key {V} (c ∷ list) q =
    elim (eq_by_cmp byte_order q c.0) as (λ t. eq_by_cmp byte_order q c.0 ≡ t
    → ((d : Change V) × Contains (c ∷ list) d × (q ≡ d.0))
    ⊎ ((d : Change V) → Contains (c ∷ list) d → q ≡ d.0 → ⊥)) [
      | true ↦ λ tie. inl (c, Contains-here c list, same_key q c.0 tie)
      | false ↦ λ apart. ⊎_elim
          (λ found. inl (found.0, Contains-later c list found.0 found.1, found.2))
          (λ none. inr (λ d there is. ⊎_elim
          (λ here. false≢true (sym apart
          ∙ ap (λ k. eq_by_cmp byte_order q k) (ap (λ (e : Change V). e.0) here ∙ sym is)
          ∙ ap is_eq (tied_itself nat_list_cmp_total q)))
          (λ later. none d later is)
          (Contains-cases c list d there)))
          (find-key list q)
    ] refl

module _ {V : Type 0} (same : V → V → Bool) (old : Map V) where
  -- what was there before a key was set
  abbrev pub as_change : List ℕ × Option V → Change V
  as_change pair = (pair.0, finite.get old pair.0, pair.1)

  -- Each key has something else now.
  abbrev pub AreChanges : List (List ℕ × Option V) → Type 0
  AreChanges list = (pair : List ℕ × Option V) → Contains list pair
      → differ same (finite.get old pair.0) pair.1 ≡ true

  settings-back : (list : List (List ℕ × Option V)) → map as_setting (map as_change list) ≡ list
  settings-back [] = refl
  settings-back (pair ∷ list) = ap (λ l. pair ∷ l) (settings-back list)

  -- A change of a list of these is one that tells what was there, and differs.
  change-of : (list : List (List ℕ × Option V)) → AreChanges list → (c : Change V)
      → Contains (map as_change list) c
      → (finite.get old c.0 ≡ c.1) × (differ same c.1 c.2 ≡ true)
  change-of list are c there =
      let found = map-contains as_change list c there in
      subst (λ (d : Change V). (finite.get old d.0 ≡ d.1) × (differ same d.1 d.2 ≡ true)) found.2
      (refl, are found.0 found.1)

  ascends : (list : List (List ℕ × Option V)) → KeysAscend (λ pair. pair.0) list
      → KeysAscend (λ (c : Change V). c.0) (map as_change list)
  ascends list up =
      subst (KeysAscend (λ (c : Change V). c.0)) (filter_map-all as_change list)
      (KeysAscend-kept (λ (pair : List ℕ × Option V). pair.0) (λ (c : Change V). c.0)
      (λ pair. Some (as_change pair)) (λ pair c is. sym (ap (λ o. (unwrap_or o c).0) is)) list up)

  -- Set one after the other, they are what changed, and nothing else changed.
  pub changes-settled : IsReflexive same → (list : List (List ℕ × Option V))
      → KeysAscend (λ pair. pair.0) list → AreChanges list
      → changes same old (settled old list) ≡ map as_change list
  changes-settled reflexive list up are =
      let made = map as_change list in
      let new = settled old list in
      let new_is : new ≡ patched old made =
      ap (settled old) (sym (settings-back list)) ∙ settled-patched made old in
      ascending_lists_are_fixed (Change V) (λ c. c.0) (changes same old new) made
      (changes-ascend same old new) (ascends list up)
      (λ c. (
        λ there.
            let is = changes-from same old new c there in
            ⊎_elim
            (λ found.
            let d = found.0 in
            let told = change-of list are d found.1 in
            let now =
            ap (finite.get new) found.2 ∙ ap (λ m. finite.get m d.0) new_is
            ∙ patched-there made old (ascends list up) d found.1 in
            subst (Contains made)
            (λ i. (
              sym found.2 i,
              (sym told.0 ∙ ap (finite.get old) (sym found.2) ∙ is.0) i,
              (sym now ∙ is.1) i,
            )) found.1)
            (λ none. absurd (false≢true (sym (differ-itself same reflexive (finite.get old c.0))
            ∙ (λ i. differ same (is.0 i) ((sym (ap (λ m. finite.get m c.0) new_is
            ∙ patched-elsewhere made old c.0 none) ∙ is.1) i)) ∙ is.2)))
            (find-key made c.0),
        λ there.
            let told = change-of list are c there in
            changes-to same old new c.0 c.1 c.2 told.0
            (ap (λ m. finite.get m c.0) new_is ∙ patched-there made old (ascends list up) c there)
            told.1,
      ))

  pub settings-settled : IsReflexive same → (list : List (List ℕ × Option V))
      → KeysAscend (λ pair. pair.0) list → AreChanges list
      → map as_setting (changes same old (settled old list)) ≡ list
  settings-settled reflexive list up are =
      ap (map as_setting) (changes-settled reflexive list up are) ∙ settings-back list

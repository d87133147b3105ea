-- The changes at the touched keys are all changes.
use Rattle.std.proofs.Common.{◌≡◌, ℕ, Bool, true, false, List, [], ◌∷◌, map, Option, Some, None, refl, sym, ap, subst, ◌∙◌, is_some}
use Rattle.std.specs.Prelude.{Contains}
use Rattle.std.specs.List.{filter_map, cons_option}
use Rattle.std.specs.FinMap as finite
use Rattle.std.proofs.lemmas.Bool.{false≢true}
use Rattle.rart_maps.specs.Pairs.{Strings, pairs}
use Rattle.rart_maps.specs.Versions.{Map}
use Rattle.rart_maps.proofs.ElementLemmas.{Contains-filter_map}
use Rattle.rart_maps.proofs.FoundLemmas.{Contains-pairs, ascending_lists_are_fixed, pairs_ascend_by_key}
use Rattle.rart_maps.specs.ChangeLaws.{IsReflexive}
use Rattle.rart_maps.specs.ChangeLists.{Change, change_of, changes, differ}
use Rattle.rart_maps.proofs.ChangeLawLemmas.{differ-itself}
use Rattle.rart_maps.proofs.ChangeLemmas.{KeysAscend-kept, changes-ascend, changes-from, changes-to, change_of-is}
use Rattle.rart_changes.specs.ChangeVisits.{changes_at}
use Rattle.rart_changes.specs.Tracking.{is_in, listed}

-- To keep of what is mapped is to map and keep at once.
filter_map-map : {A B C : Type 0} (h : B → Option C) (f : A → B) (xs : List A)
    → filter_map h (map f xs) ≡ filter_map (λ x. h (f x)) xs
filter_map-map h f [] = refl
filter_map-map h f (x ∷ xs) = ap (cons_option (h (f x))) (filter_map-map h f xs)

module _ {V : Type 0} (same : V → V → Bool) (reflexive : IsReflexive same) (old new : Map V)
    (touched : Strings)
    (tracked : (q : List ℕ) → is_in touched q ≡ false → finite.get new q ≡ finite.get old q) where
  abbrev at_key : List ℕ → Option (Change V)
  at_key w = change_of same w (finite.get old w) (finite.get new w)

  abbrev at_pairs : List (Change V)
  at_pairs = filter_map (λ (pair : List ℕ × Unit {0}). at_key pair.0) (pairs touched)

  -- A key at which the maps differ was touched.
  differing-touched : (q : List ℕ) (x y : Option V) → finite.get old q ≡ x
      → finite.get new q ≡ y → differ same x y ≡ true → finite.get touched q ≡ Some tt
  differing-touched q x y a b apart =
      elim (finite.get touched q) as (λ o. finite.get touched q ≡ o
      → o ≡ Some tt) [
        | None ↦ λ is. absurd (false≢true
            (sym (differ-itself same reflexive x)
            ∙ ap (differ same x) (sym (sym b ∙ tracked q (ap is_some is) ∙ a))
            ∙ apart))
        | Some unit ↦ λ is. refl
      ] refl

  all-there : (c : Change V) → Contains at_pairs c → Contains (changes same old new) c
  all-there c there =
      let found = (Contains-filter_map (λ (pair : List ℕ × Unit {0}). at_key pair.0)
      (pairs touched) c).0 there in
      let q = found.0.0 in
      let is = change_of-is same q (finite.get old q) (finite.get new q) c found.2 in
      subst (Contains (changes same old new)) (sym is.0)
      (changes-to same old new q (finite.get old q) (finite.get new q) refl refl is.1)

  there-all : (c : Change V) → Contains (changes same old new) c → Contains at_pairs c
  there-all c there =
      let found = changes-from same old new c there in
      let given = differing-touched c.0 c.1 c.2 found.0 found.1 found.2 in
      (Contains-filter_map (λ (pair : List ℕ × Unit {0}). at_key pair.0) (pairs touched) c).1 (
        (c.0, tt),
        (Contains-pairs touched c.0 tt).1 given,
        (λ i. change_of same c.0 (found.0 i) (found.1 i))
            ∙ change_of-there c found.2,
      )
    where
      change_of-there : (c : Change V) → differ same c.1 c.2 ≡ true
          → change_of same c.0 c.1 c.2 ≡ Some c
      change_of-there c apart = rw apart refl

  pub changes-at-touched : changes_at same old new (listed touched) ≡ changes same old new
  changes-at-touched =
      filter_map-map at_key (λ (pair : List ℕ × Unit {0}). pair.0) (pairs touched)
      ∙ ascending_lists_are_fixed (Change V) (λ c. c.0) at_pairs (changes same old new)
      (KeysAscend-kept (λ (pair : List ℕ × Unit {0}). pair.0) (λ (c : Change V). c.0)
      (λ pair. at_key pair.0)
      (λ pair c is. ap (λ d. d.0)
      (change_of-is same pair.0 (finite.get old pair.0) (finite.get new pair.0) c is).0)
      (pairs touched) (pairs_ascend_by_key (Unit {0}) touched))
      (changes-ascend same old new)
      (λ c. (all-there c, there-all c))

-- The conflicts at the touched keys are all conflicts.
use Rattle.std.proofs.Common.{◌≡◌, ◌&&◌, ℕ, Bool, true, false, cond, List, [], ◌∷◌, ◌++◌, Option, Some, None, refl, sym, ap, ◌∙◌}
use Rattle.std.specs.List.{filter_map, cons_option}
use Rattle.std.specs.FinMap as finite
use Rattle.std.proofs.lemmas.List.Elements.{filter_map-append}
use Rattle.rart_maps.specs.Pairs.{Strings}
use Rattle.rart_maps.specs.Versions.{Map}
use Rattle.rart_maps.specs.ChangeLaws.{IsReflexive}
use Rattle.rart_maps.specs.ChangeLists.{Change, differ}
use Rattle.rart_maps.specs.Merges.{Conflict, conflict_of, conflicts, in_conflict}
use Rattle.rart_changes.specs.ChangeVisits.{changes_at}
use Rattle.rart_changes.specs.ConflictVisits.{conflict_at, conflicts_at}
use Rattle.rart_changes.specs.Tracking.{is_in, listed}
use Rattle.rart_changes.proofs.ChangesAtLemmas.{changes-at-touched}

module _ {V : Type 0} (same : V → V → Bool) (base ours theirs : Map V) where
  -- Of one key there is a conflict where the three have one.
  pub conflict-there : (w : List ℕ) (b x y : Option V) → finite.get base w ≡ b
      → finite.get ours w ≡ x → finite.get theirs w ≡ y → in_conflict same b x y ≡ true
      → conflicts_at same base ours theirs (w ∷ []) ≡ (w, b, x, y) ∷ []
  conflict-there w b x y before our their apart =
      (λ i. cons_option (conflict_at same w (before i) (our i) (their i)) [])
      ∙ ap (λ t. cons_option (cond t (Some (w, b, x, y)) None) []) apart

  pub conflicts_at-cons : (w : List ℕ) (ws : List (List ℕ))
      → conflicts_at same base ours theirs (w ∷ ws)
      ≡ conflicts_at same base ours theirs (w ∷ []) ++ conflicts_at same base ours theirs ws
  conflicts_at-cons w ws =
      filter_map-append (λ v. conflict_at same v (finite.get base v) (finite.get ours v)
      (finite.get theirs v)) (w ∷ []) ws

  abbrev at_change : Change V → Option (Conflict V)
  at_change c = conflict_of same c (finite.get theirs c.0)

  -- A key that did not change is in no conflict.
  kept-change : (w : List ℕ) (d : Bool) (b x y : Option V) → finite.get theirs w ≡ y
      → differ same b x ≡ d → (rest : List (Conflict V)) (others : List (Change V))
      → filter_map at_change others ≡ rest
      → filter_map at_change (cons_option (cond d (Some (w, b, x)) None) others)
      ≡ cons_option (cond (d && (differ same b y && differ same x y)) (Some (w, b, x, y)) None) rest
  kept-change w true b x y their is rest others more =
      (λ i. cons_option (conflict_of same (w, b, x) (their i)) (more i))
      ∙ ap (λ t. cons_option (cond (t && (differ same b y && differ same x y))
      (Some (w, b, x, y)) None) rest) is
  kept-change w false b x y their is rest others more = more

  at-changes : (ws : List (List ℕ)) → filter_map at_change (changes_at same base ours ws)
      ≡ conflicts_at same base ours theirs ws
  at-changes [] = refl
  at-changes (w ∷ ws) =
      kept-change w (differ same (finite.get base w) (finite.get ours w)) (finite.get base w)
      (finite.get ours w) (finite.get theirs w) refl refl
      (conflicts_at same base ours theirs ws) (changes_at same base ours ws) (at-changes ws)

  pub conflicts-at-touched : IsReflexive same → (touched : Strings)
      → ((q : List ℕ) → is_in touched q ≡ false → finite.get ours q ≡ finite.get base q)
      → conflicts_at same base ours theirs (listed touched) ≡ conflicts same base ours theirs
  conflicts-at-touched reflexive touched tracked =
      sym (at-changes (listed touched))
      ∙ ap (filter_map at_change) (changes-at-touched same reflexive base ours touched tracked)

-- When two maps are the same, by what changed from the one to the other.
use Rattle.std.proofs.Common.{◌≡◌, ◌↔◌, Bool, IsTrue, [], refl, subst}
use Rattle.std.specs.Prelude.{IfOk, Result, Ok, Err}
use Rattle.rart_maps.proofs.ChangeLawLemmas.{no_change_is_the_same, nothing_changes}
use Rattle.rart_maps.specs.ChangeLaws.{Decides}
use Rattle.rart_maps.specs.ChangeLists.{changes}
use Rattle.rart_maps.specs.Versions.{Map}

module _ {V : Type 0} (same : V → V → Bool) (decides : Decides same) (one other : Map V) where
  -- where nothing changed, and where the values decide that
  same-told : (told : Bool) → IsTrue told ↔ (changes same one other ≡ [])
      → IsTrue told ↔ (one ≡ other)
  same-told told is = (
    λ yes. no_change_is_the_same same decides one other (is.0 yes),
    λ equal. is.1 (subst (λ m. changes same one m ≡ []) equal
        (nothing_changes same (λ x. (decides x x).1 refl) one)),
  )

  pub same-if-told : {E : Type 0} (told : Result Bool E)
      → IfOk told (λ equal. IsTrue equal ↔ (changes same one other ≡ []))
      → IfOk told (λ equal. IsTrue equal ↔ (one ≡ other))
  same-if-told (Ok equal) is = same-told equal is
  same-if-told (Err refused) is = is

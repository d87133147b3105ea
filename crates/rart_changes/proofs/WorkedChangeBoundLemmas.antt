-- The worked values of the bounds, of sets within each other, and of what touches a key.
use Rattle.std.proofs.Common.{◌≡◌, true, false, refl, sym, ap, ◌∙◌, ⊎_elim}
use Rattle.std.specs.Prelude.{codes}
use Rattle.std.specs.FinMap as finite
use Rattle.std.proofs.lemmas.Bool.{false≢true}
use Rattle.rart_maps.proofs.MapLemmas.{maps}
use Rattle.rart_changes.specs.Tracking.{is_in, no_key}
use Rattle.rart_changes.specs.WorkedBounds.{ChangesOfTwo, ConflictsOfTwo, HeldInEither, KeysAreTouched, LeastOfTwo, OneWithinTwo, one_key, two_keys}
use Rattle.rart_changes.proofs.TrackingLemmas.{in-with, nothing-in}

pub changes_of_two : ChangesOfTwo
changes_of_two = simp (maps, finite.len-insert, finite.len-empty) refl

pub conflicts_of_two : ConflictsOfTwo
conflicts_of_two = simp (maps, finite.len-insert, finite.len-empty) refl

pub least_of_two : LeastOfTwo
least_of_two = (
  simp (maps, finite.len-insert, finite.len-empty) refl,
  simp (maps, finite.len-insert, finite.len-empty) refl,
  simp (maps, finite.len-insert, finite.len-empty) refl,
  simp (maps, finite.len-insert, finite.len-empty) refl,
  simp (maps, finite.len-insert, finite.len-empty) refl,
)

first-in-two : is_in two_keys (codes "a") ≡ true
first-in-two = simp maps refl

second-in-two : is_in two_keys (codes "bc") ≡ true
second-in-two = simp maps refl

second-not-in-one : is_in one_key (codes "bc") ≡ false
second-not-in-one = simp maps refl

pub one_within_two : OneWithinTwo
one_within_two = (
  λ q there. ⊎_elim (λ is. ap (is_in two_keys) is ∙ first-in-two)
      (λ none. absurd (nothing-in q none)) (in-with no_key (codes "a") q there),
  λ within. false≢true (sym second-not-in-one ∙ within (codes "bc") second-in-two),
)

pub keys_are_touched : KeysAreTouched
keys_are_touched = (
  refl,
  refl,
  simp maps refl,
  simp maps refl,
  refl,
  refl,
  refl,
  simp maps refl,
  simp maps refl,
)

pub held_in_either_of_two : HeldInEither
held_in_either_of_two = simp maps refl

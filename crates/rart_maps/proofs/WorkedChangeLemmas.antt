-- The worked values of changes and conflicts, by computation.
use Rattle.std.proofs.Common.{refl, ap, ◌∙◌}
use Rattle.std.specs.Prelude.{codes, map}
use Rattle.std.specs.FinMap as finite
use Rattle.rart_maps.proofs.MapLemmas.{maps}
use Rattle.rart_maps.specs.ChangeLists.{effects, patched, reversed}
use Rattle.rart_maps.specs.WorkedChanges.{after, other, ChangesOfFour, PatchOfAnother, EffectsOnTwo, ConflictOfOne, ConflictOfTheOther, UndoneFromAfter}

pub changes_of_four : ChangesOfFour
changes_of_four = simp maps refl

pub patch_of_another : PatchOfAnother
patch_of_another = (
  ap (λ cs. finite.get (patched other cs) (codes "a")) changes_of_four
      ∙ simp (maps, finite.get-remove) refl,
  ap (λ cs. finite.get (patched other cs) (codes "b")) changes_of_four
      ∙ simp (maps, finite.get-remove) refl,
  ap (λ cs. finite.get (patched other cs) (codes "bc")) changes_of_four
      ∙ simp maps refl,
  ap (λ cs. finite.get (patched other cs) (codes "c")) changes_of_four
      ∙ simp maps refl,
)

pub effects_on_two : EffectsOnTwo
effects_on_two = (
  ap (effects other) changes_of_four ∙ simp maps refl,
  ap (effects after) changes_of_four ∙ simp maps refl,
)

pub conflict_of_one : ConflictOfOne
conflict_of_one = simp maps refl

pub conflict_of_the_other : ConflictOfTheOther
conflict_of_the_other = simp maps refl

pub undone_from_after : UndoneFromAfter
undone_from_after = (
  ap (λ cs. finite.get (patched after (map reversed cs)) (codes "a")) changes_of_four
      ∙ simp (maps, finite.get-remove) refl,
  ap (λ cs. finite.get (patched after (map reversed cs)) (codes "b")) changes_of_four
      ∙ simp (maps, finite.get-remove) refl,
  ap (λ cs. finite.get (patched after (map reversed cs)) (codes "bc")) changes_of_four
      ∙ simp (maps, finite.get-remove) refl,
  ap (λ cs. finite.get (patched after (map reversed cs)) (codes "c")) changes_of_four
      ∙ simp (maps, finite.get-remove) refl,
)

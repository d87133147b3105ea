use Rattle.rart_maps.proofs.laws.worked_changes.worked_changes.Goals as goal
use Rattle.rart_maps.proofs.WorkedChangeLemmas.{changes_of_four, patch_of_another, effects_on_two, conflict_of_one, conflict_of_the_other, undone_from_after}

pub returns-clause-changes : goal.returns-clause-changes
returns-clause-changes c = changes_of_four

pub returns-clause-patch : goal.returns-clause-patch
returns-clause-patch c = patch_of_another

pub returns-clause-effects : goal.returns-clause-effects
returns-clause-effects c = effects_on_two

pub returns-clause-conflicts : goal.returns-clause-conflicts
returns-clause-conflicts c = conflict_of_one

pub returns-clause-other_side : goal.returns-clause-other_side
returns-clause-other_side c = conflict_of_the_other

pub returns-clause-undone : goal.returns-clause-undone
returns-clause-undone c = undone_from_after

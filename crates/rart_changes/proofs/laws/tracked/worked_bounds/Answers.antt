use Rattle.rart_changes.proofs.laws.tracked.worked_bounds.Goals as goal
use Rattle.rart_changes.proofs.WorkedChangeBoundLemmas.{changes_of_two, conflicts_of_two, least_of_two, one_within_two, keys_are_touched, held_in_either_of_two}

pub returns-clause-changes : goal.returns-clause-changes
returns-clause-changes c = changes_of_two

pub returns-clause-conflicts : goal.returns-clause-conflicts
returns-clause-conflicts c = conflicts_of_two

pub returns-clause-least : goal.returns-clause-least
returns-clause-least c = least_of_two

pub returns-clause-within : goal.returns-clause-within
returns-clause-within c = one_within_two

pub returns-clause-touched : goal.returns-clause-touched
returns-clause-touched c = keys_are_touched

pub returns-clause-held : goal.returns-clause-held
returns-clause-held c = held_in_either_of_two

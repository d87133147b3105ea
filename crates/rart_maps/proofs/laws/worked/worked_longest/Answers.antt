use Rattle.rart_maps.proofs.laws.worked.worked_longest.Goals as goal
use Rattle.rart_maps.proofs.WorkedPairLemmas.{longest_inside, longest_is_itself, longest_is_empty, longest_none}

pub returns-clause-inside : goal.returns-clause-inside
returns-clause-inside c = longest_inside

pub returns-clause-itself : goal.returns-clause-itself
returns-clause-itself c = longest_is_itself

pub returns-clause-empty : goal.returns-clause-empty
returns-clause-empty c = longest_is_empty

pub returns-clause-none : goal.returns-clause-none
returns-clause-none c = longest_none

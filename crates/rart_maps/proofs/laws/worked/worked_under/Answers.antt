use Rattle.rart_maps.proofs.laws.worked.worked_under.Goals as goal
use Rattle.rart_maps.proofs.WorkedPairLemmas.{under_two, under_one, under_itself, under_empty, under_none}

pub returns-clause-two : goal.returns-clause-two
returns-clause-two c = under_two

pub returns-clause-one : goal.returns-clause-one
returns-clause-one c = under_one

pub returns-clause-itself : goal.returns-clause-itself
returns-clause-itself c = under_itself

pub returns-clause-empty : goal.returns-clause-empty
returns-clause-empty c = under_empty

pub returns-clause-none : goal.returns-clause-none
returns-clause-none c = under_none

use Rattle.rart_maps.proofs.laws.worked.worked_shared.Goals as goal
use Rattle.rart_maps.proofs.WorkedPairLemmas.{shared_of_two, shared_of_one, shared_of_empty}

pub returns-clause-two : goal.returns-clause-two
returns-clause-two g c = shared_of_two

pub returns-clause-one : goal.returns-clause-one
returns-clause-one g c = shared_of_one

pub returns-clause-empty : goal.returns-clause-empty
returns-clause-empty g c = shared_of_empty _

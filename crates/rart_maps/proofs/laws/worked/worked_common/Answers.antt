use Rattle.rart_maps.proofs.laws.worked.worked_common.Goals as goal
use Rattle.rart_maps.proofs.WorkedPairLemmas.{common_left_first, common_none, common_of_two, common_of_one, common_of_empty}

pub returns-clause-left_first : goal.returns-clause-left_first
returns-clause-left_first g c = common_left_first

pub returns-clause-none : goal.returns-clause-none
returns-clause-none g c = common_none

pub returns-clause-two : goal.returns-clause-two
returns-clause-two g c = common_of_two

pub returns-clause-one : goal.returns-clause-one
returns-clause-one g c = common_of_one

pub returns-clause-empty : goal.returns-clause-empty
returns-clause-empty g c = common_of_empty _

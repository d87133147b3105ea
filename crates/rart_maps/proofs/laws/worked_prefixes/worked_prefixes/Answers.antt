use Rattle.rart_maps.proofs.laws.worked_prefixes.worked_prefixes.Goals as goal
use Rattle.rart_maps.proofs.WorkedPrefixLemmas.{under_keeps_the_key_itself, without_keeps_neighbours, restored_takes_the_others, under_nothing}

pub returns-clause-under : goal.returns-clause-under
returns-clause-under c = under_keeps_the_key_itself

pub returns-clause-without : goal.returns-clause-without
returns-clause-without c = without_keeps_neighbours

pub returns-clause-restored : goal.returns-clause-restored
returns-clause-restored c = restored_takes_the_others

pub returns-clause-nothing : goal.returns-clause-nothing
returns-clause-nothing c = under_nothing

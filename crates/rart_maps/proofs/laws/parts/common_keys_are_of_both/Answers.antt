use Rattle.rart_maps.proofs.laws.parts.common_keys_are_of_both.Goals as goal
use Rattle.rart_maps.proofs.MapPartLemmas.{common_keys_are_of_both, common_is_left_without_the_rest}

pub returns-clause-keys : goal.returns-clause-keys
returns-clause-keys g c = common_keys_are_of_both _ _

pub returns-clause-rest : goal.returns-clause-rest
returns-clause-rest g c = common_is_left_without_the_rest _ _

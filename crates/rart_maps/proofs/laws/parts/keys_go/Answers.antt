use Rattle.rart_maps.proofs.laws.parts.keys_go.Goals as goal
use Rattle.rart_maps.proofs.MapPartLemmas.{nothing_is_left_without_itself, keys_go_one_after_the_other}

pub returns-clause-itself : goal.returns-clause-itself
returns-clause-itself g c = nothing_is_left_without_itself _

pub returns-clause-after : goal.returns-clause-after
returns-clause-after g c = keys_go_one_after_the_other _

use Rattle.rart_maps.proofs.laws.parts.maps_are_joined.Goals as goal
use Rattle.rart_maps.proofs.MapPartLemmas.{joined_answers, joined_keys_are_of_either, joined_with_itself}

pub returns-clause-answers : goal.returns-clause-answers
returns-clause-answers g c = joined_answers _

pub returns-clause-keys : goal.returns-clause-keys
returns-clause-keys g c = joined_keys_are_of_either _

pub returns-clause-itself : goal.returns-clause-itself
returns-clause-itself g c = joined_with_itself _

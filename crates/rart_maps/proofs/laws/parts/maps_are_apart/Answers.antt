use Rattle.rart_maps.proofs.laws.parts.maps_are_apart.Goals as goal
use Rattle.rart_maps.proofs.MapPartLemmas.{apart_answers, apart_either_way, apart_is_joined_without_common}

pub returns-clause-answers : goal.returns-clause-answers
returns-clause-answers g c = apart_answers _

pub returns-clause-either_way : goal.returns-clause-either_way
returns-clause-either_way g c = apart_either_way _

pub returns-clause-rest : goal.returns-clause-rest
returns-clause-rest g c = apart_is_joined_without_common _

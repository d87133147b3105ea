use Rattle.rart_maps.proofs.laws.parts.parts_are_the_map.Goals as goal
use Rattle.rart_maps.proofs.MapPartLemmas.{parts_are_the_map, no_key_cuts_nothing, cutting_twice_is_cutting_once}

pub returns-clause-together : goal.returns-clause-together
returns-clause-together g c = parts_are_the_map _ _

pub returns-clause-nothing : goal.returns-clause-nothing
returns-clause-nothing g c = no_key_cuts_nothing _ _

pub returns-clause-twice : goal.returns-clause-twice
returns-clause-twice g c = cutting_twice_is_cutting_once _ _

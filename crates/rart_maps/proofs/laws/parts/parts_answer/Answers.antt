use Rattle.rart_maps.proofs.laws.parts.parts_answer.Goals as goal
use Rattle.rart_maps.proofs.MapPartLemmas.{common_part_answers, other_part_answers}

pub returns-clause-common : goal.returns-clause-common
returns-clause-common g c = common_part_answers _ _

pub returns-clause-other : goal.returns-clause-other
returns-clause-other g c = other_part_answers _ _

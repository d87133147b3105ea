use Rattle.rart_maps.proofs.laws.parts.parts_have_these_pairs.Goals as goal
use Rattle.rart_maps.proofs.MapPartLemmas.{common_part_has_these_pairs, other_part_has_these_pairs}

pub returns-clause-common : goal.returns-clause-common
returns-clause-common g c = common_part_has_these_pairs _ _

pub returns-clause-other : goal.returns-clause-other
returns-clause-other g c = other_part_has_these_pairs _ _

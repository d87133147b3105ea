use Rattle.rart_maps.proofs.laws.merges.merges_are_by_key.Goals as goal
use Rattle.rart_maps.proofs.MergeLemmas.{merges_are_by_key, sides_agree}

pub returns-clause-by_key : goal.returns-clause-by_key
returns-clause-by_key g c = merges_are_by_key _

pub returns-clause-agree : goal.returns-clause-agree
returns-clause-agree g c = sides_agree _

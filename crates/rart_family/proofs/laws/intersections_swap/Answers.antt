use Rattle.rart_family.proofs.ReadLemmas.{intersections_swap}
use Rattle.rart_family.proofs.laws.intersections_swap.Goals as goal

pub returns : goal.returns
returns g c = intersections_swap g.row.K.Denot g.row.V.Denot g.K.KeyTrait.bytes

use Rattle.rart_maps.proofs.laws.pairs.ascending_lists_are_fixed.Goals as goal
use Rattle.rart_maps.proofs.FoundLemmas.{ascending_lists_are_fixed}

pub returns : goal.returns
returns g c = ascending_lists_are_fixed _

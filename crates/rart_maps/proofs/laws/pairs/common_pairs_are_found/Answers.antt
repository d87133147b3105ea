use Rattle.rart_maps.proofs.laws.pairs.common_pairs_are_found.Goals as goal
use Rattle.rart_maps.proofs.FoundLemmas.{common_is_found}

pub returns-clause-found : goal.returns-clause-found
returns-clause-found g c = common_is_found _

use Rattle.rart_maps.proofs.laws.lookups.lookups_fix_the_map.Goals as goal
use Rattle.rart_maps.proofs.LookupLawLemmas.{lookups_sets, lookups_empty}

pub returns-clause-sets : goal.returns-clause-sets
returns-clause-sets g c = lookups_sets _

pub returns-clause-empty : goal.returns-clause-empty
returns-clause-empty g c = lookups_empty _

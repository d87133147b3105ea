use Rattle.rart_maps.proofs.laws.prefixes.restoring_is_general.Goals as goal
use Rattle.rart_maps.proofs.PrefixLawLemmas.{removing_restores_nothing, keeping_restores_into_nothing, empty_prefix_is_all}

pub returns-clause-removing : goal.returns-clause-removing
returns-clause-removing g c = removing_restores_nothing _

pub returns-clause-keeping : goal.returns-clause-keeping
returns-clause-keeping g c = keeping_restores_into_nothing _

pub returns-clause-whole : goal.returns-clause-whole
returns-clause-whole g c = empty_prefix_is_all _

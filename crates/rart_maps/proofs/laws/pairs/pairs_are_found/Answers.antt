use Rattle.rart_maps.proofs.laws.pairs.pairs_are_found.Goals as goal
use Rattle.rart_maps.proofs.FoundLemmas.{pairs_are_found, within_is_found, under_is_found, prefix_matches_are_found}

pub returns-clause-pairs : goal.returns-clause-pairs
returns-clause-pairs g c = pairs_are_found _

pub returns-clause-within : goal.returns-clause-within
returns-clause-within g c = within_is_found _

pub returns-clause-under : goal.returns-clause-under
returns-clause-under g c = under_is_found _

pub returns-clause-prefix_matches : goal.returns-clause-prefix_matches
returns-clause-prefix_matches g c = prefix_matches_are_found _

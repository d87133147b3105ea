use Rattle.rart_maps.proofs.laws.worked.worked_prefix_matches.Goals as goal
use Rattle.rart_maps.proofs.WorkedPairLemmas.{prefix_matches_shortest_first, prefix_matches_of_key, prefix_matches_none}

pub returns-clause-shortest_first : goal.returns-clause-shortest_first
returns-clause-shortest_first c = prefix_matches_shortest_first

pub returns-clause-of_key : goal.returns-clause-of_key
returns-clause-of_key c = prefix_matches_of_key

pub returns-clause-none : goal.returns-clause-none
returns-clause-none c = prefix_matches_none

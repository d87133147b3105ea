use Rattle.rart_maps.proofs.laws.prefixes.cut_maps_have_these_pairs.Goals as goal
use Rattle.rart_maps.proofs.PrefixLawLemmas.{pairs_under_are_under, pairs_without_are_the_others, under_is_the_others}

pub returns-clause-under : goal.returns-clause-under
returns-clause-under g c = pairs_under_are_under _

pub returns-clause-without : goal.returns-clause-without
returns-clause-without g c = pairs_without_are_the_others _

pub returns-clause-with_others : goal.returns-clause-with_others
returns-clause-with_others g c = under_is_the_others _

use Rattle.rart_maps.proofs.laws.prefixes.cut_maps_answer.Goals as goal
use Rattle.rart_maps.proofs.PrefixLawLemmas.{under_answers, without_answers, with_answers, answers_fix_the_map, has_under_is_of_a_key}

pub returns-clause-under : goal.returns-clause-under
returns-clause-under g c = under_answers _

pub returns-clause-without : goal.returns-clause-without
returns-clause-without g c = without_answers _

pub returns-clause-with_others : goal.returns-clause-with_others
returns-clause-with_others g c = with_answers _

pub returns-clause-all : goal.returns-clause-all
returns-clause-all g c = answers_fix_the_map _

pub returns-clause-some : goal.returns-clause-some
returns-clause-some g c = has_under_is_of_a_key _

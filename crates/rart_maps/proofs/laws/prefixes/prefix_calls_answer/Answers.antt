use Rattle.rart_maps.proofs.laws.prefixes.prefix_calls_answer.Goals as goal
use Rattle.rart_maps.proofs.PrefixLawLemmas.{parts_answer, removals_answer, removals_raise, restorings_answer}

pub returns-clause-parts : goal.returns-clause-parts
returns-clause-parts g c = parts_answer _

pub returns-clause-removals : goal.returns-clause-removals
returns-clause-removals g c = removals_answer _

pub returns-clause-numbers : goal.returns-clause-numbers
returns-clause-numbers g c = removals_raise _

pub returns-clause-restorings : goal.returns-clause-restorings
returns-clause-restorings g c = restorings_answer _

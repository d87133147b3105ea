use Rattle.rart_maps.proofs.laws.worked.worked_cuts.Goals as goal
use Rattle.rart_maps.proofs.WorkedBoundLemmas.{cut_of_three, difference_of_long, difference_of_three, intersection_of_long, intersection_of_three}

pub returns-clause-without_three : goal.returns-clause-without_three
returns-clause-without_three c = difference_of_three

pub returns-clause-common_three : goal.returns-clause-common_three
returns-clause-common_three c = intersection_of_three

pub returns-clause-made : goal.returns-clause-made
returns-clause-made c = cut_of_three

pub returns-clause-without_long : goal.returns-clause-without_long
returns-clause-without_long c = difference_of_long

pub returns-clause-common_long : goal.returns-clause-common_long
returns-clause-common_long c = intersection_of_long

use Rattle.rart_maps.proofs.laws.worked.worked_joins.Goals as goal
use Rattle.rart_maps.proofs.WorkedBoundLemmas.{apart_of_three, joined_of_three, joined_with_itself_makes_none, union_of_long, union_of_three}

pub returns-clause-joined_three : goal.returns-clause-joined_three
returns-clause-joined_three c = union_of_three

pub returns-clause-made : goal.returns-clause-made
returns-clause-made c = joined_of_three

pub returns-clause-apart_made : goal.returns-clause-apart_made
returns-clause-apart_made c = apart_of_three

pub returns-clause-joined_long : goal.returns-clause-joined_long
returns-clause-joined_long c = union_of_long

pub returns-clause-itself_made : goal.returns-clause-itself_made
returns-clause-itself_made c = joined_with_itself_makes_none

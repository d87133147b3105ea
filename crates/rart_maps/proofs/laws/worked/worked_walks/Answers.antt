use Rattle.rart_maps.proofs.laws.worked.worked_walks.Goals as goal
use Rattle.rart_maps.proofs.WorkedBoundLemmas.{walk_of_three, walk_of_one_below_other, walk_of_none, reach_by_pairs_of_two, reach_by_pairs_of_all, reach_by_pairs_of_none, reach_by_pairs_of_three, range_of_two, range_of_all, range_reversed, range_of_none, range_of_none_below}

pub returns-clause-three : goal.returns-clause-three
returns-clause-three c = walk_of_three

pub returns-clause-one_below_other : goal.returns-clause-one_below_other
returns-clause-one_below_other c = walk_of_one_below_other

pub returns-clause-none : goal.returns-clause-none
returns-clause-none c = walk_of_none

pub returns-clause-two_under : goal.returns-clause-two_under
returns-clause-two_under c = reach_by_pairs_of_two

pub returns-clause-two_within : goal.returns-clause-two_within
returns-clause-two_within c = range_of_two

pub returns-clause-all_within : goal.returns-clause-all_within
returns-clause-all_within c = range_of_all

pub returns-clause-reversed : goal.returns-clause-reversed
returns-clause-reversed c = range_reversed

pub returns-clause-none_within : goal.returns-clause-none_within
returns-clause-none_within c = range_of_none

pub returns-clause-all_under : goal.returns-clause-all_under
returns-clause-all_under c = reach_by_pairs_of_all

pub returns-clause-none_under : goal.returns-clause-none_under
returns-clause-none_under c = reach_by_pairs_of_none

pub returns-clause-three_under : goal.returns-clause-three_under
returns-clause-three_under c = reach_by_pairs_of_three

pub returns-clause-none_below : goal.returns-clause-none_below
returns-clause-none_below c = range_of_none_below

use Rattle.rart_c.proofs.DifferenceLemmas.{difference_is_of_pairs, intersection_is_of_keys}
use Rattle.rart_c.proofs.laws.parts_are_of_both.Goals as goal

pub returns-clause-difference : goal.returns-clause-difference
returns-clause-difference g c = difference_is_of_pairs _

pub returns-clause-intersection : goal.returns-clause-intersection
returns-clause-intersection g c = intersection_is_of_keys _

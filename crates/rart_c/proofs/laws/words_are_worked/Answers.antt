use Rattle.rart_c.proofs.WorkedWordLemmas.{worked_bounds, worked_strings, worked_comparisons, worked_additions, longest_is_told, count_is_told}
use Rattle.rart_c.proofs.laws.words_are_worked.Goals as goal

pub returns-clause-bounds : goal.returns-clause-bounds
returns-clause-bounds g c = worked_bounds

pub returns-clause-strings : goal.returns-clause-strings
returns-clause-strings g c = worked_strings

pub returns-clause-comparisons : goal.returns-clause-comparisons
returns-clause-comparisons g c = worked_comparisons

pub returns-clause-additions : goal.returns-clause-additions
returns-clause-additions g c = worked_additions

pub returns-clause-longest : goal.returns-clause-longest
returns-clause-longest g c = longest_is_told _

pub returns-clause-counts : goal.returns-clause-counts
returns-clause-counts g c = count_is_told _

use Rattle.vtree_lines.proofs.GoodWordLemmas.{good_words_are_own}
use Rattle.vtree_lines.proofs.OwnWordLemmas.{own_words_are_good}
use Rattle.vtree_lines.proofs.laws.good_words_are_own.Goals as goal

pub returns-clause-own : goal.returns-clause-own
returns-clause-own c = good_words_are_own

pub returns-clause-good : goal.returns-clause-good
returns-clause-good c = own_words_are_good

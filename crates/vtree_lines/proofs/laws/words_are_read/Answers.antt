use Rattle.vtree_lines.proofs.WordLemmas.{words_are_read}
use Rattle.vtree_lines.proofs.laws.words_are_read.Goals as goal

pub returns : goal.returns
returns c = words_are_read

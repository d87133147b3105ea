use Rattle.rart_versioned.proofs.CursorLawLemmas.{pair_by_pair, stays_at_end}
use Rattle.rart_versioned.proofs.laws.cursors.cursors_end_for_good.Goals as goal

pub returns-clause-pairs : goal.returns-clause-pairs
returns-clause-pairs g c = pair_by_pair _

pub returns-clause-stays : goal.returns-clause-stays
returns-clause-stays g c = stays_at_end _

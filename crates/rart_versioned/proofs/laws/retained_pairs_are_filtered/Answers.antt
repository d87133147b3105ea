use Rattle.rart_versioned.proofs.RetainLawLemmas.{pairs_are_filtered}
use Rattle.rart_versioned.proofs.laws.retained_pairs_are_filtered.Goals as goal

pub returns : goal.returns
returns g c = pairs_are_filtered _ _

use Rattle.rart_versioned.proofs.ExtendLemmas.{listed_pairs_are_put_in}
use Rattle.rart_versioned.proofs.laws.listed_pairs_are_put_in.Goals as goal

pub returns : goal.returns
returns g c = listed_pairs_are_put_in _ _ _

use Rattle.rart_versioned.proofs.ExtendLemmas.{worked_extension}
use Rattle.rart_versioned.proofs.laws.worked_extension.Goals as goal

pub returns : goal.returns
returns c = worked_extension

use Rattle.tuple_index.proofs.CutLawLemmas.{kept_brings_back}
use Rattle.tuple_index.proofs.laws.restoring_undoes.Goals as goal

pub returns : goal.returns
returns c = kept_brings_back

use Rattle.rart_changes.proofs.laws.merging.answers_are_merged.Goals as goal
use Rattle.rart_changes.proofs.MergedVersionLemmas.{answers_are_merged}

pub returns : goal.returns
returns g c = answers_are_merged _ _ _

use Rattle.rart_maps.proofs.laws.merges.conflicts_are_found.Goals as goal
use Rattle.rart_maps.proofs.MergeLemmas.{conflicts_ascend, conflicts_are_found}

pub returns-clause-ascend : goal.returns-clause-ascend
returns-clause-ascend g c = conflicts_ascend _

pub returns-clause-found : goal.returns-clause-found
returns-clause-found g c = conflicts_are_found _

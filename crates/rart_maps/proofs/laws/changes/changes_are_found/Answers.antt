use Rattle.rart_maps.proofs.laws.changes.changes_are_found.Goals as goal
use Rattle.rart_maps.proofs.ChangeLawLemmas.{changes_ascend, changes_are_found}

pub returns-clause-ascend : goal.returns-clause-ascend
returns-clause-ascend g c = changes_ascend _

pub returns-clause-found : goal.returns-clause-found
returns-clause-found g c = changes_are_found _

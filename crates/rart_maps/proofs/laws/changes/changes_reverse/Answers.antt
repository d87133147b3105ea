use Rattle.rart_maps.proofs.laws.changes.changes_reverse.Goals as goal
use Rattle.rart_maps.proofs.ChangeLawLemmas.{nothing_changes, no_change_is_the_same, changes_reverse}

pub returns-clause-nothing : goal.returns-clause-nothing
returns-clause-nothing g c = nothing_changes _

pub returns-clause-same : goal.returns-clause-same
returns-clause-same g c = no_change_is_the_same _

pub returns-clause-reversed : goal.returns-clause-reversed
returns-clause-reversed g c = changes_reverse _

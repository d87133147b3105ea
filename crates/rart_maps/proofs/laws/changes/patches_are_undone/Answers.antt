use Rattle.rart_maps.proofs.laws.changes.patches_are_undone.Goals as goal
use Rattle.rart_maps.proofs.ChangeLawLemmas.{patches_leave_no_change, patches_are_undone}

pub returns-clause-none_left : goal.returns-clause-none_left
returns-clause-none_left g c = patches_leave_no_change _

pub returns-clause-undone : goal.returns-clause-undone
returns-clause-undone g c = patches_are_undone _

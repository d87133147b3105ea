use Rattle.rart_saved.proofs.ChangeListLemmas.{changes-listed}
use Rattle.rart_saved.proofs.laws.change_lists.changes_are_lists.Goals as goal

pub returns : goal.returns
returns g c = changes-listed _

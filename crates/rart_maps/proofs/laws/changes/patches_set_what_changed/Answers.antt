use Rattle.rart_maps.proofs.laws.changes.patches_set_what_changed.Goals as goal
use Rattle.rart_maps.proofs.ChangeLawLemmas.{patches_set_what_changed, patches_give_the_new}

pub returns-clause-any : goal.returns-clause-any
returns-clause-any g c = patches_set_what_changed _

pub returns-clause-old : goal.returns-clause-old
returns-clause-old g c = patches_give_the_new _

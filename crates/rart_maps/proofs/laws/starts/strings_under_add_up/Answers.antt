use Rattle.rart_maps.proofs.laws.starts.strings_under_add_up.Goals as goal
use Rattle.rart_maps.proofs.StartLemmas.{strings_under_add_up, starts_add_up, shared_add_up}

pub returns-clause-any : goal.returns-clause-any
returns-clause-any g c = strings_under_add_up

pub returns-clause-starts : goal.returns-clause-starts
returns-clause-starts g c = starts_add_up _

pub returns-clause-shared : goal.returns-clause-shared
returns-clause-shared g c = shared_add_up _

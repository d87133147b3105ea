use Rattle.rart_maps.proofs.laws.starts.starts_begin_keys.Goals as goal
use Rattle.rart_maps.proofs.StartLemmas.{starts_begin_keys, shared_are_in_both}

pub returns-clause-starts : goal.returns-clause-starts
returns-clause-starts g c = starts_begin_keys _

pub returns-clause-shared : goal.returns-clause-shared
returns-clause-shared g c = shared_are_in_both _

use Rattle.rart_maps.proofs.laws.lookups.updates_set_what_is_left.Goals as goal
use Rattle.rart_maps.proofs.LookupLawLemmas.{slots_have_their_value, updates_set_what_is_left}

pub returns-clause-slots : goal.returns-clause-slots
returns-clause-slots g c = slots_have_their_value _

pub returns-clause-left : goal.returns-clause-left
returns-clause-left g c = updates_set_what_is_left _

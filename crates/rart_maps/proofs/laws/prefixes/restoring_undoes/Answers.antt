use Rattle.rart_maps.proofs.laws.prefixes.restoring_undoes.Goals as goal
use Rattle.rart_maps.proofs.PrefixLawLemmas.{restoring_undoes, putting_back_is_nothing}

pub returns-clause-kept : goal.returns-clause-kept
returns-clause-kept g c = restoring_undoes _

pub returns-clause-taken : goal.returns-clause-taken
returns-clause-taken g c = putting_back_is_nothing _

use Rattle.rart_maps.proofs.laws.prefixes.restoring_changes_under.Goals as goal
use Rattle.rart_maps.proofs.PrefixLawLemmas.{restoring_changes_under}

pub returns : goal.returns
returns g c = restoring_changes_under _

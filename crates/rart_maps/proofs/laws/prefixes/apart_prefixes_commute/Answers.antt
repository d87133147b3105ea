use Rattle.rart_maps.proofs.laws.prefixes.apart_prefixes_commute.Goals as goal
use Rattle.rart_maps.proofs.PrefixLawLemmas.{apart_prefixes_commute}

pub returns : goal.returns
returns g c = apart_prefixes_commute _

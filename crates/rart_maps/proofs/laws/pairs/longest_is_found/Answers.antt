use Rattle.rart_maps.proofs.LongestLemmas.{longest_is_found}
use Rattle.rart_maps.proofs.laws.pairs.longest_is_found.Goals as goal

pub returns : goal.returns
returns g c = longest_is_found _

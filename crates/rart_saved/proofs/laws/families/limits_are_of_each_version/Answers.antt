use Rattle.rart_saved.proofs.LimitLemmas.{limits_are_of_each_version}
use Rattle.rart_saved.proofs.laws.families.limits_are_of_each_version.Goals as goal

pub returns : goal.returns
returns g c = limits_are_of_each_version

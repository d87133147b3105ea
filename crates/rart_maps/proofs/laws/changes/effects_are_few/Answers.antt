use Rattle.rart_maps.proofs.laws.changes.effects_are_few.Goals as goal
use Rattle.rart_maps.proofs.ChangeLawLemmas.{effects_are_few}

pub returns : goal.returns
returns g c = effects_are_few _

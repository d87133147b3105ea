use Rattle.rart_maps.proofs.IterationLawLemmas.{taken_are_first}
use Rattle.rart_maps.proofs.laws.iterations.items_left_are_counted.Goals as goal

pub returns-clause-taken : goal.returns-clause-taken
returns-clause-taken g c = taken_are_first _

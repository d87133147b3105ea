use Rattle.rart_family.proofs.LawLemmas.{isolated}
use Rattle.rart_family.proofs.laws.steps_are_isolated.Goals as goal

pub returns-clause-isolated : goal.returns-clause-isolated
returns-clause-isolated g c = isolated g.row.K.Denot g.row.V.Denot g.K.KeyTrait.bytes

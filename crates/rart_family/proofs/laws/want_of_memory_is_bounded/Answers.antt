use Rattle.rart_family.proofs.OutOfMemoryLemmas.{no_want_without_memory}
use Rattle.rart_family.proofs.laws.want_of_memory_is_bounded.Goals as goal

pub returns-clause-without_memory : goal.returns-clause-without_memory
returns-clause-without_memory g c =
    no_want_without_memory g.row.K.Denot g.row.V.Denot g.K.KeyTrait.bytes

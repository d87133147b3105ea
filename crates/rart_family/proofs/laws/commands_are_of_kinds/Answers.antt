use Rattle.std.proofs.Common.{refl}
use Rattle.rart_family.proofs.laws.commands_are_of_kinds.Goals as goal

pub returns-clause-reads : goal.returns-clause-reads
returns-clause-reads g c place other key = (tt, tt, tt, tt)

pub returns-clause-changes : goal.returns-clause-changes
returns-clause-changes g c place other key value = (refl, refl, refl, refl, refl, refl)

pub returns-clause-memory : goal.returns-clause-memory
returns-clause-memory g c f place other key = (tt, tt, tt, λ lacks. (lacks, lacks))

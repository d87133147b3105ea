use Rattle.example_store.proofs.KeptLemmas.{logs_are_one, damage_is_no_log}
use Rattle.example_store.proofs.laws.logs_lose_nothing.Goals as goal

pub returns-clause-one : goal.returns-clause-one
returns-clause-one c = logs_are_one

pub returns-clause-damage : goal.returns-clause-damage
returns-clause-damage c = damage_is_no_log

use Rattle.rart_maps.specs.Visits.{ByValue}
use Rattle.rart_maps.proofs.VisitLawLemmas.{until_done, until_callback_refuses, until_memory_is_refused}
use Rattle.rart_maps.proofs.laws.visits.visits_tell_where_they_end.Goals as goal

pub returns-clause-done : goal.returns-clause-done
returns-clause-done g c = until_done g.F.FnMut ByValue

pub returns-clause-callback : goal.returns-clause-callback
returns-clause-callback g c = until_callback_refuses g.F.FnMut ByValue

pub returns-clause-memory : goal.returns-clause-memory
returns-clause-memory g c = until_memory_is_refused g.F.FnMut ByValue

use Rattle.rart_maps.specs.Visits.{ByValue}
use Rattle.rart_maps.proofs.VisitLawLemmas.{until_nothing, until_step_by_step, front_of_until, until_callable_step_by_step}
use Rattle.rart_maps.proofs.laws.visits.visits_end_at_the_first_other_answer.Goals as goal

pub returns-clause-nothing : goal.returns-clause-nothing
returns-clause-nothing g c = until_nothing g.F.FnMut ByValue

pub returns-clause-steps : goal.returns-clause-steps
returns-clause-steps g c = until_step_by_step g.F.FnMut ByValue

pub returns-clause-front : goal.returns-clause-front
returns-clause-front g c = front_of_until g.F.FnMut ByValue

pub returns-clause-callable : goal.returns-clause-callable
returns-clause-callable g c = until_callable_step_by_step g.F.FnMut ByValue

use Rattle.rart_maps.specs.Visits.{ByValue}
use Rattle.rart_maps.proofs.VisitLawLemmas.{visit_of_nothing, visit_of_one, visitable_of_one, visit_of_parts, front_of_visit, visitable_step_by_step}
use Rattle.rart_maps.proofs.laws.visits.visits_go_part_by_part.Goals as goal

pub returns-clause-nothing : goal.returns-clause-nothing
returns-clause-nothing g c = visit_of_nothing g.F.FnMut ByValue

pub returns-clause-parts : goal.returns-clause-parts
returns-clause-parts g c = visit_of_parts g.F.FnMut ByValue

pub returns-clause-front : goal.returns-clause-front
returns-clause-front g c = front_of_visit g.F.FnMut ByValue

pub returns-clause-callable : goal.returns-clause-callable
returns-clause-callable g c = visitable_step_by_step g.F.FnMut ByValue

pub returns-clause-one : goal.returns-clause-one
returns-clause-one g c = visit_of_one g.F.FnMut ByValue

pub returns-clause-callable_on_one : goal.returns-clause-callable_on_one
returns-clause-callable_on_one g c = visitable_of_one g.F.FnMut ByValue

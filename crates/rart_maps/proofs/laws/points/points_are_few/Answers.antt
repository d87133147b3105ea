use Rattle.rart_maps.proofs.laws.points.points_are_few.Goals as goal
use Rattle.rart_maps.proofs.PointLemmas.{points_are_few, points_under_are_few}

pub returns-clause-all : goal.returns-clause-all
returns-clause-all g c = points_are_few _

pub returns-clause-under : goal.returns-clause-under
returns-clause-under g c = points_under_are_few _

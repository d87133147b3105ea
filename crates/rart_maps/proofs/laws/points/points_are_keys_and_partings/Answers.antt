use Rattle.rart_maps.proofs.laws.points.points_are_keys_and_partings.Goals as goal
use Rattle.rart_maps.proofs.PointLemmas.{points_are_keys_and_partings, keys_are_points}

pub returns-clause-either : goal.returns-clause-either
returns-clause-either g c = points_are_keys_and_partings _

pub returns-clause-keys : goal.returns-clause-keys
returns-clause-keys g c = keys_are_points _

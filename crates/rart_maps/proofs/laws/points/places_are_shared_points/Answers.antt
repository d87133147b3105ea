use Rattle.rart_maps.proofs.PlaceLawLemmas.{places_are_shared_points, places_are_few}
use Rattle.rart_maps.proofs.laws.points.places_are_shared_points.Goals as goal

pub returns-clause-both : goal.returns-clause-both
returns-clause-both g c = places_are_shared_points _

pub returns-clause-few : goal.returns-clause-few
returns-clause-few g c = places_are_few _

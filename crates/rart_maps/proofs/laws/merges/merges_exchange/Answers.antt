use Rattle.rart_maps.proofs.laws.merges.merges_exchange.Goals as goal
use Rattle.rart_maps.proofs.MergeLemmas.{conflicts_exchange, merges_exchange, base_gives_way, patches_are_merges}

pub returns-clause-conflicts : goal.returns-clause-conflicts
returns-clause-conflicts g c = conflicts_exchange _

pub returns-clause-merges : goal.returns-clause-merges
returns-clause-merges g c = merges_exchange _

pub returns-clause-base : goal.returns-clause-base
returns-clause-base g c = base_gives_way _

pub returns-clause-stands : goal.returns-clause-stands
returns-clause-stands g c = patches_are_merges _

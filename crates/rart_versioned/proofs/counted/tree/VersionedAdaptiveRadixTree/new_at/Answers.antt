use Rattle.rart_maps.proofs.LookupLemmas.{empty-lacks-all}
use Rattle.rart_versioned.proofs.counted.tree.VersionedAdaptiveRadixTree.new_at.Goals as goal

pub returns-clause-lookups : goal.returns-clause-lookups
returns-clause-lookups g c = empty-lacks-all c.args.number

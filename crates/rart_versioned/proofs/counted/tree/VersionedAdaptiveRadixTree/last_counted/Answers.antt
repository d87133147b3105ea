use Rattle.rart_versioned.proofs.EndPairLemmas.{within-none}
use Rattle.rart_versioned.proofs.counted.tree.VersionedAdaptiveRadixTree.last_counted.Goals as goal

pub returns-clause-last : goal.returns-clause-last
returns-clause-last g c =
    rw (within-none c.args.self.now.content) at c.last_to_counted.ensures.last

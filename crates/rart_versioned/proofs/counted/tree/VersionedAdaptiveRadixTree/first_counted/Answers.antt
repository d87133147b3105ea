use Rattle.rart_versioned.proofs.EndPairLemmas.{within-none}
use Rattle.rart_versioned.proofs.counted.tree.VersionedAdaptiveRadixTree.first_counted.Goals as goal

pub returns-clause-first : goal.returns-clause-first
returns-clause-first g c =
    rw (within-none c.args.self.now.content) at c.first_from_counted.ensures.first

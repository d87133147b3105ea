use Rattle.rart_versioned.proofs.OutcomeLemmas.{removed-lookups}
use Rattle.rart_versioned.proofs.counted.tree.VersionedAdaptiveRadixTree.remove_k.Goals as goal

pub returns-clause-lookups : goal.returns-clause-lookups
returns-clause-lookups g c =
    removed-lookups c.args.self.now c.remove_k_counted.new.self
    (g.K.KeyTrait.bytes c.args.key.now) c.remove_k_counted.result c.remove_k_counted.ensures.removed

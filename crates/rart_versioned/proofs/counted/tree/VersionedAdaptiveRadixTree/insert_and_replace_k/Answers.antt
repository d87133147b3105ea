use Rattle.rart_versioned.proofs.OutcomeLemmas.{set-lookups}
use Rattle.rart_versioned.proofs.counted.tree.VersionedAdaptiveRadixTree.insert_and_replace_k.Goals as goal

pub returns-clause-lookups : goal.returns-clause-lookups
returns-clause-lookups g c =
    set-lookups c.args.self.now c.insert_and_replace_k_counted.new.self
    (g.K.KeyTrait.bytes c.args.key.now) c.args.value
    c.insert_and_replace_k_counted.result c.insert_and_replace_k_counted.ensures.set

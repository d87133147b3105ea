use Rattle.rart_versioned.proofs.UpdateLookupLemmas.{update-sets}
use Rattle.rart_versioned.proofs.counted.tree.VersionedAdaptiveRadixTree.update_k.Goals as goal

pub returns-clause-lookups : goal.returns-clause-lookups
returns-clause-lookups g c =
    update-sets g.F.FnOnce c.args.f c.args.self.now c.update_k_counted.new.self
    (g.K.KeyTrait.bytes c.args.key.now) c.update_k_counted.result
    c.update_k_counted.ensures.updates

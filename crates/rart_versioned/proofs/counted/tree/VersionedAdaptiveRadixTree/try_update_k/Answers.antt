use Rattle.rart_versioned.proofs.UpdateLookupLemmas.{tried-update-sets, refused-update-keeps}
use Rattle.rart_versioned.proofs.counted.tree.VersionedAdaptiveRadixTree.try_update_k.Goals as goal

pub returns : goal.returns
returns g c =
    let updates = c.try_update_k_counted.ensures.updates in
    let w = g.K.KeyTrait.bytes c.args.key.now in
    record {
      updates = updates;
      lookups = tried-update-sets g.F.FnOnce c.args.f c.args.self.now c.try_update_k_counted.new.self
          w c.try_update_k_counted.result updates;
      refused = refused-update-keeps g.F.FnOnce c.args.f c.args.self.now
          c.try_update_k_counted.new.self w c.try_update_k_counted.result updates;
    }

use Rattle.std.proofs.Common.{None, subst}
use Rattle.std.specs.Prelude.{OnOk}
use Rattle.rart_maps.specs.Lookups.{Sets}
use Rattle.rart_versioned.proofs.OutcomeLemmas.{removed-lookups}
use Rattle.rart_versioned.proofs.counted.tree.VersionedAdaptiveRadixTree.remove_bytes.Goals as goal

pub returns-clause-lookups : goal.returns-clause-lookups
returns-clause-lookups g c =
    let before = c.args.self.now in
    let after = c.remove_bytes_counted.new.self in
    let result = c.remove_bytes_counted.result in
    subst (λ key. OnOk result (Sets before after key None)) c.as_slice.ensures
    (removed-lookups before after c.as_slice.result.now result
    c.remove_bytes_counted.ensures.removed)

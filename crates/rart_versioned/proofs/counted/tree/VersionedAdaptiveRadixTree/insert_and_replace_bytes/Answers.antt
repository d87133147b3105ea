use Rattle.std.proofs.Common.{Some, subst}
use Rattle.std.specs.Prelude.{OnOk}
use Rattle.rart_maps.specs.Lookups.{Sets}
use Rattle.rart_versioned.proofs.OutcomeLemmas.{set-lookups}
use Rattle.rart_versioned.proofs.counted.tree.VersionedAdaptiveRadixTree.insert_and_replace_bytes.Goals as goal

pub returns-clause-lookups : goal.returns-clause-lookups
returns-clause-lookups g c =
    let before = c.args.self.now in
    let after = c.insert_and_replace_bytes_counted.new.self in
    let value = c.args.value in
    let result = c.insert_and_replace_bytes_counted.result in
    subst (λ key. OnOk result (Sets before after key (Some value))) c.as_slice.ensures
    (set-lookups before after c.as_slice.result.now value result
    c.insert_and_replace_bytes_counted.ensures.set)

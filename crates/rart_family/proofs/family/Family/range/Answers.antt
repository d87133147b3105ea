use Rattle.std.proofs.Common.{rules}
use Rattle.std.specs.Range.Bound.{bound_map}
use Rattle.rart_maps.specs.Iterations.{ByKey}
use Rattle.rart_maps.specs.Pairs.{within}
use Rattle.rart_family.proofs.CollectionLemmas.{gives_all}
use Rattle.rart_family.proofs.family.Family.range.Goals as goal

pub returns : goal.returns
returns g c =
    let bytes = g.K.KeyTrait.bytes in
    let bounds = c.in_ok-bounds.bounds in
    let found = within c.in_ok-version.version.now.content (bound_map bytes bounds.0)
    (bound_map bytes bounds.1) in
    let listed = c.in_ok-entries.ensures found
    (gives_all (ByKey bytes) found _ c.in_ok-range.ensures) in
    search rules

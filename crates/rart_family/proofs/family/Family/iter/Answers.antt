use Rattle.std.proofs.Common.{rules}
use Rattle.rart_maps.specs.Iterations.{ByKey}
use Rattle.rart_maps.specs.Pairs.{pairs}
use Rattle.rart_family.proofs.CollectionLemmas.{gives_all}
use Rattle.rart_family.proofs.family.Family.iter.Goals as goal

pub returns : goal.returns
returns g c =
    let found = pairs c.in_ok-version.version.now.content in
    let listed = c.in_ok-entries.ensures found
    (gives_all (ByKey g.K.KeyTrait.bytes) found _ c.in_ok-iter.ensures) in
    search rules

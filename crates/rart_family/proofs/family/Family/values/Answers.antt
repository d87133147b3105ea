use Rattle.std.proofs.Common.{rules, map}
use Rattle.rart_maps.specs.Iterations.{ByReference}
use Rattle.rart_maps.specs.Pairs.{pairs}
use Rattle.rart_family.proofs.CollectionLemmas.{gives_all}
use Rattle.rart_family.proofs.family.Family.values.Goals as goal

pub returns : goal.returns
returns g c =
    let found = map (λ pair. pair.1) (pairs c.in_ok-version.version.now.content) in
    let listed = c.in_ok-values.ensures found
    (gives_all ByReference found _ c.in_ok-values_iter.ensures) in
    search rules

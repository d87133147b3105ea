use Rattle.std.proofs.Common.{rules}
use Rattle.rart_maps.specs.Iterations.{ByKey}
use Rattle.rart_maps.specs.Pairs.{prefix_matches}
use Rattle.rart_family.proofs.CollectionLemmas.{gives_all}
use Rattle.rart_family.proofs.family.Family.prefix_matches.Goals as goal

pub returns : goal.returns
returns g c =
    let found = prefix_matches c.in_ok-version.version.now.content (g.K.KeyTrait.bytes c.args.key.now) in
    let listed = c.in_ok-entries.ensures found
    (gives_all (ByKey g.K.KeyTrait.bytes) found _ c.in_ok-prefix_match_iter_k.ensures) in
    search rules

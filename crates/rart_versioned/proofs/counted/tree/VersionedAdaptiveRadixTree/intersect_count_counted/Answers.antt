use Rattle.std.proofs.Common.{ap, arith, length}
use Rattle.rart_versioned.proofs.counted.tree.VersionedAdaptiveRadixTree.intersect_count_counted.Goals as goal

pub returns-in-Some-clause-each : goal.returns-in-Some-clause-each
returns-in-Some-clause-each g c =
    let all = ap length c.in-Some.ensures.both.common_pairs_are in
    let least = c.count_common.ensures.least in
    omega (arith, all, least)

pub returns-in-None-clause-each : goal.returns-in-None-clause-each
returns-in-None-clause-each g c =
    let none = ap length c.in-None.ensures.lacking.none in omega (arith, none)

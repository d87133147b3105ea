use Rattle.std.proofs.Common.{refl, sym, subst, ap, arith, length}
use Rattle.rart_maps.specs.Visits.{ByKeyPair, Visitable}
use Rattle.rart_versioned.proofs.VersionVisitLemmas.{OnOk-weaker}
use Rattle.rart_versioned.proofs.counted.tree.VersionedAdaptiveRadixTree.intersect_with_counted.Goals as goal

pub visit_common_keys-requires : goal.visit_common_keys-requires
visit_common_keys-requires g c κs =
    let roots = c.in-Some.ensures.both in
    let visitable =
    subst (Visitable g.F.FnMut (ByKeyPair g.K.KeyTrait.bytes) c.args.f.now)
    (sym roots.common_pairs_are)
    c.requires.visitable in
    ((refl, tt), (roots.left_tree, (roots.right_tree, (roots.admitted, visitable))))

pub returns-in-Some-clause-each : goal.returns-in-Some-clause-each
returns-in-Some-clause-each g c =
    let all = ap length c.in-Some.ensures.both.common_pairs_are in
    OnOk-weaker c.visit_common_keys.result (λ least. omega (arith, all, least)) c.visit_common_keys.ensures.least

pub returns-in-None-clause-each : goal.returns-in-None-clause-each
returns-in-None-clause-each g c =
    let none = ap length c.in-None.ensures.lacking.none in omega (arith, none)

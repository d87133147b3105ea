use Rattle.std.proofs.Common.{refl, sym, subst, map, ap, arith, length}
use Rattle.rart_maps.specs.Visits.{ByValuePair, Visitable}
use Rattle.rart_versioned.proofs.counted.tree.VersionedAdaptiveRadixTree.intersect_values_with_counted.Goals as goal

pub visit_common_values-requires : goal.visit_common_values-requires
visit_common_values-requires g c κs =
    let roots = c.in-Some.ensures.both in
    let visitable =
    subst (λ list. Visitable g.F.FnMut ByValuePair c.args.f.now
    (map (λ entry. (entry.1, entry.2)) list)) (sym roots.common_pairs_are) c.requires.visitable in
    ((refl, tt), (roots.left_tree, (roots.right_tree, visitable)))

pub returns-in-Some-clause-each : goal.returns-in-Some-clause-each
returns-in-Some-clause-each g c =
    let all = ap length c.in-Some.ensures.both.common_pairs_are in
    let least = c.visit_common_values.ensures.least in
    omega (arith, all, least)

pub returns-in-None-clause-each : goal.returns-in-None-clause-each
returns-in-None-clause-each g c =
    let none = ap length c.in-None.ensures.lacking.none in omega (arith, none)

use Rattle.std.proofs.Common.{refl, sym, subst, ap, arith, length}
use Rattle.rart_maps.specs.Visits.{ByViewPair, Visitable, Visits}
use Rattle.rart_lockstep.proofs.EndingLemmas.{visits-plain}
use Rattle.rart_versioned.proofs.VersionVisitLemmas.{OnOk-weaker}
use Rattle.rart_versioned.proofs.counted.tree.VersionedAdaptiveRadixTree.intersect_lending_with_counted.Goals as goal

pub visit_common-requires : goal.visit_common-requires
visit_common-requires g c κs =
    let roots = c.in-Some.ensures.both in
    let visitable = subst (Visitable g.F.FnMut ByViewPair c.args.f.now) (sym roots.common_pairs_are)
    c.requires.visitable in (
      (refl, tt),
      (
        roots.left_tree,
        (
          roots.right_tree,
          (
            c.new-key_path.ensures,
            (
              roots.short,
              visitable,
            ),
          ),
        ),
      ),
    )

pub returns-in-Some-clause-visits : goal.returns-in-Some-clause-visits
returns-in-Some-clause-visits g c =
    subst (λ members. Visits g.F.FnMut ByViewPair c.visit_common.result c.args.f.now members
    c.visit_common.new.f) c.in-Some.ensures.both.common_pairs_are
    (visits-plain g.F.FnMut ByViewPair c.visit_common.result c.args.f.now c.visit_common.new.f _
    c.visit_common.ensures.visits)

pub returns-in-Some-clause-each : goal.returns-in-Some-clause-each
returns-in-Some-clause-each g c =
    let all = ap length c.in-Some.ensures.both.common_pairs_are in
    OnOk-weaker c.visit_common.result (λ least. omega (arith, all, least)) c.visit_common.ensures.least

pub returns-in-None-clause-each : goal.returns-in-None-clause-each
returns-in-None-clause-each g c =
    let none = ap length c.in-None.ensures.lacking.none in omega (arith, none)

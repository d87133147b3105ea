use Rattle.std.proofs.Common.{Ok, refl, sym, subst, ap, arith, inl, length}
use Rattle.rart_below.specs.declared.visit.VisitControl.TheVariants.{Continue}
use Rattle.rart_maps.specs.Pairs.{common}
use Rattle.rart_maps.specs.Visits.{Answers, ByViewPair, VisitableUntil, VisitsUntil}
use Rattle.rart_versioned.specs.VisitCounts.{CountsCommon}
use Rattle.rart_versioned.proofs.CommonUntilLemmas.{counts-until, visits-until}
use Rattle.rart_versioned.proofs.counted.tree.VersionedAdaptiveRadixTree.try_intersect_lending_with_counted.Goals as goal

pub visit_common-requires : goal.visit_common-requires
visit_common-requires g c κs =
    let roots = c.in-Some.ensures.both in
    let visitable = subst (VisitableUntil g.F.FnMut ByViewPair c.args.f.now)
    (sym roots.common_pairs_are) c.requires.visitable in (
      (refl, tt),
      (
        roots.left_tree,
        (
          roots.right_tree,
          (
            c.new-key_path.ensures,
            (
              roots.short,
              visitable,
            ),
          ),
        ),
      ),
    )

pub returns-in-Some-clause-visits : goal.returns-in-Some-clause-visits
returns-in-Some-clause-visits g c =
    let f = c.args.f.now in
    let f' = c.visit_common.new.f in
    let all = common c.args.self.now.content c.args.other.now.content in
    let visits = rw c.in-Some.ensures.both.common_pairs_are at c.visit_common.ensures.visits in
    subst (λ result. VisitsUntil g.F.FnMut ByViewPair result f all f') (sym c.without_stop.ensures)
    (visits-until g.F.FnMut ByViewPair f f' all c.visit_common.result visits)

pub returns-in-Some-clause-ends : goal.returns-in-Some-clause-ends
returns-in-Some-clause-ends g c =
    let f = c.args.f.now in
    let f' = c.visit_common.new.f in
    let all = common c.args.self.now.content c.args.other.now.content in
    let visits = rw c.in-Some.ensures.both.common_pairs_are at c.visit_common.ensures.visits in
    let least = rw c.in-Some.ensures.both.common_pairs_are at c.visit_common.ensures.least in
    subst (λ result. CountsCommon g.F.FnMut ByViewPair f all result f' c.args.work.now
    c.visit_common.new.work) (sym c.without_stop.ensures)
    (counts-until g.F.FnMut ByViewPair f f' all _ c.visit_common.result visits least)

pub returns-in-None-clause-visits : goal.returns-in-None-clause-visits
returns-in-None-clause-visits g c =
    let none = c.in-None.ensures.lacking.none in (
      Continue,
      subst (λ members. Answers g.F.FnMut ByViewPair (Ok Continue) c.args.f.now members
          c.args.f.now) (sym none) refl,
    )

pub returns-in-None-clause-ends : goal.returns-in-None-clause-ends
returns-in-None-clause-ends g c =
    let none = c.in-None.ensures.lacking.none in
    let many = ap length none in
    inl (
      subst (λ members. Answers g.F.FnMut ByViewPair (Ok Continue) c.args.f.now members
          c.args.f.now) (sym none) refl,
      omega (arith, many),
    )

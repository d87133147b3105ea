use Rattle.std.proofs.Common.{arith, sym, subst}
use Rattle.rart_maps.specs.Visits.{ByView, Visitable, Visits}
use Rattle.rart_maps.proofs.VisitLemmas.{up_to-start, visits-refused}
use Rattle.rart_node.proofs.CountingLemmas.{entered-then}
use Rattle.rart_versioned.proofs.VersionVisitLemmas.{OnOk-weaker, counts-through}
use Rattle.rart_versioned.proofs.counted.tree.VersionedAdaptiveRadixTree.for_each_view_rev_counted.Goals as goal

pub visit_views_back-requires-clause-visitable : goal.visit_views_back-requires-clause-visitable
visit_views_back-requires-clause-visitable g c =
    subst (Visitable g.F.FnMut ByView c.args.f.now) (sym c.in_ok-walk.ensures.pairs)
    c.requires.visitable

pub returns-in_err-walk-clause-visits : goal.returns-in_err-walk-clause-visits
returns-in_err-walk-clause-visits g c =
    let start = up_to-start g.F.FnMut ByView tt c.args.f.now _ in
    let refused = c.from_residual.ensures.0 in
    visits-refused g.F.FnMut ByView c.from_residual.result refused (_, start)

pub returns : goal.returns
returns g c =
    let walk = c.in_ok-walk.ensures in
    let visit = c.visit_views_back.ensures in
    let nodes = walk.nodes in
    record {
      visits = subst (λ list. Visits g.F.FnMut ByView c.visit_views_back.result c.args.f.now list
          c.visit_views_back.new.f) walk.pairs visit.visits;
      counted = counts-through walk.counted nodes visit.counted;
      exact = OnOk-weaker c.visit_views_back.result (λ all. omega (arith, all, nodes)) visit.exact;
      entered = λ keyed. entered-then c.args.work.now (walk.entered keyed) visit.counted;
    }

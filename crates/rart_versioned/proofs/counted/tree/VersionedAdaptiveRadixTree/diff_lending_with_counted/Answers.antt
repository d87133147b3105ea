use Rattle.std.proofs.Common.{arith, sym, subst}
use Rattle.rart_maps.specs.ChangeVisits.{ByViewChange}
use Rattle.rart_maps.specs.Visits.{Visitable, Visits}
use Rattle.rart_maps.proofs.VisitLemmas.{up_to-start, visits-refused}
use Rattle.rart_node.proofs.CountingLemmas.{entered-then}
use Rattle.rart_versioned.proofs.VersionVisitLemmas.{OnOk-weaker, counts-through}
use Rattle.rart_versioned.proofs.counted.tree.VersionedAdaptiveRadixTree.diff_lending_with_counted.Goals as goal

pub visit_changed_views-requires-clause-visitable :
    goal.visit_changed_views-requires-clause-visitable
visit_changed_views-requires-clause-visitable g c =
    subst (Visitable g.F.FnMut ByViewChange c.args.f.now)
    (sym c.in_ok-old.ensures.walks.changes_are) c.requires.visitable

pub returns-in_err-old-clause-visits : goal.returns-in_err-old-clause-visits
returns-in_err-old-clause-visits g c =
    let start = up_to-start g.F.FnMut ByViewChange tt c.args.f.now _ in
    visits-refused g.F.FnMut ByViewChange c.from_residual.result
    c.from_residual.ensures.0
    (_, start)

pub returns : goal.returns
returns g c =
    let both = c.in_ok-old.ensures in
    let visit = c.visit_changed_views.ensures in
    record {
      visits = subst (λ list. Visits g.F.FnMut ByViewChange c.visit_changed_views.result
          c.args.f.now list c.visit_changed_views.new.f) both.walks.changes_are visit.visits;
      counted = counts-through both.counted both.nodes visit.counted;
      entered = λ keyed. entered-then c.args.work.now (both.entered keyed) visit.counted;
      entered_other = λ keyed.
          entered-then c.args.work.now (both.entered_other keyed) visit.counted;
      exact = let nodes = both.nodes in
          OnOk-weaker c.visit_changed_views.result (λ through. omega (arith, through, nodes)) visit.exact;
    }

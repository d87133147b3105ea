use Rattle.std.proofs.Common.{arith, sym, subst}
use Rattle.rart_maps.specs.ChangeVisits.{ByKeyChange}
use Rattle.rart_maps.specs.Visits.{Visitable, Visits}
use Rattle.rart_maps.proofs.VisitLemmas.{up_to-start, visits-refused}
use Rattle.rart_node.proofs.CountingLemmas.{entered-then}
use Rattle.rart_versioned.proofs.VersionVisitLemmas.{OnOk-weaker, counts-through}
use Rattle.rart_versioned.proofs.counted.tree.VersionedAdaptiveRadixTree.diff_with_counted.Goals as goal

pub visit_changed_keys-requires-clause-visitable :
    goal.visit_changed_keys-requires-clause-visitable
visit_changed_keys-requires-clause-visitable g c =
    subst (Visitable g.F.FnMut (ByKeyChange g.K.KeyTrait.bytes) c.args.f.now)
    (sym c.in_ok-old.ensures.walks.changes_are) c.requires.visitable

pub returns-in_err-old-clause-visits : goal.returns-in_err-old-clause-visits
returns-in_err-old-clause-visits g c =
    let start = up_to-start g.F.FnMut (ByKeyChange g.K.KeyTrait.bytes) tt c.args.f.now _ in
    visits-refused g.F.FnMut (ByKeyChange g.K.KeyTrait.bytes) c.from_residual.result
    c.from_residual.ensures.0
    (_, start)

pub returns : goal.returns
returns g c =
    let both = c.in_ok-old.ensures in
    let visit = c.visit_changed_keys.ensures in
    record {
      visits = subst (λ list. Visits g.F.FnMut (ByKeyChange g.K.KeyTrait.bytes)
          c.visit_changed_keys.result
          c.args.f.now list c.visit_changed_keys.new.f) both.walks.changes_are visit.visits;
      counted = counts-through both.counted both.nodes visit.counted;
      entered = λ keyed. entered-then c.args.work.now (both.entered keyed) visit.counted;
      entered_other = λ keyed.
          entered-then c.args.work.now (both.entered_other keyed) visit.counted;
      exact = let nodes = both.nodes in
          OnOk-weaker c.visit_changed_keys.result (λ through. omega (arith, through, nodes)) visit.exact;
    }

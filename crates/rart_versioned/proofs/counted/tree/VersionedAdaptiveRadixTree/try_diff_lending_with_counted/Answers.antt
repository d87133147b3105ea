use Rattle.std.proofs.Common.{◌≡◌, ◌+◌, arith, Ok, sym, subst}
use Rattle.rart_below.specs.declared.visit.VisitControl.TheVariants.{Continue}
use Rattle.rart_maps.specs.ChangeVisits.{ByViewChange}
use Rattle.rart_maps.specs.ChangeLists.{changes}
use Rattle.rart_walks.specs.DiffEnds.{EntersTo}
use Rattle.rart_walks.specs.Ends.{Ends}
use Rattle.rart_walks.specs.TwoWalks.{nodes_ahead}
use Rattle.rart_maps.specs.Visits.{VisitableUntil, VisitsUntil}
use Rattle.rart_maps.proofs.VisitLemmas.{up_to-start}
use Rattle.rart_node.proofs.CountingLemmas.{entered-then}
use Rattle.rart_versioned.proofs.EndedDiffLemmas.{diff-soon}
use Rattle.rart_versioned.proofs.VersionVisitLemmas.{counts-through, ends-weaker}
use Rattle.rart_versioned.proofs.counted.tree.VersionedAdaptiveRadixTree.try_diff_lending_with_counted.Goals as goal

pub visit_changed_views_until-requires-clause-visitable :
    goal.visit_changed_views_until-requires-clause-visitable
visit_changed_views_until-requires-clause-visitable g c =
    subst (VisitableUntil g.F.FnMut ByViewChange c.args.f.now)
    (sym c.in-Ok.ensures.walks.changes_are) c.requires.visitable

pub returns-in-Err-clause-visits : goal.returns-in-Err-clause-visits
returns-in-Err-clause-visits g c =
    (_, up_to-start g.F.FnMut ByViewChange (Ok Continue) c.args.f.now _)

pub returns-in-Ok : goal.returns-in-Ok
returns-in-Ok g c =
    let both = c.in-Ok.ensures in
    let visit = c.visit_changed_views_until.ensures in
    record {
      visits = subst (λ list. VisitsUntil g.F.FnMut ByViewChange c.visit_changed_views_until.result
          c.args.f.now list c.visit_changed_views_until.new.f) both.walks.changes_are visit.visits;
      counted = counts-through both.counted both.nodes visit.counted;
      entered = λ keyed. entered-then c.args.work.now (both.entered keyed) visit.counted;
      entered_other = λ keyed.
          entered-then c.args.work.now (both.entered_other keyed) visit.counted;
      ends =
          let m = c.args.self.now.content in
          let n = c.args.other.now.content in
          let old = c.in-Ok.old in
          let new = c.in-Ok.new in
          let between = c.both_walks.new.work in
          let after = c.visit_changed_views_until.new.work in
          let state = c.visit_changed_views_until.new.f in
          let result = c.visit_changed_views_until.result in
          let nodes = both.nodes in
          ends-weaker g.F.FnMut ByViewChange (changes g.V.PartialEq.eq m n)
          (λ through. omega (arith, nodes, through))
          (λ front rest last is enters. diff-soon m n old new c.args.work.now between after _
          both.counted both.to both.held front last enters) c.args.f.now state result
          (subst (λ list. Ends g.F.FnMut ByViewChange
          (after.entered ≡ between.entered + nodes_ahead old new)
          (EntersTo old new between after) result c.args.f.now list state)
          both.walks.changes_are visit.ends);
    }

use Rattle.std.proofs.Common.{arith, Ok, sym, subst}
use Rattle.rart_below.specs.declared.visit.VisitControl.TheVariants.{Continue}
use Rattle.rart_maps.specs.Pairs.{pairs}
use Rattle.rart_maps.specs.Visits.{ByView, VisitableUntil, VisitsUntil}
use Rattle.rart_maps.proofs.VisitLemmas.{up_to-start}
use Rattle.rart_node.proofs.CountingLemmas.{entered-then}
use Rattle.rart_versioned.proofs.PrefixEndLemmas.{ends-soon-of-all}
use Rattle.rart_versioned.proofs.VersionVisitLemmas.{counts-through, ends-weaker}
use Rattle.rart_versioned.proofs.counted.tree.VersionedAdaptiveRadixTree.try_for_each_view_counted.Goals as goal

pub visit_views_until-requires-clause-visitable : goal.visit_views_until-requires-clause-visitable
visit_views_until-requires-clause-visitable g c =
    subst (VisitableUntil g.F.FnMut ByView c.args.f.now) (sym c.in-Ok.ensures.pairs)
    c.requires.visitable

pub returns-in-Err-clause-visits : goal.returns-in-Err-clause-visits
returns-in-Err-clause-visits g c =
    (_, up_to-start g.F.FnMut ByView (Ok Continue) c.args.f.now _)

pub returns-in-Ok : goal.returns-in-Ok
returns-in-Ok g c =
    let m = c.args.self.now.content in
    let walk = c.in-Ok.ensures in
    let hand = walk.at_hand in
    let visit = c.visit_views_until.ensures in
    let ends = rw walk.pairs at visit.ends in
    record {
      visits = subst (λ list. VisitsUntil g.F.FnMut ByView c.visit_views_until.result
          c.args.f.now list c.visit_views_until.new.f) walk.pairs visit.visits;
      counted = counts-through walk.counted walk.nodes visit.counted;
      entered = λ keyed. entered-then c.args.work.now (walk.entered keyed) visit.counted;
      ends = ends-weaker g.F.FnMut ByView (pairs m)
          (λ through. omega (arith, through, hand))
          (λ front rest last is enters. ends-soon-of-all m front rest last is _ _ c.args.work.now
          c.whole_walk-walk.new.work c.visit_views_until.new.work walk.one hand walk.few_up_to
          enters)
          _ _ c.visit_views_until.result ends;
    }

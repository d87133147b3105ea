use Rattle.std.proofs.Common.{arith, map, Ok, refl, sym, ap, subst, ◌∙◌}
use Rattle.rart_below.specs.declared.visit.VisitControl.TheVariants.{Continue}
use Rattle.rart_maps.specs.Pairs.{under}
use Rattle.rart_maps.specs.Visits.{ByValue, VisitableUntil, VisitsUntil}
use Rattle.rart_maps.proofs.VisitLemmas.{up_to-start}
use Rattle.rart_versioned.proofs.PrefixEndLemmas.{ends-soon}
use Rattle.rart_node.proofs.CountingLemmas.{counts-most, counts-then, entered-then}
use Rattle.rart_versioned.proofs.VersionVisitLemmas.{ends-weaker}
use Rattle.rart_walks.specs.Ends.{ByPairValue}
use Rattle.rart_versioned.proofs.counted.tree.VersionedAdaptiveRadixTree.try_prefix_values_for_each_k_counted.Goals as goal

pub visit_values_until-requires : goal.visit_values_until-requires
visit_values_until-requires g c κs =
    let same = c.in-Ok.ensures.pairs
    ∙ ap (under c.args.self.now.content) c.as_ref.ensures in
    let values = ap (map (λ pair. pair.1)) same in (
      (refl, tt),
      (
        c.in-Ok.ensures.walk,
        subst (VisitableUntil g.F.FnMut ByValue c.args.f.now) (sym values) c.requires.visitable,
      ),
    )

pub returns-in-Err-clause-visits : goal.returns-in-Err-clause-visits
returns-in-Err-clause-visits g c =
    (_, up_to-start g.F.FnMut ByValue (Ok Continue) c.args.f.now _)

pub returns-in-Err-clause-counted : goal.returns-in-Err-clause-counted
returns-in-Err-clause-counted g c =
    let way = rw c.as_ref.ensures at c.walk_under-walk.ensures.counted in
    counts-most way (omega arith) (omega arith)

pub returns-in-Err-clause-counted_by_pairs : goal.returns-in-Err-clause-counted_by_pairs
returns-in-Err-clause-counted_by_pairs g c =
    let way = rw c.as_ref.ensures at c.walk_under-walk.ensures.counted in
    counts-most way (omega arith) (omega arith)

pub returns-in-Ok : goal.returns-in-Ok
returns-in-Ok g c =
    let m = c.args.self.now.content in
    let p = g.K.KeyTrait.bytes c.args.prefix.now in
    let walk = c.in-Ok.ensures in
    let same = walk.pairs ∙ ap (under m) c.as_ref.ensures in
    let hand = walk.at_hand in
    let way = rw c.as_ref.ensures at walk.counted in
    let nodes = rw c.as_ref.ensures at walk.nodes in
    let by_pairs = rw c.as_ref.ensures at walk.few in
    let few = rw c.as_ref.ensures at walk.few_up_to in
    let visit = c.visit_values_until.ensures in
    let ends = rw same at visit.ends in
    record {
      visits = subst (λ list. VisitsUntil g.F.FnMut ByValue c.visit_values_until.result c.args.f.now
          (map (λ pair. pair.1) list) c.visit_values_until.new.f) same visit.visits;
      counted = counts-then way visit.counted (omega (arith, nodes)) (omega arith);
      counted_by_pairs = counts-then way visit.counted (omega (arith, by_pairs)) (omega arith);
      entered = λ keyed. entered-then c.args.work.now (walk.entered keyed) visit.counted;
      ends = ends-weaker g.F.FnMut ByPairValue (under m p)
          (λ through. omega (arith, through, hand))
          (λ front rest last is enters. ends-soon m p front rest last is _ _ c.args.work.now
          c.walk_under-walk.new.work c.visit_values_until.new.work way hand few enters)
          _ _ c.visit_values_until.result ends;
    }

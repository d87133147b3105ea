use Rattle.std.proofs.Common.{arith, length, map, refl, sym, ap, subst, ◌∙◌}
use Rattle.rart_maps.specs.Pairs.{under}
use Rattle.rart_maps.specs.Visits.{Visits, ByValue, Visitable}
use Rattle.rart_maps.proofs.VisitLemmas.{up_to-start, visits-refused}
use Rattle.rart_node.proofs.CountingLemmas.{counts-most, counts-then, entered-then}
use Rattle.rart_versioned.proofs.VersionVisitLemmas.{OnOk-weaker}
use Rattle.rart_versioned.proofs.counted.tree.VersionedAdaptiveRadixTree.prefix_values_for_each_k_counted.Goals as goal

pub visit_values-requires : goal.visit_values-requires
visit_values-requires g c κs =
    let same = c.in_ok-walk.ensures.pairs
    ∙ ap (under c.args.self.now.content) c.as_ref.ensures in
    let values = ap (map (λ pair. pair.1)) same in (
      (refl, tt),
      (
        c.in_ok-walk.ensures.walk,
        subst (Visitable g.F.FnMut ByValue c.args.f.now) (sym values) c.requires.visitable,
      ),
    )

pub returns-in_err-walk-clause-visits : goal.returns-in_err-walk-clause-visits
returns-in_err-walk-clause-visits g c =
    let start = up_to-start g.F.FnMut ByValue tt c.args.f.now _ in
    let refused = c.from_residual.ensures.0 in
    visits-refused g.F.FnMut ByValue c.from_residual.result refused (_, start)

pub returns-in_err-walk-clause-counted : goal.returns-in_err-walk-clause-counted
returns-in_err-walk-clause-counted g c =
    let way = rw c.as_ref.ensures at c.walk_under.ensures.counted in
    counts-most way (omega arith) (omega arith)

pub returns-in_err-walk-clause-counted_by_pairs : goal.returns-in_err-walk-clause-counted_by_pairs
returns-in_err-walk-clause-counted_by_pairs g c =
    let way = rw c.as_ref.ensures at c.walk_under.ensures.counted in
    counts-most way (omega arith) (omega arith)

pub returns : goal.returns
returns g c =
    let walk = c.in_ok-walk.ensures in
    let same = walk.pairs ∙ ap (under c.args.self.now.content) c.as_ref.ensures in
    let way = rw c.as_ref.ensures at walk.counted in
    let nodes = rw c.as_ref.ensures at walk.nodes in
    let few = rw c.as_ref.ensures at walk.few in
    let hand = walk.at_hand in
    let long = ap length same in
    let visit = c.visit_values.ensures in
    record {
      visits = subst (λ list. Visits g.F.FnMut ByValue c.visit_values.result c.args.f.now
          (map (λ pair. pair.1) list) c.visit_values.new.f) same visit.visits;
      counted = counts-then way visit.counted (omega (arith, nodes)) (omega arith);
      counted_by_pairs = counts-then way visit.counted (omega (arith, few)) (omega arith);
      entered = λ keyed. entered-then c.args.work.now (walk.entered keyed) visit.counted;
      each = OnOk-weaker c.visit_values.result (λ each. omega (arith, each, hand, long))
          visit.each;
    }

use Rattle.std.proofs.Common.{ℕ, List, length, rules, arith, sym, ap, subst, ◌∙◌}
use Rattle.std.proofs.Math.Nat.{le_refl}
use Rattle.std.specs.Range.Bound.{bound_map}
use Rattle.rart_maps.specs.FoundLaws.{KeysAscend}
use Rattle.rart_maps.specs.Visits.{ByView, Visits, Visitable}
use Rattle.rart_maps.proofs.RangeLemmas.{up_to, from-ascends, within-from}
use Rattle.rart_maps.proofs.VisitLemmas.{up_to-start, visits-refused}
use Rattle.rart_node.proofs.CountingLemmas.{counts-most}
use Rattle.rart_versioned.proofs.VersionVisitLemmas.{OnOk-weaker}
use Rattle.rart_versioned.proofs.counted.tree.VersionedAdaptiveRadixTree.visit_range.Goals as goal

pub returns-in_err-walk-clause-visits : goal.returns-in_err-walk-clause-visits
returns-in_err-walk-clause-visits g c =
    let start = up_to-start g.F.FnMut ByView tt c.args.f.now _ in
    visits-refused g.F.FnMut ByView c.from_residual.result
    c.from_residual.ensures.0 (_, start)

pub returns-in_err-walk-clause-counted : goal.returns-in_err-walk-clause-counted
returns-in_err-walk-clause-counted g c =
    counts-most c.walk_from.ensures.counted (omega arith) (le_refl 0)

pub returns-in_err-walk-clause-each : goal.returns-in_err-walk-clause-each
returns-in_err-walk-clause-each g c =
    let refused = c.from_residual.ensures.0 in search (rules, refused)

pub visit_views_up_to-requires-clause-ascend : goal.visit_views_up_to-requires-clause-ascend
visit_views_up_to-requires-clause-ascend g c =
    subst (KeysAscend (λ (pair : List ℕ × g.row.V.Denot). pair.0)) (sym c.in_ok-walk.ensures.pairs)
    (from-ascends c.args.self.now.content (bound_map (λ low. low.now) c.args.low))

pub visit_views_up_to-requires-clause-visitable : goal.visit_views_up_to-requires-clause-visitable
visit_views_up_to-requires-clause-visitable g c =
    let low = bound_map (λ low. low.now) c.args.low in
    let high = bound_map (λ high. high.now) c.args.high in
    let same = within-from c.args.self.now.content low high
    ∙ ap (up_to high) (sym c.in_ok-walk.ensures.pairs) in
    subst (Visitable g.F.FnMut ByView c.args.f.now) same c.requires.visitable

pub returns : goal.returns
returns g c =
    let low = bound_map (λ low. low.now) c.args.low in
    let high = bound_map (λ high. high.now) c.args.high in
    let same = within-from c.args.self.now.content low high
    ∙ ap (up_to high) (sym c.in_ok-walk.ensures.pairs) in
    let Done = λ (list : List (List ℕ × g.row.V.Denot)).
    Visits g.F.FnMut ByView c.visit_views_up_to.result c.args.f.now list
    c.visit_views_up_to.new.f in
    let way = c.in_ok-walk.ensures.counted in
    let visit = c.visit_views_up_to.ensures.few in
    let few = c.in_ok-walk.ensures.few high in
    let way_grows = way.entered_grows in
    let way_most = way.entered_at_most in
    let way_kept = way.made_grows in
    let way_made = way.made_at_most in
    let visit_grows = visit.entered_grows in
    let visit_most = visit.entered_at_most in
    let visit_kept = visit.made_grows in
    let visit_made = visit.made_at_most in
    record {
      visits = subst Done (sym same) c.visit_views_up_to.ensures.visits;
      counted = record {
        entered_grows = omega (arith, way_grows, visit_grows);
        entered_at_most = omega (arith, way_most, visit_most, few);
        made_grows = omega (arith, way_kept, visit_kept);
        made_at_most = omega (arith, way_made, visit_made);
      };
      entered = λ keyed. let first = c.in_ok-walk.ensures.entered keyed in
          omega (arith, first, visit_grows);
      each =
          let hand = c.in_ok-walk.ensures.at_hand in
          let long = ap length same in
          OnOk-weaker c.visit_views_up_to.result (λ each. omega (arith, each, hand, long))
          c.visit_views_up_to.ensures.each;
    }

use Rattle.std.proofs.Common.{Some, ℕ, List, sym, ap, subst, ◌∙◌}
use Rattle.std.specs.Range.Bound.{bound_map}
use Rattle.rart_walks.specs.Descending.{KeysDescend, pairs_down_to}
use Rattle.rart_versioned.proofs.BackWalkLemmas.{to-descends, within-back}
use Rattle.rart_versioned.proofs.counted.tree.VersionedAdaptiveRadixTree.range_bytes_rev.Goals as goal

pub invariant_of-result : goal.invariant_of-result
invariant_of-result g c =
    let low = bound_map (λ low. low.now) c.args.low in
    let high = bound_map (λ high. high.now) c.args.high in
    record {
      keyed = record {
        sound = c.in_ok-walk.ensures.walk;
        admitted = c.in_ok-walk.ensures.admitted;
      };
      ordered = subst KeysDescend (sym c.in_ok-walk.ensures.pairs)
          (to-descends c.args.self.now.content low high);
    }

pub returns : goal.returns
returns g c =
    let low = bound_map (λ low. low.now) c.args.low in
    let high = bound_map (λ high. high.now) c.args.high in
    ap (λ (list : List (List ℕ × g.row.V.Denot)). Some (pairs_down_to low list))
    c.in_ok-walk.ensures.pairs
    ∙ ap (λ (list : List (List ℕ × g.row.V.Denot)). Some list)
    (within-back c.args.self.now.content low high)

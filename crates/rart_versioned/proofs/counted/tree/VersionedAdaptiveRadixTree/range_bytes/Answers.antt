use Rattle.std.proofs.Common.{Some, ℕ, List, sym, ap, subst, ◌∙◌}
use Rattle.std.specs.Range.Bound.{bound_map}
use Rattle.rart_maps.specs.FoundLaws.{KeysAscend}
use Rattle.rart_maps.proofs.RangeLemmas.{from-ascends, up_to, within-from}
use Rattle.rart_versioned.proofs.counted.tree.VersionedAdaptiveRadixTree.range_bytes.Goals as goal

pub invariant_of-result : goal.invariant_of-result
invariant_of-result g c =
    let low = bound_map (λ low. low.now) c.args.low in
    record {
      keyed = record {
        sound = c.in_ok-walk.ensures.walk;
        admitted = c.in_ok-walk.ensures.admitted;
      };
      ordered = subst (KeysAscend (λ (pair : List ℕ × g.row.V.Denot). pair.0))
          (sym c.in_ok-walk.ensures.pairs) (from-ascends c.args.self.now.content low);
    }

pub returns : goal.returns
returns g c =
    let low = bound_map (λ low. low.now) c.args.low in
    let high = bound_map (λ high. high.now) c.args.high in
    ap (λ (list : List (List ℕ × g.row.V.Denot)). Some (up_to high list)) c.in_ok-walk.ensures.pairs
    ∙ ap (λ (list : List (List ℕ × g.row.V.Denot)). Some list)
    (sym (within-from c.args.self.now.content low high))

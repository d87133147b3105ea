use Rattle.std.proofs.Common.{Some, ℕ, List, reverse, sym, ap, subst, ◌∙◌}
use Rattle.std.specs.Range.Bound.{bound_map}
use Rattle.rart_maps.specs.Pairs.{pairs}
use Rattle.rart_maps.proofs.RangeLemmas.{up_to}
use Rattle.rart_walks.specs.Descending.{KeysDescend, pairs_down_to}
use Rattle.rart_versioned.proofs.BackWalkLemmas.{to-descends, within-back}
use Rattle.rart_versioned.proofs.counted.tree.VersionedAdaptiveRadixTree.range_rev.Goals as goal

pub invariant_of-result : goal.invariant_of-result
invariant_of-result g c =
    let low = bound_map g.K.KeyTrait.bytes c.args.range.0 in
    let high = bound_map (λ bytes. bytes.now) c.bytes_of.result in
    record {
      keyed = record {
        sound = c.in_ok-walk.ensures.walk;
        admitted = c.in_ok-walk.ensures.admitted;
      };
      ordered = subst KeysDescend (sym c.in_ok-walk.ensures.pairs)
          (to-descends c.args.self.now.content low high);
    }

pub returns : goal.returns
returns g c =
    let bytes = g.K.KeyTrait.bytes in
    let low = bound_map bytes c.args.range.0 in
    let high = bound_map bytes c.args.range.1 in
    let m = c.args.self.now.content in
    ap (λ (list : List (List ℕ × g.row.V.Denot)). Some (pairs_down_to low list))
    c.in_ok-walk.ensures.pairs
    ∙ ap (λ high. Some (pairs_down_to low (reverse (up_to high (pairs m))))) c.bytes_of.ensures
    ∙ ap (λ (list : List (List ℕ × g.row.V.Denot)). Some list) (within-back m low high)

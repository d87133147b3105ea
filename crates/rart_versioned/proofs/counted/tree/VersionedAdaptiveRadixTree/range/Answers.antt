use Rattle.std.proofs.Common.{Some, ℕ, List, sym, ap, subst, ◌∙◌}
use Rattle.std.specs.Range.Bound.{bound_map}
use Rattle.rart_maps.specs.FoundLaws.{KeysAscend}
use Rattle.rart_maps.specs.Pairs.{pairs}
use Rattle.rart_maps.proofs.RangeLemmas.{from, from-ascends, up_to, within-from}
use Rattle.rart_versioned.proofs.counted.tree.VersionedAdaptiveRadixTree.range.Goals as goal

pub invariant_of-result : goal.invariant_of-result
invariant_of-result g c =
    let low = bound_map (λ bytes. bytes.now) c.bytes_of.result in
    record {
      keyed = record {
        sound = c.in_ok-walk.ensures.walk;
        admitted = c.in_ok-walk.ensures.admitted;
      };
      ordered = subst (KeysAscend (λ (pair : List ℕ × g.row.V.Denot). pair.0))
          (sym c.in_ok-walk.ensures.pairs) (from-ascends c.args.self.now.content low);
    }

pub returns : goal.returns
returns g c =
    let bytes = g.K.KeyTrait.bytes in
    let low = bound_map bytes c.args.range.0 in
    let high = bound_map bytes c.args.range.1 in
    let m = c.args.self.now.content in
    ap (λ (list : List (List ℕ × g.row.V.Denot)). Some (up_to high list)) c.in_ok-walk.ensures.pairs
    ∙ ap (λ low. Some (up_to high (from low (pairs m)))) c.bytes_of.ensures
    ∙ ap (λ (list : List (List ℕ × g.row.V.Denot)). Some list) (sym (within-from m low high))

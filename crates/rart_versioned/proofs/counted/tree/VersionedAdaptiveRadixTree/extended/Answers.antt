use Rattle.std.proofs.Common.{ap, sym, ◌∙◌, arith}
use Rattle.rart_maps.specs.Versions.{with_key}
use Rattle.rart_versioned.proofs.ExtendLemmas.{with_pairs-last}
use Rattle.rart_versioned.proofs.counted.tree.VersionedAdaptiveRadixTree.extended.Goals as goal

pub putting-preserved : goal.putting-preserved
putting-preserved g c =
    let bytes = g.K.KeyTrait.bytes in
    let before = c.putting.invariant in
    let pair : g.row.K.Denot × g.row.V.Denot = (c.in-Some.key, c.in-Some.value) in
    let goes = c.in-Some.ensures.goes.on before.ends in
    let put = c.in_ok-insert.ensures.set in
    let number = ap (λ v. v.number) put in
    let room = before.room in
    let less = goes.2 in
    record {
      can = goes.0;
      ends = goes.1;
      room = omega (arith, number, room, less);
      set = put ∙ ap (λ v. with_key v (bytes pair.0) pair.1 1) before.set
          ∙ sym (with_pairs-last bytes c.args.self.now c.putting.yielded pair);
    }

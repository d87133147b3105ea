use Rattle.std.proofs.Common.{◌<◌, ◌^◌, arith, length, subst, sym}
use Rattle.std.specs.FinMap as finite
use Rattle.rart_versioned.proofs.counted.tree.VersionedAdaptiveRadixTree.count.Goals as goal

pub count_left-requires-clause-few : goal.count_left-requires-clause-few
count_left-requires-clause-few g c =
    let few = c.know_keys_for_proof.ensures.few in
    let long = finite.len-entries c.args.self.now.content in
    let fits = c.know_keys_for_proof.ensures.fits in
    subst (λ list. length list < 2 ^ 64) (sym c.in_ok-whole_walk.ensures.pairs)
    (omega (arith, few, fits, long))

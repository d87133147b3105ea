use Rattle.std.proofs.Common.{◌<◌, ◌^◌, List, ℕ, arith, length, subst, sym}
use Rattle.std.proofs.lemmas.List.Sums.{length-filter, count_by-le-length}
use Rattle.rart_below.specs.Bytes.{begins}
use Rattle.rart_maps.specs.Pairs.{pairs}
use Rattle.std.specs.FinMap as finite
use Rattle.rart_versioned.proofs.counted.tree.VersionedAdaptiveRadixTree.count_under.Goals as goal

pub count_left-requires-clause-few : goal.count_left-requires-clause-few
count_left-requires-clause-few g c =
    let few = c.know_keys_for_proof.ensures.few in
    let long = finite.len-entries c.args.self.now.content in
    let fits = c.know_keys_for_proof.ensures.fits in
    let test = λ (pair : List ℕ × g.row.V.Denot). begins c.as_slice.result.now pair.0 in
    let all = pairs c.args.self.now.content in
    let some = length-filter test all in
    let most = count_by-le-length test all in
    subst (λ list. length list < 2 ^ 64) (sym c.in_ok-walk_under.ensures.pairs)
    (omega (arith, few, fits, long, some, most))

use Rattle.std.proofs.Common.{ℕ, Ok, ◌∙◌}
use Rattle.std.specs.BTreeMap.{IsFromIterResult}
use Rattle.std.proofs.lemmas.Iterator.Adapters.{YieldsList-from_vec, fact_from_collect}
use Rattle.rart_below.proofs.PlainLemmas.{put_all-plain}
use Rattle.rart_below.proofs.plain.AdaptiveRadixTree.from_pairs.Goals as goal

pub returns : goal.returns
returns g c =
    let cmp = g.K.Ord.cmp in
    let pairs = c.args.pairs.items in
    let map = c.in_ok-from_iter.field-0 in
    let ran = c.in_ok-from_iter.ensures.ran in
    let all_taken =
    YieldsList-from_vec {s = ran.0} pairs ran.2.0 (ran.2.1 ∙ c.args.pairs.ok.0) in
    let made =
    fact_from_collect {E = ℕ} (IsFromIterResult cmp) (Ok map) (ran.1, ran.3, ran.4) all_taken in
    put_all-plain g.K.KeyTrait.bytes cmp g.met.K.KeyTrait.ordered_by_bytes pairs map.entries made.0

use Rattle.std.proofs.Common.{ap, ◌∙◌}
use Rattle.std.specs.FinMap as finite
use Rattle.rart_below.specs.Plain.{by_bytes}
use Rattle.rart_below.proofs.PlainLemmas.{entries-plain}
use Rattle.rart_below.proofs.plain.AdaptiveRadixTree.iter.Goals as goal

pub returns : goal.returns
returns g c =
    let bytes = g.K.KeyTrait.bytes in
    ap (by_bytes bytes) c.iter.ensures.rest
    ∙ entries-plain bytes g.K.Ord.cmp g.met.K.KeyTrait.ordered_by_bytes c.self.inside.pairs.entries
    c.iter.ensures.ordered
    ∙ ap finite.entries c.self.view_is

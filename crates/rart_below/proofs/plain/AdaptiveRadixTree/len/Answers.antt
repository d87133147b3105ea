use Rattle.std.proofs.Common.{ap, ◌∙◌}
use Rattle.std.specs.FinMap as finite
use Rattle.rart_below.proofs.PlainLemmas.{len-plain}
use Rattle.rart_below.proofs.plain.AdaptiveRadixTree.len.Goals as goal

pub returns : goal.returns
returns g c =
    let bytes = g.K.KeyTrait.bytes in
    c.len.ensures.len
    ∙ len-plain bytes g.K.Ord.cmp g.met.K.KeyTrait.ordered_by_bytes c.self.inside.pairs.entries
    c.len.ensures.ordered
    ∙ ap finite.len c.self.view_is

use Rattle.std.proofs.Common.{ap, ◌∙◌}
use Rattle.std.specs.FinMap as finite
use Rattle.rart_below.proofs.PlainLemmas.{get-plain}
use Rattle.rart_below.proofs.plain.AdaptiveRadixTree.get_k.Goals as goal

pub returns : goal.returns
returns g c =
    let bytes = g.K.KeyTrait.bytes in
    c.get.ensures.value
    ∙ get-plain bytes g.K.Ord.cmp g.met.K.KeyTrait.ordered_by_bytes c.args.key.now
    c.self.inside.pairs.entries
    ∙ ap (λ m. finite.get m (bytes c.args.key.now)) c.self.view_is

use Rattle.std.proofs.Common.{ap, is_some, ◌∙◌}
use Rattle.std.specs.FinMap as finite
use Rattle.rart_below.specs.Plain.{plain_map}
use Rattle.rart_below.proofs.PlainLemmas.{get-plain, insert-plain}
use Rattle.rart_below.proofs.plain.AdaptiveRadixTree.insert_k.Goals as goal

pub returns-clause-replaced : goal.returns-clause-replaced
returns-clause-replaced g c =
    let bytes = g.K.KeyTrait.bytes in
    let pairs = c.self.inside.pairs.entries in
    let copied = c.in_ok-copy.ensures {u = tt} ∙ c.as_ref.ensures in
    c.is_some.ensures
    ∙ ap is_some (c.in_ok-before.ensures.old
    ∙ get-plain bytes g.K.Ord.cmp g.met.K.KeyTrait.ordered_by_bytes c.in_ok-copy.copy pairs)
    ∙ ap (λ key. finite.contains_key (plain_map bytes pairs) key) copied
    ∙ ap (λ map. finite.contains_key map (bytes c.args.key.now)) c.self.view_is

pub returns-clause-set : goal.returns-clause-set
returns-clause-set g c =
    let bytes = g.K.KeyTrait.bytes in
    let pairs = c.self.inside.pairs.entries in
    let copied = c.in_ok-copy.ensures {u = tt} ∙ c.as_ref.ensures in
    ap (plain_map bytes) c.in_ok-before.ensures.entries
    ∙ insert-plain bytes g.K.Ord.cmp g.met.K.KeyTrait.ordered_by_bytes pairs c.in_ok-copy.copy
    c.args.value
    ∙ ap (λ key. finite.insert (plain_map bytes pairs) key c.args.value) copied
    ∙ ap (λ map. finite.insert map (bytes c.args.key.now) c.args.value) c.self.view_is

use Rattle.std.proofs.Common.{◌++◌, ap, ◌∙◌, rules}
use Rattle.rart_saved.proofs.ValueLemmas.{eight-low}
use Rattle.rart_saved.proofs.value.U64SavedValue.write.Goals as goal

pub returns : goal.returns
returns c =
    c.in_ok-extend_from_slice.ensures.items
    ∙ ap (λ g. c.args.out.now.items ++ g) (c.to_le_bytes.ensures ∙ eight-low c.args.self.now
    (search rules))

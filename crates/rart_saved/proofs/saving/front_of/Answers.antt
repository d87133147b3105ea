use Rattle.std.proofs.Common.{◌++◌, ap, ◌∙◌}
use Rattle.rart_saved.specs.Numbers.{leb}
use Rattle.rart_saved.proofs.saving.front_of.Goals as goal

pub returns : goal.returns
returns c =
    c.in_ok-put_number-2.ensures
    ∙ ap (λ s. s ++ leb c.args.count) (c.in_ok-put_number.ensures
    ∙ ap (λ s. s ++ leb c.args.number) (c.in_ok-extend_from_slice.ensures.items
    ∙ (λ i. c.new-front.ensures.items i ++ c.head_of.ensures i)))

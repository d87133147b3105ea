use Rattle.std.proofs.Common.{◌∙◌}
use Rattle.std.proofs.Common.{nat_cmp}
use Rattle.rart_below.proofs.BlockLemmas.{HasBlock}
use Rattle.rart_below.proofs.BlockOrderLemmas.{block_order}
use Rattle.rart_below.proofs.beginnings.compare_blocks.Goals as goal

pub returns : goal.returns
returns c =
    let in_left : HasBlock 8 c.args.place c.args.left.now =
    record { within = c.requires.in_left; are_bytes = λ k. (c.type_inv.left k).fits } in
    let in_right : HasBlock 8 c.args.place c.args.right.now =
    record { within = c.requires.in_right; are_bytes = λ k. (c.type_inv.right k).fits } in
    c.cmp.ensures
    ∙ (λ i. nat_cmp (c.eight_in_order.ensures i) (c.eight_in_order-2.ensures i))
    ∙ block_order c.args.place c.args.left.now c.args.right.now in_left in_right

use Rattle.std.proofs.Common.{ap, sym, ◌∙◌}
use Rattle.rart_below.specs.Bytes.{byte_order}
use Rattle.rart_walks.specs.SideFields.{key_at}
use Rattle.rart_walks.proofs.SideLemmas.{both-first}
use Rattle.rart_walks.proofs.diff.order.order_of.Goals as goal

pub returns-in-true-true : goal.returns-in-true-true
returns-in-true-true g c =
    let before = c.args.before.now in
    let after = c.args.after.now in
    both-first before after c.requires.before.side c.requires.after.side
    (sym c.in-true-true.ensures) (sym c.in-true-true.ensures') c.cmp.result
    (c.cmp.ensures ∙ ap (λ k. byte_order k c.key-in-true-true.result.now) c.key.ensures
    ∙ ap (byte_order (key_at before)) c.key-in-true-true.ensures)

use Rattle.std.proofs.Common.{Some, ap, refl, ◌∙◌}
use Rattle.rart_node.specs.Seen.{Seen}
use Rattle.rart_node.specs.Shape.{value_of}
use Rattle.rart_node.proofs.ContentLemmas.{of_lent, now-copied_mut, with_value-seen, same_value-seen}
use Rattle.rart_node.proofs.node.VersionedNode.value_mut.Goals as goal

pub returns : goal.returns
returns g c =
    let n = c.self.inside in
    let lent = c.as_mut in
    let written =
    λ (left : _). of_lent lent.result (lent.follows.holds left)
    (with_value-seen n.content c.self.view_is _ (Some left)) in
    let as_was = same_value-seen n.content c.self.view_is _ lent.follows.holds-at-none in
    let value = now-copied_mut lent.result
    ∙ lent.ensures.value
    ∙ ap (λ (seen : Seen _). value_of seen.shape) c.self.view_is in
    ((refl, written, as_was), record { writes_back = tt; value = value })

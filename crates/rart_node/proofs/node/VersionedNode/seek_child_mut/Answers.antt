use Rattle.std.proofs.Common.{ap, refl, sym, ◌∙◌}
use Rattle.std.specs.Option.{option_map}
use Rattle.rart_node.specs.Seen.{shape_of}
use Rattle.rart_node.proofs.ContentLemmas.{of_lent, shape-copied_mut, child_at-seen, with_replaced-seen, same_content-seen}
use Rattle.rart_node.proofs.node.VersionedNode.seek_child_mut.Goals as goal

pub returns : goal.returns
returns g c =
    let content = c.self.inside.content in
    let lent = c.seek_child_mut in
    let written =
    λ (left : _). of_lent lent.result (lent.follows.holds left)
    (λ holds. with_replaced-seen content c.self.view_is (lent.follows.lender left) c.args.byte
    left c.requires holds) in
    let as_was =
    same_content-seen content c.self.view_is lent.follows.lender-at-none
    lent.follows.holds-at-none in
    let value = shape-copied_mut lent.result
    ∙ ap (option_map shape_of) lent.ensures.value
    ∙ sym (child_at-seen content c.self.view_is c.args.byte c.requires) in
    ((refl, written, as_was), record { writes_back = tt; value = value })

use Rattle.std.proofs.Common.{sym, ◌∙◌}
use Rattle.rart_below.proofs.SortedMappingLemmas.{kept_from_order, length-kept}
use Rattle.rart_below.proofs.mapping.sorted.SortedKeyedMappingNodeMapping.num_children.Goals as goal

pub returns : goal.returns
returns g c =
    let kept =
    kept_from_order g.row.WIDTH c.args.self.now.keys.items c.args.self.now.children.slots
    c.requires in
    c.len.ensures.value ∙ sym (length-kept _ _ _ kept)

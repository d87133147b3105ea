use Rattle.rart_below.proofs.IndexedMappingLemmas.{kept_from_order, count_ones-kept}
use Rattle.rart_below.proofs.mapping.indexed.IndexedMappingNodeMapping.num_children.Goals as goal

pub returns : goal.returns
returns g c =
    let mapping = c.args.self.now in
    let kept = kept_from_order mapping.index mapping.children.slots mapping.used mapping.bytes c.requires in
    count_ones-kept _ _ _ kept

use Rattle.std.proofs.Common.{sym, ◌∙◌, arith}
use Rattle.rart_below.proofs.IndexedMappingLemmas.{kept_from_order, child_at-named}
use Rattle.rart_below.proofs.mapping.indexed.IndexedMappingNodeMapping.seek_child.Goals as goal

pub returns : goal.returns
returns g c =
    let mapping = c.args.self.now in
    let kept = kept_from_order mapping.index mapping.children.slots mapping.used mapping.bytes c.requires in
    c.child_in.ensures ∙ sym (child_at-named c.args.byte _ _ _ kept
    (omega (arith, c.ranges.byte.fits)))

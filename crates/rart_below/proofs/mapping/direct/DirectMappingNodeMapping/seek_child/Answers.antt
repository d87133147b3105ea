use Rattle.std.proofs.Common.{sym, ◌∙◌, arith, ◌<◌, length}
use Rattle.rart_below.proofs.DirectMappingLemmas.{kept_from_order, found}
use Rattle.rart_below.proofs.mapping.direct.DirectMappingNodeMapping.seek_child.Goals as goal

pub returns : goal.returns
returns g c =
    let kept = kept_from_order c.args.self.now.children.slots c.args.self.now.count
    c.args.self.now.bytes c.requires in
    let within : c.args.byte < length c.args.self.now.children.slots =
    omega (arith, kept.wide, c.ranges.byte.fits) in
    c.as_ref.ensures.value ∙ (sym c.index-self-byte.is
    ∙ found c.args.byte _ _ within c.index-self-byte.is)

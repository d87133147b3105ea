use Rattle.std.proofs.Common.{arith, refl}
use Rattle.rart_below.proofs.DirectMappingLemmas.{kept_from_order, added}
use Rattle.rart_below.proofs.mapping.direct.DirectMappingNodeMapping.add_child.Goals as goal

pub returns-clause-order : goal.returns-clause-order
returns-clause-order g c =
    let kept =
    kept_from_order c.args.self.now.children.slots c.args.self.now.count c.args.self.now.bytes
    c.requires.order in
    (added c.args.byte _ c.args.child _ _ _ _ _ kept
    (omega (arith, c.ranges.byte.fits)) c.requires.absent c.replace_slot.ensures.after refl
    c.insert.ensures).0

pub returns-clause-children : goal.returns-clause-children
returns-clause-children g c =
    let kept =
    kept_from_order c.args.self.now.children.slots c.args.self.now.count c.args.self.now.bytes
    c.requires.order in
    (added c.args.byte _ c.args.child _ _ _ _ _ kept
    (omega (arith, c.ranges.byte.fits)) c.requires.absent c.replace_slot.ensures.after refl
    c.insert.ensures).1

use Rattle.std.proofs.Common.{arith, sym, ◌∙◌, subst, IsSome}
use Rattle.rart_below.proofs.DirectMappingLemmas.{kept_from_order, child_at-place, replaced}
use Rattle.rart_below.proofs.mapping.direct.DirectMappingNodeMapping.replace_child.Goals as goal

pub unreachable-requires : goal.unreachable-requires
unreachable-requires g c =
    let absent = child_at-place c.args.byte c.args.self.now.children.slots
    ∙ sym (c.in-None.ensures {u = tt}).value in
    let present = subst IsSome absent c.requires.present in
    cc

pub returns-clause-order : goal.returns-clause-order
returns-clause-order g c =
    let kept =
    kept_from_order c.args.self.now.children.slots c.args.self.now.count c.args.self.now.bytes
    c.requires.order in
    (replaced c.args.byte c.args.child _ _ _ _ _ kept (omega (arith, c.ranges.byte.fits))
    (c.in-Some.ensures {u = tt}).value (c.in-Some.ensures {u = tt}).after).0

pub returns-clause-value : goal.returns-clause-value
returns-clause-value g c =
    (c.in-Some.ensures {u = tt}).value
    ∙ sym (child_at-place c.args.byte c.args.self.now.children.slots)

pub returns-clause-children : goal.returns-clause-children
returns-clause-children g c =
    let kept =
    kept_from_order c.args.self.now.children.slots c.args.self.now.count c.args.self.now.bytes
    c.requires.order in
    (replaced c.args.byte c.args.child _ _ _ _ _ kept (omega (arith, c.ranges.byte.fits))
    (c.in-Some.ensures {u = tt}).value (c.in-Some.ensures {u = tt}).after).1

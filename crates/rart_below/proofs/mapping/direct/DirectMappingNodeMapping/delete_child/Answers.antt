use Rattle.std.proofs.Common.{arith, sym, ◌∙◌, refl}
use Rattle.rart_below.proofs.DirectMappingLemmas.{kept_from_order, child_at-place, holds_one, removed, unchanged}
use Rattle.rart_below.proofs.mapping.direct.DirectMappingNodeMapping.delete_child.Goals as goal

pub returns-in_err-child-clause-order : goal.returns-in_err-child-clause-order
returns-in_err-child-clause-order g c =
    let kept = kept_from_order c.args.self.now.children.slots c.args.self.now.count
    c.args.self.now.bytes c.requires in
    (unchanged c.args.byte _ _ _ _ kept (c.in_err-child.ensures {u = tt}).value
    (c.in_err-child.ensures {u = tt}).after).0

pub returns-in_err-child-clause-value : goal.returns-in_err-child-clause-value
returns-in_err-child-clause-value g c =
    c.from_residual.ensures ∙ ((c.in_err-child.ensures {u = tt}).value
    ∙ sym (child_at-place c.args.byte c.args.self.now.children.slots))

pub returns-in_err-child-clause-children : goal.returns-in_err-child-clause-children
returns-in_err-child-clause-children g c =
    let kept = kept_from_order c.args.self.now.children.slots c.args.self.now.count
    c.args.self.now.bytes c.requires in
    (unchanged c.args.byte _ _ _ _ kept (c.in_err-child.ensures {u = tt}).value
    (c.in_err-child.ensures {u = tt}).after).1

pub overflow_sub-self : goal.overflow_sub-self
overflow_sub-self g c =
    let kept = kept_from_order c.args.self.now.children.slots c.args.self.now.count
    c.args.self.now.bytes c.requires in
    holds_one c.args.byte c.in_ok-child.child _ _ _ kept (c.in_ok-child.ensures {u = tt}).value

pub returns-clause-order : goal.returns-clause-order
returns-clause-order g c =
    let kept = kept_from_order c.args.self.now.children.slots c.args.self.now.count
    c.args.self.now.bytes c.requires in
    (removed c.args.byte _ c.in_ok-child.child _ _ _ _ _ kept (omega (arith, c.ranges.byte.fits))
    (c.in_ok-child.ensures {u = tt}).value (c.in_ok-child.ensures {u = tt}).after refl
    c.remove.ensures).0

pub returns-clause-value : goal.returns-clause-value
returns-clause-value g c =
    (c.in_ok-child.ensures {u = tt}).value
    ∙ sym (child_at-place c.args.byte c.args.self.now.children.slots)

pub returns-clause-children : goal.returns-clause-children
returns-clause-children g c =
    let kept = kept_from_order c.args.self.now.children.slots c.args.self.now.count
    c.args.self.now.bytes c.requires in
    (removed c.args.byte _ c.in_ok-child.child _ _ _ _ _ kept (omega (arith, c.ranges.byte.fits))
    (c.in_ok-child.ensures {u = tt}).value (c.in_ok-child.ensures {u = tt}).after refl
    c.remove.ensures).1

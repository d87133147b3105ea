use Rattle.std.proofs.Common.{sym, ◌∙◌, arith, refl}
use Rattle.rart_below.proofs.IndexedMappingLemmas.{kept_from_order, absent_past, unchanged, child_at-named, removed}
use Rattle.rart_below.proofs.mapping.indexed.IndexedMappingNodeMapping.delete_child.Goals as goal

pub returns-then-place-ge-NO_SLOT-clause-value : goal.returns-then-place-ge-NO_SLOT-clause-value
returns-then-place-ge-NO_SLOT-clause-value g c =
    let mapping = c.args.self.now in
    let kept = kept_from_order mapping.index mapping.children.slots mapping.used mapping.bytes c.requires in
    sym (absent_past c.args.byte _ _ _ kept
    (omega (arith, c.ranges.byte.fits)) c.if-place-ge-NO_SLOT.true)

pub returns-then-place-ge-NO_SLOT-clause-children
    : goal.returns-then-place-ge-NO_SLOT-clause-children
returns-then-place-ge-NO_SLOT-clause-children g c =
    let mapping = c.args.self.now in
    let kept = kept_from_order mapping.index mapping.children.slots mapping.used mapping.bytes c.requires in
    unchanged c.args.byte _ _ _ kept (omega (arith, c.ranges.byte.fits)) c.if-place-ge-NO_SLOT.true

pub returns-clause-order : goal.returns-clause-order
returns-clause-order g c =
    let mapping = c.args.self.now in
    let kept = kept_from_order mapping.index mapping.children.slots mapping.used mapping.bytes c.requires in
    (removed c.args.byte _ _ _ _ _ _ _ _ _ c.requires
    (omega (arith, c.ranges.byte.fits)) refl c.if-place-ge-NO_SLOT.false refl
    c.take_slot.ensures.after refl c.remove.ensures).0

pub returns-clause-value : goal.returns-clause-value
returns-clause-value g c =
    let mapping = c.args.self.now in
    let kept = kept_from_order mapping.index mapping.children.slots mapping.used mapping.bytes c.requires in
    c.take_slot.ensures.value ∙ sym
    (child_at-named c.args.byte _ _ _ kept (omega (arith, c.ranges.byte.fits)))

pub returns-clause-children : goal.returns-clause-children
returns-clause-children g c =
    let mapping = c.args.self.now in
    let kept = kept_from_order mapping.index mapping.children.slots mapping.used mapping.bytes c.requires in
    (removed c.args.byte _ _ _ _ _ _ _ _ _ c.requires
    (omega (arith, c.ranges.byte.fits)) refl c.if-place-ge-NO_SLOT.false refl
    c.take_slot.ensures.after refl c.remove.ensures).1

use Rattle.std.proofs.Common.{sym, ◌∙◌, arith, refl}
use Rattle.rart_below.proofs.IndexedMappingLemmas.{kept_from_order, child_at-named, named_within, held_once, replaced}
use Rattle.rart_below.proofs.mapping.indexed.IndexedMappingNodeMapping.replace_child.Goals as goal

pub replace_slot-requires : goal.replace_slot-requires
replace_slot-requires g c =
    let mapping = c.args.self.now in
    let kept = kept_from_order mapping.index mapping.children.slots mapping.used mapping.bytes c.requires.order in
    let within =
    named_within c.args.byte _ _ _ kept
    (omega (arith, c.ranges.byte.fits)) c.requires.present in
    omega (arith, within, kept.enough)

pub unreachable-requires : goal.unreachable-requires
unreachable-requires g c =
    let mapping = c.args.self.now in
    let kept = kept_from_order mapping.index mapping.children.slots mapping.used mapping.bytes c.requires.order in
    let within =
    named_within c.args.byte _ _ _ kept
    (omega (arith, c.ranges.byte.fits)) c.requires.present in
    (held_once c.args.byte _ _ _ _ kept (omega (arith, c.ranges.byte.fits)) refl within).1
    (sym (c.in-None.ensures {u = tt}).value)

pub returns-clause-order : goal.returns-clause-order
returns-clause-order g c =
    let mapping = c.args.self.now in
    let kept = kept_from_order mapping.index mapping.children.slots mapping.used mapping.bytes c.requires.order in
    let within =
    named_within c.args.byte _ _ _ kept
    (omega (arith, c.ranges.byte.fits)) c.requires.present in
    (replaced c.args.byte _ c.args.child _ _ _ _ _ _ c.requires.order
    (omega (arith, c.ranges.byte.fits)) refl within (c.in-Some.ensures {u = tt}).value
    (c.in-Some.ensures {u = tt}).after).0

pub returns-clause-value : goal.returns-clause-value
returns-clause-value g c =
    let mapping = c.args.self.now in
    let kept = kept_from_order mapping.index mapping.children.slots mapping.used mapping.bytes c.requires.order in
    let within =
    named_within c.args.byte _ _ _ kept
    (omega (arith, c.ranges.byte.fits)) c.requires.present in
    (c.in-Some.ensures {u = tt}).value
    ∙ sym (child_at-named c.args.byte _ _ _ kept (omega (arith, c.ranges.byte.fits)))

pub returns-clause-children : goal.returns-clause-children
returns-clause-children g c =
    let mapping = c.args.self.now in
    let kept = kept_from_order mapping.index mapping.children.slots mapping.used mapping.bytes c.requires.order in
    let within =
    named_within c.args.byte _ _ _ kept
    (omega (arith, c.ranges.byte.fits)) c.requires.present in
    (replaced c.args.byte _ c.args.child _ _ _ _ _ _ c.requires.order
    (omega (arith, c.ranges.byte.fits)) refl within (c.in-Some.ensures {u = tt}).value
    (c.in-Some.ensures {u = tt}).after).1

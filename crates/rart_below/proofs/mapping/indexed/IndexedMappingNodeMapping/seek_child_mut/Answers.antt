use Rattle.std.proofs.Common.{◌<◌, arith, ap, get_or, length, refl, sym, ◌∙◌}
use Rattle.rart_below.proofs.IndexedMappingLemmas.{kept_from_order, absent_past, child_at-named, replaced}
use Rattle.rart_below.proofs.LentLemmas.{of_lent, set_as_was, slot_was}
use Rattle.rart_below.proofs.mapping.indexed.IndexedMappingNodeMapping.seek_child_mut.Goals as goal

pub returns-then-place-ge-NO_SLOT : goal.returns-then-place-ge-NO_SLOT
returns-then-place-ge-NO_SLOT g c =
    let mapping = c.args.self.now in
    let kept = kept_from_order mapping.index mapping.children.slots mapping.used mapping.bytes c.requires in
    let missing =
    absent_past c.args.byte _ _ _ kept
    (omega (arith, c.ranges.byte.fits)) c.if-place-ge-NO_SLOT.true in
    ((refl, (λ left. tt), refl), record { writes_back = tt; value = sym missing })

pub returns : goal.returns
returns g c =
    let mapping = c.args.self.now in
    let slots = mapping.children.slots in
    let place = get_or mapping.index c.args.byte 0 in
    let slot = c.slot_mut.result.now in
    let was = c.slot_mut.ensures.value in
    let copied = c.as_mut.ensures.value in
    let kept = kept_from_order mapping.index slots mapping.used mapping.bytes c.requires in
    let named : place < 48 = c.if-place-ge-NO_SLOT.false in
    let within : place < length slots = omega (arith, named, kept.enough) in
    let here = slot_was slots place slot within was in
    let written = λ (left : g.row.C.Denot). of_lent c.as_mut.result slot _ copied
    (λ child held. replaced c.args.byte place left child mapping.index slots _ mapping.used mapping.bytes
    c.requires
    (omega (arith, c.ranges.byte.fits)) refl named (held ∙ here) refl) in
    let as_was =
    ap (λ ended. record mapping { children = record { slots = ended } })
    (set_as_was slots place slot was) in
    let value =
    copied ∙ (here ∙ sym (child_at-named c.args.byte _ _ _ kept
    (omega (arith, c.ranges.byte.fits)))) in
    ((refl, written, as_was), record { writes_back = tt; value = value })

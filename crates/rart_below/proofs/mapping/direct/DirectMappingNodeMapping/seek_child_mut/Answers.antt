use Rattle.std.proofs.Common.{◌<◌, arith, ap, length, refl, ◌∙◌}
use Rattle.rart_below.proofs.DirectMappingLemmas.{kept_from_order, found, replaced}
use Rattle.rart_below.proofs.LentLemmas.{of_lent, set_as_was, slot_was}
use Rattle.rart_below.proofs.mapping.direct.DirectMappingNodeMapping.seek_child_mut.Goals as goal

pub returns : goal.returns
returns g c =
    let mapping = c.args.self.now in
    let slots = mapping.children.slots in
    let slot = c.slot_mut.result.now in
    let was = c.slot_mut.ensures.value in
    let copied = c.as_mut.ensures.value in
    let kept = kept_from_order slots mapping.count mapping.bytes c.requires in
    let within : c.args.byte < length slots = omega (arith, kept.wide, c.ranges.byte.fits) in
    let here = slot_was slots c.args.byte slot within was in
    let written = λ (left : g.row.C.Denot). of_lent c.as_mut.result slot _ copied
    (λ child held. replaced c.args.byte left child slots _ mapping.count mapping.bytes kept
    (omega (arith, c.ranges.byte.fits)) (held ∙ here) refl) in
    let as_was =
    ap (λ ended. record mapping { children = record { slots = ended } })
    (set_as_was slots c.args.byte slot was) in (
      (refl, written, as_was),
      record {
        writes_back = tt;
        value = copied ∙ found c.args.byte slots slot within was;
      },
    )

use Rattle.std.proofs.Common.{◌<◌, arith, length, sym, ◌∙◌, subst, option_copied}
use Rattle.rart_below.specs.ByteSets.{has_byte}
use Rattle.rart_below.specs.Children.{children_below, TakesLast}
use Rattle.rart_below.specs.Laws.{slots-ascending}
use Rattle.rart_below.specs.Layouts.{slot_children}
use Rattle.rart_below.proofs.ChildrenBelowLemmas.{takes_last_below, takes_none_below}
use Rattle.rart_below.proofs.DirectMappingLemmas.{kept_from_order, bytes_are, found, none_past}
use Rattle.rart_below.proofs.mapping.direct.DirectMappingNodeMapping.prev_child.Goals as goal

pub returns-in_err-byte : goal.returns-in_err-byte
returns-in_err-byte g c =
    let mapping = c.args.self.now in
    let slots = mapping.children.slots in
    let end = c.args.end.now in
    let children = slot_children 0 slots in
    let kept = kept_from_order slots mapping.count mapping.bytes c.requires in
    subst (λ o. TakesLast (children_below end children) (option_copied o)
    (children_below end children)) (sym c.from_residual.ensures)
    (takes_none_below end (has_byte mapping.bytes) children
    (λ byte. bytes_are byte slots mapping.count mapping.bytes kept)
    (λ byte. none_past byte slots mapping.count mapping.bytes kept)
    (c.in_err-byte.ensures {u = tt}))

pub returns : goal.returns
returns g c =
    let mapping = c.args.self.now in
    let slots = mapping.children.slots in
    let end = c.args.end.now in
    let byte = c.in_ok-byte.byte in
    let children = slot_children 0 slots in
    let kept = kept_from_order slots mapping.count mapping.bytes c.requires in
    let low : byte < 256 = omega arith in
    let within : byte < length slots = omega (arith, kept.wide, low) in
    subst (λ o. TakesLast (children_below end children) o (children_below byte children))
    (sym (c.as_ref.ensures.value ∙ (sym c.index-self-byte.is
    ∙ found byte slots _ within c.index-self-byte.is)))
    (takes_last_below end (has_byte mapping.bytes) children
    (λ byte. bytes_are byte slots mapping.count mapping.bytes kept)
    (λ byte. none_past byte slots mapping.count mapping.bytes kept)
    byte low (slots-ascending 0 slots) (c.in_ok-byte.ensures {u = tt}))

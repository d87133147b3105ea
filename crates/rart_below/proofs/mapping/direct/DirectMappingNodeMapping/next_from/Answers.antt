use Rattle.std.proofs.Common.{◌≡◌, ◌<◌, Some, arith, ap, length, sym, ◌∙◌}
use Rattle.std.proofs.lemmas.Option.{none-some}
use Rattle.rart_below.specs.ByteSets.{has_byte}
use Rattle.rart_below.specs.Children.{child_at}
use Rattle.rart_below.specs.Laws.{slots-ascending}
use Rattle.rart_below.specs.Layouts.{slot_children, entry_copied}
use Rattle.rart_below.proofs.LeastByteLemmas.{least_first, least_has, least_none}
use Rattle.rart_below.proofs.DirectMappingLemmas.{kept_from_order, bytes_are, found, none_past}
use Rattle.rart_below.proofs.mapping.direct.DirectMappingNodeMapping.next_from.Goals as goal

pub returns-in_err-byte : goal.returns-in_err-byte
returns-in_err-byte g c =
    let mapping = c.args.self.now in
    let slots = mapping.children.slots in
    let kept = kept_from_order slots mapping.count mapping.bytes c.requires in
    ap entry_copied c.from_residual.ensures
    ∙ least_none c.args.from (has_byte mapping.bytes) (slot_children 0 slots)
    (λ byte. bytes_are byte slots mapping.count mapping.bytes kept)
    (λ byte. none_past byte slots mapping.count mapping.bytes kept)
    (c.in_err-byte.ensures {u = tt})

pub unreachable-requires : goal.unreachable-requires
unreachable-requires g c =
    let mapping = c.args.self.now in
    let slots = mapping.children.slots in
    let byte = c.in_ok-byte.byte in
    let kept = kept_from_order slots mapping.count mapping.bytes c.requires in
    let low : byte < 256 = omega arith in
    let within : byte < length slots = omega (arith, kept.wide, low) in
    let has =
    least_has c.args.from (has_byte mapping.bytes) (slot_children 0 slots)
    (λ byte. bytes_are byte slots mapping.count mapping.bytes kept)
    (λ byte. none_past byte slots mapping.count mapping.bytes kept)
    byte low (c.in_ok-byte.ensures {u = tt}) in
    none-some has.0 (sym (c.index-self-byte.is ∙ c.in-None.is)
    ∙ (found byte slots c.index-self-byte.result within c.index-self-byte.is ∙ has.1))

pub returns : goal.returns
returns g c =
    let mapping = c.args.self.now in
    let slots = mapping.children.slots in
    let byte = c.in_ok-byte.byte in
    let kept = kept_from_order slots mapping.count mapping.bytes c.requires in
    let low : byte < 256 = omega arith in
    let within : byte < length slots = omega (arith, kept.wide, low) in
    let held : child_at byte (slot_children 0 slots) ≡ Some c.in-Some.child =
    sym (found byte slots c.index-self-byte.result within c.index-self-byte.is)
    ∙ (c.index-self-byte.is ∙ c.in-Some.is) in
    least_first c.args.from (has_byte mapping.bytes) (slot_children 0 slots)
    (λ byte. bytes_are byte slots mapping.count mapping.bytes kept)
    (λ byte. none_past byte slots mapping.count mapping.bytes kept)
    byte c.in-Some.child (c.in_ok-byte.ensures {u = tt}) (slots-ascending 0 slots) held

use Rattle.std.proofs.Common.{◌≡◌, ◌<◌, ◌+◌, ℕ, Some, arith, length, refl, sym, ◌∙◌, subst, option_copied}
use Rattle.rart_below.specs.ByteSets.{has_byte}
use Rattle.rart_below.specs.Children.{child_at, children_from, TakesFirst}
use Rattle.rart_below.specs.Laws.{slots-ascending}
use Rattle.rart_below.specs.Layouts.{slot_children}
use Rattle.rart_below.proofs.AscendingLemmas.{walked_to}
use Rattle.rart_below.proofs.ChildrenFromLemmas.{takes_first, takes_none}
use Rattle.rart_below.proofs.LeastByteLemmas.{least_first, least_has, least_none}
use Rattle.rart_below.proofs.DirectMappingLemmas.{kept_from_order, bytes_are, found, none_past}
use Rattle.rart_below.proofs.mapping.direct.DirectMappingNodeMapping.next_child.Goals as goal

pub returns-in-Some : goal.returns-in-Some
returns-in-Some g c =
    let mapping = c.args.self.now in
    let slots = mapping.children.slots in
    let from = c.args.from.now in
    let kept = kept_from_order slots mapping.count mapping.bytes c.requires in
    let order = slots-ascending 0 slots in
    let within : from < length slots = omega (arith, kept.wide, c.if-from-lt256.true) in
    let held : child_at from (slot_children 0 slots) ≡ Some c.in-Some.child =
    sym (found from slots c.index-self-from.result within c.index-self-from.is)
    ∙ (c.index-self-from.is ∙ c.in-Some.is) in
    takes_first from from c.in-Some.child (slot_children 0 slots) order
    (walked_to from from c.in-Some.child (slot_children 0 slots) refl order held)

pub returns-in_err-byte : goal.returns-in_err-byte
returns-in_err-byte g c =
    let mapping = c.args.self.now in
    let slots = mapping.children.slots in
    let from = c.args.from.now in
    let children = slot_children 0 slots in
    let kept = kept_from_order slots mapping.count mapping.bytes c.requires in
    subst (λ o. TakesFirst (children_from from children) (option_copied o)
    (children_from from children)) (sym c.from_residual.ensures)
    (takes_none from children (least_none from (has_byte mapping.bytes) children
    (λ byte. bytes_are byte slots mapping.count mapping.bytes kept)
    (λ byte. none_past byte slots mapping.count mapping.bytes kept)
    (c.in_err-byte.ensures {u = tt})))

pub returns : goal.returns
returns g c =
    let mapping = c.args.self.now in
    let slots = mapping.children.slots in
    let from = c.args.from.now in
    let byte = c.in_ok-byte.byte in
    let children = slot_children 0 slots in
    let kept = kept_from_order slots mapping.count mapping.bytes c.requires in
    let order = slots-ascending 0 slots in
    let low : byte < 256 = omega arith in
    let within : byte < length slots = omega (arith, kept.wide, low) in
    let each = λ (byte : ℕ). bytes_are byte slots mapping.count mapping.bytes kept in
    let past = λ (byte : ℕ). none_past byte slots mapping.count mapping.bytes kept in
    let least = c.in_ok-byte.ensures {u = tt} in
    let has = least_has from (has_byte mapping.bytes) children each past byte low least in
    let first =
    least_first from (has_byte mapping.bytes) children each past byte has.0 least order has.1 in
    let shown =
    c.as_ref.ensures.value ∙ (sym c.index-self-byte.is
    ∙ (found byte slots _ within c.index-self-byte.is ∙ has.1)) in
    subst (λ o. TakesFirst (children_from from children) o (children_from (byte + 1) children))
    (sym shown) (takes_first from byte has.0 children order first)

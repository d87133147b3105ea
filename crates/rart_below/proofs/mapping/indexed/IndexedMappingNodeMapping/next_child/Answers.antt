use Rattle.std.proofs.Common.{◌<◌, ◌+◌, ℕ, arith, sym, ◌∙◌, subst, option_copied}
use Rattle.rart_below.specs.ByteSets.{has_byte}
use Rattle.rart_below.specs.Children.{children_from, TakesFirst}
use Rattle.rart_below.specs.IndexedMapping.{indexed_children}
use Rattle.rart_below.specs.Laws.{indexed-ascending}
use Rattle.rart_below.proofs.ChildrenFromLemmas.{takes_first, takes_none}
use Rattle.rart_below.proofs.LeastByteLemmas.{least_first, least_has, least_none}
use Rattle.rart_below.proofs.IndexedMappingLemmas.{bytes_are, kept_from_order, none_past}
use Rattle.rart_below.proofs.mapping.indexed.IndexedMappingNodeMapping.next_child.Goals as goal

pub returns-in_err-byte : goal.returns-in_err-byte
returns-in_err-byte g c =
    let mapping = c.args.self.now in
    let children = indexed_children mapping in
    let from = c.args.from.now in
    let kept = kept_from_order mapping.index mapping.children.slots mapping.used mapping.bytes c.requires in
    subst (λ o. TakesFirst (children_from from children) (option_copied o)
    (children_from from children)) (sym c.from_residual.ensures)
    (takes_none from children (least_none from (has_byte mapping.bytes) children
    (λ byte. bytes_are byte mapping.index mapping.children.slots mapping.used mapping.bytes
    c.requires)
    (λ byte. none_past byte mapping.index mapping.children.slots mapping.used kept)
    (c.in_err-byte.ensures {u = tt})))

pub returns : goal.returns
returns g c =
    let mapping = c.args.self.now in
    let children = indexed_children mapping in
    let from = c.args.from.now in
    let byte = c.in_ok-byte.byte in
    let each =
    λ (byte : ℕ). bytes_are byte mapping.index mapping.children.slots mapping.used mapping.bytes
    c.requires in
    let kept = kept_from_order mapping.index mapping.children.slots mapping.used mapping.bytes c.requires in
    let order = indexed-ascending mapping c.requires in
    let low : byte < 256 = omega arith in
    let past =
    λ (byte : ℕ). none_past byte mapping.index mapping.children.slots mapping.used kept in
    let least = c.in_ok-byte.ensures {u = tt} in
    let has = least_has from (has_byte mapping.bytes) children each past byte low least in
    let first =
    least_first from (has_byte mapping.bytes) children each past byte has.0 least order has.1 in
    let shown = c.seek_child.ensures ∙ has.1 in
    subst (λ o. TakesFirst (children_from from children) o (children_from (byte + 1) children))
    (sym shown) (takes_first from byte has.0 children order first)

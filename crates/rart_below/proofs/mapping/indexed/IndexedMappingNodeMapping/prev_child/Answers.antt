use Rattle.std.proofs.Common.{◌<◌, arith, sym, subst, option_copied}
use Rattle.rart_below.specs.ByteSets.{has_byte}
use Rattle.rart_below.specs.Children.{children_below, TakesLast}
use Rattle.rart_below.specs.IndexedMapping.{indexed_children}
use Rattle.rart_below.specs.Laws.{indexed-ascending}
use Rattle.rart_below.proofs.ChildrenBelowLemmas.{takes_last_below, takes_none_below}
use Rattle.rart_below.proofs.IndexedMappingLemmas.{bytes_are, kept_from_order, none_past}
use Rattle.rart_below.proofs.mapping.indexed.IndexedMappingNodeMapping.prev_child.Goals as goal

pub returns-in_err-byte : goal.returns-in_err-byte
returns-in_err-byte g c =
    let mapping = c.args.self.now in
    let children = indexed_children mapping in
    let end = c.args.end.now in
    let kept = kept_from_order mapping.index mapping.children.slots mapping.used mapping.bytes c.requires in
    subst (λ o. TakesLast (children_below end children) (option_copied o)
    (children_below end children)) (sym c.from_residual.ensures)
    (takes_none_below end (has_byte mapping.bytes) children
    (λ byte. bytes_are byte mapping.index mapping.children.slots mapping.used mapping.bytes
    c.requires)
    (λ byte. none_past byte mapping.index mapping.children.slots mapping.used kept)
    (c.in_err-byte.ensures {u = tt}))

pub returns : goal.returns
returns g c =
    let mapping = c.args.self.now in
    let children = indexed_children mapping in
    let end = c.args.end.now in
    let byte = c.in_ok-byte.byte in
    let kept = kept_from_order mapping.index mapping.children.slots mapping.used mapping.bytes c.requires in
    let low : byte < 256 = omega arith in
    subst (λ o. TakesLast (children_below end children) o (children_below byte children))
    (sym c.seek_child.ensures)
    (takes_last_below end (has_byte mapping.bytes) children
    (λ byte. bytes_are byte mapping.index mapping.children.slots mapping.used mapping.bytes
    c.requires)
    (λ byte. none_past byte mapping.index mapping.children.slots mapping.used kept)
    byte low (indexed-ascending mapping c.requires) (c.in_ok-byte.ensures {u = tt}))

use Rattle.std.proofs.Common.{◌<◌, ap, arith, sym, ◌∙◌, option_copied}
use Rattle.std.proofs.lemmas.Option.{none-some}
use Rattle.rart_below.specs.ByteSets.{has_byte}
use Rattle.rart_below.specs.IndexedMapping.{indexed_children}
use Rattle.rart_below.specs.Laws.{indexed-ascending}
use Rattle.rart_below.specs.Layouts.{entry_copied}
use Rattle.rart_below.proofs.LeastByteLemmas.{least_first, least_has, least_none}
use Rattle.rart_below.proofs.IndexedMappingLemmas.{bytes_are, kept_from_order, none_past}
use Rattle.rart_below.proofs.mapping.indexed.IndexedMappingNodeMapping.next_from.Goals as goal

pub returns-in_err-byte : goal.returns-in_err-byte
returns-in_err-byte g c =
    let mapping = c.args.self.now in
    let kept = kept_from_order mapping.index mapping.children.slots mapping.used mapping.bytes c.requires in
    ap entry_copied c.from_residual.ensures
    ∙ least_none c.args.from (has_byte mapping.bytes)
    (indexed_children mapping) (λ byte. bytes_are byte mapping.index mapping.children.slots mapping.used mapping.bytes
    c.requires)
    (λ byte. none_past byte mapping.index mapping.children.slots mapping.used kept)
    (c.in_err-byte.ensures {u = tt})

pub unreachable-requires : goal.unreachable-requires
unreachable-requires g c =
    let mapping = c.args.self.now in
    let byte = c.in_ok-byte.byte in
    let kept = kept_from_order mapping.index mapping.children.slots mapping.used mapping.bytes c.requires in
    let low : byte < 256 = omega arith in
    let has =
    least_has c.args.from (has_byte mapping.bytes)
    (indexed_children mapping) (λ byte. bytes_are byte mapping.index mapping.children.slots mapping.used mapping.bytes
    c.requires)
    (λ byte. none_past byte mapping.index mapping.children.slots mapping.used kept)
    byte low (c.in_ok-byte.ensures {u = tt}) in
    none-some has.0 (sym (sym c.seek_child.ensures ∙ ap option_copied c.in-None.is) ∙ has.1)

pub returns : goal.returns
returns g c =
    let mapping = c.args.self.now in
    let kept = kept_from_order mapping.index mapping.children.slots mapping.used mapping.bytes c.requires in
    least_first c.args.from (has_byte mapping.bytes)
    (indexed_children mapping) (λ byte. bytes_are byte mapping.index mapping.children.slots mapping.used mapping.bytes
    c.requires)
    (λ byte. none_past byte mapping.index mapping.children.slots mapping.used kept)
    c.in_ok-byte.byte _ (c.in_ok-byte.ensures {u = tt}) (indexed-ascending mapping c.requires)
    (sym c.seek_child.ensures ∙ ap option_copied c.in-Some.is)

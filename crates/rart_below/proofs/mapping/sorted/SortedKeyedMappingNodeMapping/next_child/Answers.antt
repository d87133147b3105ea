use Rattle.std.proofs.Common.{refl}
use Rattle.rart_below.proofs.SortedMappingLemmas.{kept_from_order, none_left, place_taken}
use Rattle.rart_below.proofs.mapping.sorted.SortedKeyedMappingNodeMapping.next_child.Goals as goal

pub returns-then-place-len : goal.returns-then-place-len
returns-then-place-len g c =
    let mapping = c.args.self.now in
    let kept = kept_from_order g.row.WIDTH mapping.keys.items mapping.children.slots c.requires in
    let within = rw c.len.ensures.value at c.if-place-len.true in
    rw c.as_ref.ensures.value
    (place_taken _ _ _ _ _ c.index-self-place.result kept within refl)

pub returns-else-place-len : goal.returns-else-place-len
returns-else-place-len g c =
    let mapping = c.args.self.now in
    let kept = kept_from_order g.row.WIDTH mapping.keys.items mapping.children.slots c.requires in
    let past = rw c.len.ensures.value at c.if-place-len.false in
    let none =
    none_left g.row.WIDTH mapping.keys.items mapping.children.slots c.args.from.now kept past in
    (none, none)

use Rattle.rart_below.proofs.SortedMappingLemmas.{kept_from_order, never_empty, none_left, place_left}
use Rattle.rart_below.proofs.mapping.sorted.SortedKeyedMappingNodeMapping.next_entry.Goals as goal

pub unreachable-requires : goal.unreachable-requires
unreachable-requires g c =
    let mapping = c.args.self.now in
    let kept = kept_from_order g.row.WIDTH mapping.keys.items mapping.children.slots c.requires in
    let within = rw c.as_slice-keys.ensures.value at c.if-place-keys.true in
    never_empty _ _ _ _ _ kept within c.in-None.is

pub returns-in-Some : goal.returns-in-Some
returns-in-Some g c =
    let mapping = c.args.self.now in
    let kept = kept_from_order g.row.WIDTH mapping.keys.items mapping.children.slots c.requires in
    let within = rw c.as_slice-keys.ensures.value at c.if-place-keys.true in
    rw c.as_slice-keys.ensures.value (place_left _ _ _ _ _ _ kept within c.in-Some.is)

pub returns-else-place-keys : goal.returns-else-place-keys
returns-else-place-keys g c =
    let mapping = c.args.self.now in
    let kept = kept_from_order g.row.WIDTH mapping.keys.items mapping.children.slots c.requires in
    let past = rw c.as_slice-keys.ensures.value at c.if-place-keys.false in
    let none =
    none_left g.row.WIDTH mapping.keys.items mapping.children.slots c.args.from.now kept past in
    (none, none)

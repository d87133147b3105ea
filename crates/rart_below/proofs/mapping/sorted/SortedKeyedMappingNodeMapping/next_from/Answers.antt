use Rattle.std.proofs.Common.{rules}
use Rattle.rart_below.proofs.SortedMappingLemmas.{rank-in_order, kept_from_order, never_empty, next_found, next_none}
use Rattle.rart_below.proofs.mapping.sorted.SortedKeyedMappingNodeMapping.next_from.Goals as goal

pub rank_from-place-requires : goal.rank_from-place-requires
rank_from-place-requires g c = (
  search rules,
  λ byte. rank-in_order g.row.WIDTH byte c.args.self.now.keys.items
      c.args.self.now.children.slots c.requires,
)

pub unreachable-requires : goal.unreachable-requires
unreachable-requires g c =
    let kept =
    kept_from_order g.row.WIDTH c.args.self.now.keys.items c.args.self.now.children.slots
    c.requires in
    let within = rw c.as_slice-keys.ensures.value at c.if-place-keys.true in
    never_empty _ _ _ _ _ kept within c.in-None.is

pub returns-in-Some : goal.returns-in-Some
returns-in-Some g c =
    let kept =
    kept_from_order g.row.WIDTH c.args.self.now.keys.items c.args.self.now.children.slots
    c.requires in
    let within = rw c.as_slice-keys.ensures.value at c.if-place-keys.true in
    let place = c.rank_from-place.ensures.value in
    rw c.as_slice-keys.ensures.value (next_found _ _ _ _ _ _ _ kept place within c.in-Some.is)

pub returns-else-place-keys : goal.returns-else-place-keys
returns-else-place-keys g c =
    let kept =
    kept_from_order g.row.WIDTH c.args.self.now.keys.items c.args.self.now.children.slots
    c.requires in
    let past = rw c.as_slice-keys.ensures.value at c.if-place-keys.false in
    let place = c.rank_from-place.ensures.value in
    next_none _ _ _ _ _ kept place past

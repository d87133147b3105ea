use Rattle.std.proofs.Common.{arith, length, ◌<◌, rules}
use Rattle.rart_below.proofs.SortedMappingLemmas.{rank-in_order, kept_from_order, length-kept, added}
use Rattle.rart_below.proofs.mapping.sorted.SortedKeyedMappingNodeMapping.add_child.Goals as goal

pub rank_of-place-requires : goal.rank_of-place-requires
rank_of-place-requires g c = (
  search rules,
  rank-in_order g.row.WIDTH c.args.byte c.args.self.now.keys.items
      c.args.self.now.children.slots c.requires.order,
)

pub count-len-requires : goal.count-len-requires
count-len-requires g c = (
  search rules,
  λ byte. rank-in_order g.row.WIDTH byte c.args.self.now.keys.items c.args.self.now.children.slots
      c.requires.order,
)

pub insert-requires : goal.insert-requires
insert-requires g c =
    let kept =
    kept_from_order g.row.WIDTH c.args.self.now.keys.items c.args.self.now.children.slots
    c.requires.order in
    let room : length c.args.self.now.keys.items < g.row.WIDTH =
    omega (arith, length-kept _ _ _ kept, c.requires.room) in
    search rules

pub insert_slot-requires-clause-room : goal.insert_slot-requires-clause-room
insert_slot-requires-clause-room g c =
    let kept =
    kept_from_order g.row.WIDTH c.args.self.now.keys.items c.args.self.now.children.slots
    c.requires.order in
    let room : length c.args.self.now.keys.items < g.row.WIDTH =
    omega (arith, length-kept _ _ _ kept, c.requires.room) in
    search rules

pub returns-clause-order : goal.returns-clause-order
returns-clause-order g c =
    let kept =
    kept_from_order g.row.WIDTH c.args.self.now.keys.items c.args.self.now.children.slots
    c.requires.order in
    let room : length c.args.self.now.keys.items < g.row.WIDTH =
    omega (arith, length-kept _ _ _ kept, c.requires.room) in
    let place = c.rank_of-place.ensures.value in
    (added _ c.args.byte c.args.child _ _ _ _ _ _ kept c.requires.absent c.insert.ensures.len room
    place c.count-len.ensures.value c.insert.ensures.items c.insert_slot.ensures).0

pub returns-clause-children : goal.returns-clause-children
returns-clause-children g c =
    let kept =
    kept_from_order g.row.WIDTH c.args.self.now.keys.items c.args.self.now.children.slots
    c.requires.order in
    let room : length c.args.self.now.keys.items < g.row.WIDTH =
    omega (arith, length-kept _ _ _ kept, c.requires.room) in
    let place = c.rank_of-place.ensures.value in
    (added _ c.args.byte c.args.child _ _ _ _ _ _ kept c.requires.absent c.insert.ensures.len room
    place c.count-len.ensures.value c.insert.ensures.items c.insert_slot.ensures).1

use Rattle.std.proofs.Common.{rules, sym, ◌∙◌, subst, IsSome}
use Rattle.rart_below.proofs.SortedMappingLemmas.{rank-in_order, kept_from_order, absent, taken, never_empty, replaced}
use Rattle.rart_below.proofs.mapping.sorted.SortedKeyedMappingNodeMapping.replace_child.Goals as goal

pub place_of-requires : goal.place_of-requires
place_of-requires g c = (
  search rules,
  rank-in_order g.row.WIDTH c.args.byte c.args.self.now.keys.items
      c.args.self.now.children.slots c.requires.order,
)

pub unreachable-requires : goal.unreachable-requires
unreachable-requires g c =
    let kept =
    kept_from_order g.row.WIDTH c.args.self.now.keys.items c.args.self.now.children.slots
    c.requires.order in
    let missing = c.in_default.ensures {u = tt} in
    let present = subst IsSome (absent _ _ _ _ kept missing) c.requires.present in
    cc

pub unreachable-requires-in-None : goal.unreachable-requires-in-None
unreachable-requires-in-None g c =
    let kept =
    kept_from_order g.row.WIDTH c.args.self.now.keys.items c.args.self.now.children.slots
    c.requires.order in
    let place = c.in-Some.ensures {u = tt} in
    never_empty _ _ _ _ _ kept place.within (sym (c.in-None.ensures {u = tt}).value)

pub returns-clause-order : goal.returns-clause-order
returns-clause-order g c =
    let kept =
    kept_from_order g.row.WIDTH c.args.self.now.keys.items c.args.self.now.children.slots
    c.requires.order in
    let place = c.in-Some.ensures {u = tt} in
    (replaced _ c.args.byte c.args.child _ _ _ _ kept place c.replace_slot.ensures.after).0

pub returns-clause-value : goal.returns-clause-value
returns-clause-value g c =
    let kept =
    kept_from_order g.row.WIDTH c.args.self.now.keys.items c.args.self.now.children.slots
    c.requires.order in
    let place = c.in-Some.ensures {u = tt} in
    (c.in-Some-replace_slot.ensures {u = tt}).value ∙ taken _ _ _ _ _ kept place

pub returns-clause-children : goal.returns-clause-children
returns-clause-children g c =
    let kept =
    kept_from_order g.row.WIDTH c.args.self.now.keys.items c.args.self.now.children.slots
    c.requires.order in
    let place = c.in-Some.ensures {u = tt} in
    (replaced _ c.args.byte c.args.child _ _ _ _ kept place c.replace_slot.ensures.after).1

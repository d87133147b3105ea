use Rattle.std.proofs.Common.{rules, sym, ◌∙◌}
use Rattle.rart_below.proofs.SortedMappingLemmas.{rank-in_order, kept_from_order, absent, taken, removed, unchanged}
use Rattle.rart_below.proofs.mapping.sorted.SortedKeyedMappingNodeMapping.delete_child.Goals as goal

pub place_of-requires : goal.place_of-requires
place_of-requires g c = (
  search rules,
  rank-in_order g.row.WIDTH c.args.byte c.args.self.now.keys.items
      c.args.self.now.children.slots c.requires,
)

pub returns-in_err-place-clause-value : goal.returns-in_err-place-clause-value
returns-in_err-place-clause-value g c =
    let kept =
    kept_from_order g.row.WIDTH c.args.self.now.keys.items c.args.self.now.children.slots
    c.requires in
    let missing = c.in_err-place.ensures {u = tt} in
    c.from_residual.ensures ∙ sym (absent _ _ _ _ kept missing)

pub returns-in_err-place-clause-children : goal.returns-in_err-place-clause-children
returns-in_err-place-clause-children g c =
    let kept =
    kept_from_order g.row.WIDTH c.args.self.now.keys.items c.args.self.now.children.slots
    c.requires in
    let missing = c.in_err-place.ensures {u = tt} in
    unchanged _ _ _ _ kept missing

pub returns-clause-order : goal.returns-clause-order
returns-clause-order g c =
    let kept =
    kept_from_order g.row.WIDTH c.args.self.now.keys.items c.args.self.now.children.slots
    c.requires in
    let place = c.in_ok-place.ensures in
    (removed _ c.args.byte _ _ _ _ _ _ _ kept place c.remove.ensures.len c.len-len.ensures.value
    c.remove.ensures.items c.remove_slot.ensures.after).0

pub returns-clause-value : goal.returns-clause-value
returns-clause-value g c =
    let kept =
    kept_from_order g.row.WIDTH c.args.self.now.keys.items c.args.self.now.children.slots
    c.requires in
    let place = c.in_ok-place.ensures in
    c.remove_slot.ensures.value ∙ taken _ _ _ _ _ kept place

pub returns-clause-children : goal.returns-clause-children
returns-clause-children g c =
    let kept =
    kept_from_order g.row.WIDTH c.args.self.now.keys.items c.args.self.now.children.slots
    c.requires in
    let place = c.in_ok-place.ensures in
    (removed _ c.args.byte _ _ _ _ _ _ _ kept place c.remove.ensures.len c.len-len.ensures.value
    c.remove.ensures.items c.remove_slot.ensures.after).1

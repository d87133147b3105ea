use Rattle.std.proofs.Common.{rules, ◌<◌, length, sym}
use Rattle.rart_below.specs.Laws.{sorted-ascending}
use Rattle.rart_below.proofs.MoveLemmas.{moving-held, slot_moves}
use Rattle.rart_below.proofs.mapping.sorted.SortedKeyedMapping.move_into.Goals as goal

pub unreachable-requires : goal.unreachable-requires
unreachable-requires g c =
    let within : c.loop-place.place < length c.loop-place.self.keys.items = search rules in
    moving-held _ _ _ _ _ within c.loop-place.invariant.moving
    (sym (c.in_default.ensures {u = tt}).value)

pub add_child-requires-clause-absent : goal.add_child-requires-clause-absent
add_child-requires-clause-absent g c =
    let within : c.loop-place.place < length c.loop-place.self.keys.items = search rules in
    let order = sorted-ascending c.args.self.now c.requires.order in
    let step =
    slot_moves _ _ _ _ _ within c.loop-place.invariant.moving c.in-Some.child
    (sym (c.in-Some.ensures {u = tt}).value) order in
    rw c.as_slice.ensures.value step.absent

pub loop-place-preserved : goal.loop-place-preserved
loop-place-preserved g c =
    let within : c.loop-place.place < length c.loop-place.self.keys.items = search rules in
    let order = sorted-ascending c.args.self.now c.requires.order in
    let step =
    slot_moves _ _ _ _ _ within c.loop-place.invariant.moving c.in-Some.child
    (sym (c.in-Some.ensures {u = tt}).value) order in
    rw (c.take_slot.ensures.after, c.add_child.ensures.children, c.as_slice.ensures.value)
    (record {
      keys = c.loop-place.invariant.keys;
      moving = step.moving;
      to_order = c.add_child.ensures.order;
    })

use Rattle.std.proofs.Common.{◌++◌, ap, arith}
use Rattle.rart_below.specs.IndexedMapping.{indexed_children}
use Rattle.rart_below.specs.Laws.{indexed-ascending}
use Rattle.rart_below.proofs.MoveLemmas.{moves, children_from-zero}
use Rattle.rart_below.proofs.mapping.indexed.IndexedMapping.move_into.Goals as goal

pub loop-byte-init : goal.loop-byte-init
loop-byte-init g c = record {
  order = c.requires.order;
  to_order = c.requires.to_order;
  together = ap (λ moved. moved ++ indexed_children c.args.self.now) c.requires.empty;
  walked = children_from-zero (indexed_children c.args.self.now);
}

pub add_child-requires-clause-absent : goal.add_child-requires-clause-absent
add_child-requires-clause-absent g c =
    let all = indexed_children c.args.self.now in
    let order = indexed-ascending c.args.self.now c.requires.order in
    let invariant = c.loop-byte.invariant in
    let step =
    moves c.in-Some.byte c.loop-byte.least c.in-Some.field-0-1.now c.in-Some-delete_child.child
    (g.M.NodeMapping.children c.loop-byte.to) (indexed_children c.loop-byte.self) all
    invariant.together invariant.walked order (c.in-Some.ensures {u = tt})
    (c.in-Some-delete_child.ensures {u = tt}).value in
    step.absent

pub loop-byte-smaller : goal.loop-byte-smaller
loop-byte-smaller g c =
    let all = indexed_children c.args.self.now in
    let order = indexed-ascending c.args.self.now c.requires.order in
    let invariant = c.loop-byte.invariant in
    let step =
    moves c.in-Some.byte c.loop-byte.least c.in-Some.field-0-1.now c.in-Some-delete_child.child
    (g.M.NodeMapping.children c.loop-byte.to) (indexed_children c.loop-byte.self) all
    invariant.together invariant.walked order (c.in-Some.ensures {u = tt})
    (c.in-Some-delete_child.ensures {u = tt}).value in
    rw c.delete_child.ensures.children (omega (arith, step.fewer))

pub loop-byte-preserved : goal.loop-byte-preserved
loop-byte-preserved g c =
    let all = indexed_children c.args.self.now in
    let order = indexed-ascending c.args.self.now c.requires.order in
    let invariant = c.loop-byte.invariant in
    let step =
    moves c.in-Some.byte c.loop-byte.least c.in-Some.field-0-1.now c.in-Some-delete_child.child
    (g.M.NodeMapping.children c.loop-byte.to) (indexed_children c.loop-byte.self) all
    invariant.together invariant.walked order (c.in-Some.ensures {u = tt})
    (c.in-Some-delete_child.ensures {u = tt}).value in
    rw (c.delete_child.ensures.children, c.add_child.ensures.children) (record {
      order = c.delete_child.ensures.order;
      to_order = c.add_child.ensures.order;
      together = step.together;
      walked = step.walked;
    })

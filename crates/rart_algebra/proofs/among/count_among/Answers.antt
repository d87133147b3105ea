use Rattle.std.proofs.Common.{rules, ◌+◌, ◌≤◌, length, ap, arith}
use Rattle.rart_below.specs.ByteSets.{has_byte}
use Rattle.rart_node.specs.Shape.{children_of}
use Rattle.rart_lockstep.proofs.ChildLemmas.{where-none}
use Rattle.rart_algebra.proofs.AmongLemmas.{among-few, among-next, have-less, some-value}
use Rattle.rart_algebra.proofs.among.count_among.Goals as goal

pub overflow_add-count : goal.overflow_add-count
overflow_add-count g c =
    let children = children_of c.args.node.now.shape in
    let takes = c.in-Some.ensures in
    let child = some-value _ (c.counting.invariant.there c.in-Some._byte takes.0) in
    let next = ap length (among-next c.counting.left.left c.take_first.new.self.left
    c.in-Some._byte takes child.0 children c.requires.order child.1) in
    let counted = c.counting.invariant.counted in
    let few = among-few (has_byte c.args.bytes.now) children in
    let room = c.num_children-all.ensures.width.has_room in
    let width = c.num_children-all.ensures.width.is_width in
    let fits : c.counting.count + 1 ≤ 256 = omega (arith, next, counted, few, room, width) in
    first_of (search (rules, fits), grind (arith, fits))

pub counting-smaller : goal.counting-smaller
counting-smaller g c =
    let children = children_of c.args.node.now.shape in
    let takes = c.in-Some.ensures in
    let child = some-value _ (c.counting.invariant.there c.in-Some._byte takes.0) in
    let next = ap length (among-next c.counting.left.left c.take_first.new.self.left
    c.in-Some._byte takes child.0 children c.requires.order child.1) in
    omega (arith, next)

pub counting-preserved : goal.counting-preserved
counting-preserved g c =
    let children = children_of c.args.node.now.shape in
    let takes = c.in-Some.ensures in
    let child = some-value _ (c.counting.invariant.there c.in-Some._byte takes.0) in
    let next = ap length (among-next c.counting.left.left c.take_first.new.self.left
    c.in-Some._byte takes child.0 children c.requires.order child.1) in
    let counted = c.counting.invariant.counted in
    record {
      there = have-less c.counting.left.left c.take_first.new.self.left c.in-Some._byte takes
          children c.counting.invariant.there;
      counted = omega (arith, next, counted);
    }

pub returns-clause-count : goal.returns-clause-count
returns-clause-count g c =
    let children = children_of c.args.node.now.shape in
    let none = ap length (where-none (has_byte c.counting.left.left) children
    c.in_default.ensures.1) in
    let counted = c.counting.invariant.counted in
    omega (arith, none, counted)

pub returns-clause-few : goal.returns-clause-few
returns-clause-few g c =
    let children = children_of c.args.node.now.shape in
    let counted = c.counting.invariant.counted in
    let few = among-few (has_byte c.args.bytes.now) children in
    let room = c.num_children-all.ensures.width.has_room in
    let width = c.num_children-all.ensures.width.is_width in
    omega (arith, counted, few, room, width)

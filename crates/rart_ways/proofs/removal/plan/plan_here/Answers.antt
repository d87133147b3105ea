use Rattle.std.proofs.Common.{None, ◌≡◌, ap, arith, ◌<◌, length, ◌∙◌}
use Rattle.rart_node.specs.Shape.{value_of, children_of, with_value}
use Rattle.rart_ways.proofs.PlanLemmas.{no-value, one-child, here-admitted, here-removes, here-replaces, leaving-same, leaving-done}
use Rattle.rart_ways.proofs.removal.plan.plan_here.Goals as goal

pub returns-then-num_children-gt1 : goal.returns-then-num_children-gt1
returns-then-num_children-gt1 g c =
    let s = c.args.node.now.shape in
    let count = c.num_children.ensures.count in
    let true = c.if-num_children-gt1.true in
    let some : 1 < length (children_of s) = omega (arith, count, true) in
    record {
      removes = here-removes s c.requires.tree some;
      counted = leaving-same 1 1 _ (omega arith);
    }

pub merge-requires : goal.merge-requires
merge-requires g c =
    let s = c.args.node.now.shape in
    let copied = c.in_ok-copy.ensures c.requires.clones in
    let is = c.take_value-value.ensures.new ∙ ap (with_value None) copied in
    let count = c.num_children.ensures.count in
    let few = c.if-num_children-gt1.false in
    let some = c.requires.child in
    let one : length (children_of s) ≡ 1 = omega (arith, count, few, some) in
    record {
      clones = c.requires.clones;
      valueless = ap value_of is ∙ no-value s;
      one = one-child s _ is one;
      admitted = λ byte child only.
          here-admitted _ s _ child byte is c.requires.tree c.requires.lengths only;
    }

pub returns : goal.returns
returns g c =
    let s = c.args.node.now.shape in
    let copied = c.in_ok-copy.ensures c.requires.clones in
    let is = c.take_value-value.ensures.new ∙ ap (with_value None) copied in
    let count = c.num_children.ensures.count in
    let few = c.if-num_children-gt1.false in
    let some = c.requires.child in
    let one : length (children_of s) ≡ 1 = omega (arith, count, few, some) in
    record {
      removes = here-replaces c.in_ok-merge.field-0 c.take_value-value.result s _
          (one-child s _ is one) c.in_ok-merge.ensures.merged c.requires.tree is
          (c.take_value-value.ensures.old ∙ ap value_of copied);
      counted = leaving-done c.in_ok-merge.ensures.counted (omega arith) (omega arith);
    }

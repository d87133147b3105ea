use Rattle.std.proofs.Common.{ap, arith, ◌∙◌}
use Rattle.rart_node.specs.Shape.{value_of, with_deleted}
use Rattle.rart_node.proofs.CountingLemmas.{counts-then}
use Rattle.rart_ways.proofs.PlanLemmas.{prune-removes, one-left, kept-value, leaf-admitted, leaf-replaces, leaving-same, leaving-done}
use Rattle.rart_ways.proofs.removal.plan.plan_without.Goals as goal

pub returns-then-can_lose_a_child : goal.returns-then-can_lose_a_child
returns-then-can_lose_a_child g c =
    record {
      removes = prune-removes c.args.node.now.shape
          c.args.byte c.requires.tree
          (c.can_lose_a_child.ensures.stays c.if-can_lose_a_child.true);
      counted = leaving-same 2 2 _ (omega arith);
    }

pub merge-requires : goal.merge-requires
merge-requires g c =
    let s = c.args.node.now.shape in
    let goes = c.if-can_lose_a_child.false in
    let copied = c.in_ok-copy.ensures c.requires.clones in
    let is = c.delete_child.ensures.seen ∙ ap (with_deleted c.args.byte) copied in
    let none = c.can_lose_a_child.ensures.valueless goes in
    record {
      clones = c.requires.clones;
      valueless = ap value_of is ∙ kept-value s c.args.byte ∙ none;
      one = one-left s c.args.byte c.requires.tree c.requires.leaf.0 c.requires.leaf.1 _ is
          none (c.can_lose_a_child.ensures.few goes);
      admitted = leaf-admitted s c.args.byte c.requires.tree c.requires.leaf.0
          c.requires.leaf.1 _ is _ c.requires.lengths;
    }

pub returns : goal.returns
returns g c =
    let s = c.args.node.now.shape in
    let goes = c.if-can_lose_a_child.false in
    let copied = c.in_ok-copy.ensures c.requires.clones in
    let is = c.delete_child.ensures.seen ∙ ap (with_deleted c.args.byte) copied in
    let none = c.can_lose_a_child.ensures.valueless goes in
    record {
      removes = leaf-replaces c.in_ok-merge.field-0 c.in_ok-value.value s _
          (one-left s c.args.byte c.requires.tree c.requires.leaf.0 c.requires.leaf.1 _ is none
          (c.can_lose_a_child.ensures.few goes))
          c.in_ok-merge.ensures.merged c.requires.tree c.args.byte is none
          c.in_ok-value.ensures.value;
      counted = leaving-done
          (counts-then {most = 2} {most_made = 1} c.in_ok-value.ensures.counted
          c.in_ok-merge.ensures.counted (omega arith) (omega arith)) (omega arith) (omega arith);
    }

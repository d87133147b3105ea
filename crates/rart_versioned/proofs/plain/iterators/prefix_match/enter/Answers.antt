use Rattle.std.proofs.Common.{◌-◌, ◌++◌, length, take, arith, sym, ap, ◌∙◌}
use Rattle.std.specs.Option.{option_copied}
use Rattle.rart_node.specs.Shape.{prefix_of, value_of}
use Rattle.rart_ways.specs.Steps.{child_under}
use Rattle.rart_node.specs.Trees.{strip_prefix}
use Rattle.rart_walks.specs.Frames.{pending_pair}
use Rattle.rart_versioned.specs.Iterators.{matches_below}
use Rattle.rart_versioned.proofs.ProbeLemmas.{matches-left, matches-here, child-tree, child-lower, rest-short}
use Rattle.rart_versioned.proofs.plain.iterators.prefix_match.enter.Goals as goal

pub overflow_sub-depth : goal.overflow_sub-depth
overflow_sub-depth g c =
    let s = c.args.at.now.shape in
    rest-short c.args.probe.now c.args.depth (prefix_of s) c.in-Some.passed.rest.now
    (sym (c.in-Some.ensures.rest ∙ ap (strip_prefix (prefix_of s)) c.rest_of.ensures))

pub returns-in-None-clause-gives : goal.returns-in-None-clause-gives
returns-in-None-clause-gives g c =
    let s = c.args.at.now.shape in
    matches-left c.args.probe.now c.args.depth s
    (sym (c.in-None.ensures.rest ∙ ap (strip_prefix (prefix_of s)) c.rest_of.ensures))

pub returns-in-Some-clause-way : goal.returns-in-Some-clause-way
returns-in-Some-clause-way g c =
    let s = c.args.at.now.shape in
    record {
      depth = omega arith;
      tree = child-tree s c.in-Some.passed.rest.now c.requires.tree _
          (c.child-at.ensures ∙ ap (child_under c.in-Some.passed.rest.now) c.in-Some.ensures.node);
    }

pub returns-in-Some-clause-lower : goal.returns-in-Some-clause-lower
returns-in-Some-clause-lower g c =
    child-lower c.args.at.now.shape c.in-Some.passed.rest.now
    c.requires.tree _
    (c.child-at.ensures ∙ ap (child_under c.in-Some.passed.rest.now) c.in-Some.ensures.node)

pub returns-in-Some-clause-gives : goal.returns-in-Some-clause-gives
returns-in-Some-clause-gives g c =
    let s = c.args.at.now.shape in
    let probe = c.args.probe.now in
    let rest = c.in-Some.passed.rest.now in
    let depth = length probe - length rest in
    let value = c.value.ensures ∙ ap value_of c.in-Some.ensures.node in
    matches-here probe c.args.depth s rest c.requires.tree
    (sym (c.in-Some.ensures.rest ∙ ap (strip_prefix (prefix_of s)) c.rest_of.ensures))
    ∙ ap (λ own. pending_pair (take depth probe) own
    ++ matches_below probe depth (child_under rest s)) (sym value)
    ∙ ap (λ o. pending_pair (take depth probe) (option_copied c.value.result)
    ++ matches_below probe depth o)
    (sym (c.child-at.ensures ∙ ap (child_under rest) c.in-Some.ensures.node))

use Rattle.std.proofs.Common.{◌++◌}
use Rattle.rart_below.specs.Children.{children_below}
use Rattle.rart_node.specs.Shape.{children_of, value_of}
use Rattle.rart_node.specs.PairsBehind.{pending_pair}
use Rattle.rart_ways.specs.Lasts.{end_shape}
use Rattle.rart_ways.proofs.LastLemmas.{last-below-fits, last-end, no-turn}
use Rattle.rart_ways.proofs.seeking.end.turn_before.Goals as goal

pub returns-in-Some-clause-end : goal.returns-in-Some-clause-end
returns-in-Some-clause-end g c =
    let s = c.args.node.now.shape in
    let child = c.in-Some.child.now.shape in
    let last = rw c.from.ensures at c.in-Some.ensures.below in
    λ passed at turns.
    last-end (passed ++ pending_pair c.args.path.now (value_of s)) c.args.path.now
    (children_below c.args.byte (children_of s)) child last
    (last-below-fits c.args.byte (children_of s) child last turns).0

pub returns-in-Some-clause-deep : goal.returns-in-Some-clause-deep
returns-in-Some-clause-deep g c =
    let s = c.args.node.now.shape in
    let last = rw c.from.ensures at c.in-Some.ensures.below in
    λ deep turns. (last-below-fits c.args.byte (children_of s) c.in-Some.child.now.shape last turns).1

pub returns-in-None-clause-end : goal.returns-in-None-clause-end
returns-in-None-clause-end g c =
    let s = c.args.node.now.shape in
    let none = rw c.from.ensures at c.in-None.ensures.below in
    λ passed at turns.
    no-turn (passed ++ pending_pair c.args.path.now (value_of s)) c.args.path.now
    (children_below c.args.byte (children_of s)) (end_shape c.own_turn.result) none
    (c.own_turn.ensures.end passed at)

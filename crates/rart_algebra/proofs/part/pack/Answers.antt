use Rattle.std.proofs.Common.{◌≡◌, length, sym, ◌∙◌, subst, arith}
use Rattle.rart_node.specs.Shape.{children_of}
use Rattle.rart_ways.proofs.PlanLemmas.{only-one}
use Rattle.rart_ways.proofs.RemovalLemmas.{admitted-merged}
use Rattle.rart_algebra.specs.Parts.{IsPacked}
use Rattle.rart_algebra.proofs.PackLemmas.{packed-merged, packed-nothing, none-copied}
use Rattle.rart_algebra.proofs.part.pack.Goals as goal

pub merge_child-requires-clause-admitted : goal.merge_child-requires-clause-admitted
merge_child-requires-clause-admitted g c = λ byte child only.
    admitted-merged g.P.Partial.MAXIMUM_SIZE c.args.node.shape child byte c.requires.order only
    c.requires.lengths

pub returns-then-num_children-eq0-clause-packed : goal.returns-then-num_children-eq0-clause-packed
returns-then-num_children-eq0-clause-packed g c =
    packed-nothing c.args.node.shape
    (sym c.value.ensures ∙ none-copied c.value.result
    (sym c.is_some.ensures ∙ c.if-is_some.false))
    (sym c.num_children-2.ensures.count ∙ c.if-num_children-eq0.true)

pub returns-clause-packed : goal.returns-clause-packed
returns-clause-packed g c =
    let s = c.args.node.shape in
    let few = c.if-num_children-gt1.false in
    let some = c.if-num_children-eq0.false in
    let count = c.num_children.ensures.count in
    let again = c.num_children-2.ensures.count in
    let one : length (children_of s) ≡ 1 = omega (arith, few, some, count, again) in
    let only = only-one s one in
    subst (IsPacked s)
    (sym (c.in_ok-new-2.ensures.shown
    ∙ c.in_ok-merged.ensures.merged c.requires.clones only.0 only.1 only.2))
    (packed-merged s only.1 only.0 c.requires.order
    (sym c.value.ensures ∙ none-copied c.value.result
    (sym c.is_some.ensures ∙ c.if-is_some.false)) only.2)

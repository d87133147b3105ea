use Rattle.std.proofs.Common.{length, sym, ap, subst, ◌∙◌}
use Rattle.rart_node.specs.Shape.{HasOnly, prefix_of, children_of, with_deleted, merged}
use Rattle.rart_node.specs.Trees.{IsOrdered}
use Rattle.rart_node.proofs.FindLemmas.{ordered}
use Rattle.rart_ways.specs.Prefixes.{IsWithoutChild}
use Rattle.rart_ways.specs.Removals.{AreAdmitted}
use Rattle.rart_ways.proofs.GraftLemmas.{deleted-ordered, deleted-admitted, lost-kept, lost-merged, lost-one}
use Rattle.rart_ways.proofs.LentPathLemmas.{IsSome-Some}
use Rattle.rart_ways.proofs.PlanLemmas.{only-one}
use Rattle.rart_ways.proofs.RemovalLemmas.{admitted-merged}
use Rattle.rart_ways.proofs.prefixes.lose_child.Goals as goal

pub returns-then-can_lose_a_child-clause-lost : goal.returns-then-can_lose_a_child-clause-lost
returns-then-can_lose_a_child-clause-lost g c =
    let s = c.args.node.now.shape in
    let there = IsSome-Some _ c.requires.there in
    subst (IsWithoutChild c.args.byte s) (sym c.delete_child.ensures.seen)
    (lost-kept s there.0 c.args.byte c.requires.tree there.1
    (c.can_lose_a_child.ensures.stays c.if-can_lose_a_child.true))

pub merge_child-requires-clause-child : goal.merge_child-requires-clause-child
merge_child-requires-clause-child g c =
    let s = c.args.node.now.shape in
    let there = IsSome-Some _ c.requires.there in
    let is = c.delete_child-2.ensures.seen
    ∙ ap (with_deleted c.args.byte) (c.in_ok-copy.ensures c.requires.clones) in
    ap (λ z. length (children_of z)) is
    ∙ lost-one s there.0 c.args.byte c.requires.tree there.1
    (c.can_lose_a_child.ensures.valueless c.if-can_lose_a_child.false)
    (c.can_lose_a_child.ensures.few c.if-can_lose_a_child.false)

pub merge_child-requires-clause-admitted : goal.merge_child-requires-clause-admitted
merge_child-requires-clause-admitted g c = λ byte child only.
    let s = c.args.node.now.shape in
    let most = g.P.Partial.MAXIMUM_SIZE in
    let is = c.delete_child-2.ensures.seen
    ∙ ap (with_deleted c.args.byte) (c.in_ok-copy.ensures c.requires.clones) in
    admitted-merged most _ child byte
    (subst IsOrdered (sym is) (deleted-ordered s c.args.byte (ordered s c.requires.tree))) only
    (subst (AreAdmitted most) (sym is) (deleted-admitted most s c.args.byte c.requires.lengths))

pub returns-clause-lost : goal.returns-clause-lost
returns-clause-lost g c =
    let s = c.args.node.now.shape in
    let there = IsSome-Some _ c.requires.there in
    let is = c.delete_child-2.ensures.seen
    ∙ ap (with_deleted c.args.byte) (c.in_ok-copy.ensures c.requires.clones) in
    let none = c.can_lose_a_child.ensures.valueless c.if-can_lose_a_child.false in
    let one = ap (λ z. length (children_of z)) is
    ∙ lost-one s there.0 c.args.byte c.requires.tree there.1 none
    (c.can_lose_a_child.ensures.few c.if-can_lose_a_child.false) in
    let only = only-one c.delete_child-2.new.self.shape one in
    let shows = c.in_ok-node.ensures.merged c.requires.clones only.0 only.1 only.2 in
    subst (IsWithoutChild c.args.byte s)
    (sym (shows ∙ ap (λ z. merged (prefix_of z) only.1) is))
    (lost-merged s only.1 c.args.byte only.0 c.requires.tree none
    (subst (HasOnly only.0 only.1) is only.2))

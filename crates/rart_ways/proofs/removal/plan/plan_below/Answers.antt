use Rattle.std.proofs.Common.{◌≡◌, ◌-◌, IfNone, IsSome, false, true, refl, sym, subst, arith, ◌∙◌}
use Rattle.rart_node.specs.Shape.{prefix_of, value_of}
use Rattle.rart_node.proofs.FindLemmas.{ascending, ordered}
use Rattle.rart_ways.proofs.EditLemmas.{on-any}
use Rattle.rart_ways.proofs.GraftLemmas.{admitted-along}
use Rattle.rart_ways.proofs.KeyEndLemmas.{if-some, removes-at, end-found, end-root}
use Rattle.rart_ways.proofs.LentPathLemmas.{tree-along}
use Rattle.rart_ways.proofs.PlanLemmas.{here-leaf, not_some-None, not-none, value-there}
use Rattle.rart_ways.proofs.removal.plan.plan_below.Goals as goal

pub returns-then-is_none-clause-plan : goal.returns-then-is_none-clause-plan
returns-then-is_none-clause-plan g c =
    let end = c.in-Some.end.node.now.shape in
    end-found c.args.root.now.shape end c.args.key.now c.in-Some.end.steps c.in-Some.ensures.ends
    ∙ not_some-None (value_of end)
    (value-there c.value.result _ false c.value.ensures c.if-is_none.ensures)

pub num_children-requires : goal.num_children-requires
num_children-requires g c =
    let end = c.in-Some.end.node.now.shape in
    ascending end (ordered end (tree-along c.in-Some.end.steps c.args.key.now
    c.args.root.now.shape (end, _) c.requires.tree c.in-Some.ensures.ends))

pub plan_here-requires-clause-tree : goal.plan_here-requires-clause-tree
plan_here-requires-clause-tree g c =
    tree-along c.in-Some.end.steps c.args.key.now c.args.root.now.shape
    (c.in-Some.end.node.now.shape, _) c.requires.tree c.in-Some.ensures.ends

pub plan_here-requires-clause-lengths : goal.plan_here-requires-clause-lengths
plan_here-requires-clause-lengths g c =
    admitted-along _ c.in-Some.end.steps c.args.key.now c.args.root.now.shape
    (c.in-Some.end.node.now.shape, _) c.requires.tree c.in-Some.ensures.ends c.requires.lengths

pub returns-in_err-edit-clause-present : goal.returns-in_err-edit-clause-present
returns-in_err-edit-clause-present g c =
    let end = c.in-Some.end.node.now.shape in
    on-any c.from_residual.result (subst IsSome (sym (end-found c.args.root.now.shape end
    c.args.key.now c.in-Some.end.steps c.in-Some.ensures.ends))
    (value-there c.value.result _ true c.value.ensures c.if-is_none.ensures))

pub returns-in_err-edit-clause-absent_makes_none :
    goal.returns-in_err-edit-clause-absent_makes_none
returns-in_err-edit-clause-absent_makes_none g c none =
    let end = c.in-Some.end.node.now.shape in
    absurd (not-none (value_of end)
    (value-there c.value.result _ true c.value.ensures c.if-is_none.ensures)
    (sym (end-found c.args.root.now.shape end c.args.key.now c.in-Some.end.steps
    c.in-Some.ensures.ends) ∙ none))

pub returns-then-num_children-gt0-clause-plan : goal.returns-then-num_children-gt0-clause-plan
returns-then-num_children-gt0-clause-plan g c =
    let s = c.args.root.now.shape in
    let end = c.in-Some.end.node.now.shape in
    let steps = c.in-Some.end.steps in
    let ends = c.in-Some.ensures.ends in (
      removes-at c.in_ok-edit.edit steps steps c.args.key.now _ s end ends refl
          c.in_ok-edit.ensures.removes,
      subst IsSome (sym (end-found s end c.args.key.now steps ends))
          (value-there c.value.result _ true c.value.ensures c.if-is_none.ensures),
    )

pub returns-then-num_children-gt0-clause-absent_makes_none :
    goal.returns-then-num_children-gt0-clause-absent_makes_none
returns-then-num_children-gt0-clause-absent_makes_none g c none =
    let end = c.in-Some.end.node.now.shape in
    absurd (not-none (value_of end)
    (value-there c.value.result _ true c.value.ensures c.if-is_none.ensures)
    (sym (end-found c.args.root.now.shape end c.args.key.now c.in-Some.end.steps
    c.in-Some.ensures.ends) ∙ none))

pub returns-in_default-above-clause-plan : goal.returns-in_default-above-clause-plan
returns-in_default-above-clause-plan g c =
    let end = c.in-Some.end.node.now.shape in
    let count = c.num_children.ensures.count in
    let none = c.if-num_children-gt0.false in
    end-root c.args.root.now.shape end c.args.key.now c.in-Some.end.steps c.in-Some.ensures.ends
    (subst (λ o. IfNone o (c.in-Some.end.steps ≡ 0)) c.in_default-above.is
    c.in-Some.ensures.root)
    (here-leaf end (omega (arith, count, none))
    (value-there c.value.result _ true c.value.ensures c.if-is_none.ensures))

pub plan_without-requires-clause-tree : goal.plan_without-requires-clause-tree
plan_without-requires-clause-tree g c =
    let above = if-some _ c.in-Some.end.above _ c.in-Some-above.is c.in-Some.ensures.above in
    tree-along above.before c.args.key.now c.args.root.now.shape
    (c.in-Some-above.above.node.now.shape, _) c.requires.tree above.reached

pub plan_without-requires-clause-lengths : goal.plan_without-requires-clause-lengths
plan_without-requires-clause-lengths g c =
    let above = if-some _ c.in-Some.end.above _ c.in-Some-above.is c.in-Some.ensures.above in
    admitted-along _ above.before c.args.key.now c.args.root.now.shape
    (c.in-Some-above.above.node.now.shape, _) c.requires.tree above.reached c.requires.lengths

pub plan_without-requires-clause-leaf : goal.plan_without-requires-clause-leaf
plan_without-requires-clause-leaf g c =
    let end = c.in-Some.end.node.now.shape in
    let above = if-some _ c.in-Some.end.above _ c.in-Some-above.is c.in-Some.ensures.above in
    let count = c.num_children.ensures.count in
    let none = c.if-num_children-gt0.false in
    let leaf = here-leaf end (omega (arith, count, none))
    (value-there c.value.result _ true c.value.ensures c.if-is_none.ensures) in
    (above.left, (end, prefix_of end, above.goes, leaf))

pub returns-in_err-edit-2-clause-present : goal.returns-in_err-edit-2-clause-present
returns-in_err-edit-2-clause-present g c =
    let end = c.in-Some.end.node.now.shape in
    on-any c.from_residual-in_err-edit-2.result (subst IsSome
    (sym (end-found c.args.root.now.shape end c.args.key.now c.in-Some.end.steps
    c.in-Some.ensures.ends))
    (value-there c.value.result _ true c.value.ensures c.if-is_none.ensures))

pub returns-in_err-edit-2-clause-absent_makes_none :
    goal.returns-in_err-edit-2-clause-absent_makes_none
returns-in_err-edit-2-clause-absent_makes_none g c none =
    let end = c.in-Some.end.node.now.shape in
    absurd (not-none (value_of end)
    (value-there c.value.result _ true c.value.ensures c.if-is_none.ensures)
    (sym (end-found c.args.root.now.shape end c.args.key.now c.in-Some.end.steps
    c.in-Some.ensures.ends) ∙ none))

pub returns-clause-plan : goal.returns-clause-plan
returns-clause-plan g c =
    let s = c.args.root.now.shape in
    let end = c.in-Some.end.node.now.shape in
    let steps = c.in-Some.end.steps in
    let above = if-some _ c.in-Some.end.above _ c.in-Some-above.is c.in-Some.ensures.above in
    let more = above.one_more in
    let count = c.num_children.ensures.count in
    let none = c.if-num_children-gt0.false in
    let there = value-there c.value.result _ true c.value.ensures c.if-is_none.ensures in (
      removes-at c.in_ok-edit-2.edit (steps - 1) above.before c.args.key.now above.left s
          c.in-Some-above.above.node.now.shape above.reached (omega (arith, more))
          (c.in_ok-edit-2.ensures.removes above.left
          (end, prefix_of end, above.goes, here-leaf end (omega (arith, count, none)) there)),
      subst IsSome (sym (end-found s end c.args.key.now steps c.in-Some.ensures.ends)) there,
    )

pub returns-clause-absent_makes_none : goal.returns-clause-absent_makes_none
returns-clause-absent_makes_none g c none =
    let end = c.in-Some.end.node.now.shape in
    absurd (not-none (value_of end)
    (value-there c.value.result _ true c.value.ensures c.if-is_none.ensures)
    (sym (end-found c.args.root.now.shape end c.args.key.now c.in-Some.end.steps
    c.in-Some.ensures.ends) ∙ none))

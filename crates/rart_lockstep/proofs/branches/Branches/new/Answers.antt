use Rattle.std.proofs.Common.{sym, ◌∙◌, ⊎_elim, inl, inr}
use Rattle.rart_lockstep.specs.TreeCursorFields.{cursor_shape}
use Rattle.rart_lockstep.proofs.BranchLemmas.{step-left}
use Rattle.rart_lockstep.proofs.PairStepLemmas.{prefix-with}
use Rattle.rart_lockstep.proofs.branches.Branches.new.Goals as goal

pub returns-in_default-seek_child-clause-steps : goal.returns-in_default-seek_child-clause-steps
returns-in_default-seek_child-clause-steps g c =
    let n = c.args.left.node.now.shape in
    let t = cursor_shape c.args.right in
    step-left n t _ _ _ _ c.requires.left
    (⊎_elim (λ is. inl (sym (prefix-with n _) ∙ is)) (λ is. inr is) c.requires.ended)
    c.rest.ensures c.in-Some.ensures.value c.in_default-seek_child.ensures

pub returns-in-Some-clause-steps : goal.returns-in-Some-clause-steps
returns-in-Some-clause-steps g c =
    let n = c.args.left.node.now.shape in
    let t = cursor_shape c.args.right in
    step-left n t _ _ _ _ c.requires.left
    (⊎_elim (λ is. inl (sym (prefix-with n _) ∙ is)) (λ is. inr is) c.requires.ended)
    c.rest.ensures c.in-Some.ensures.value c.in-Some-seek_child.ensures

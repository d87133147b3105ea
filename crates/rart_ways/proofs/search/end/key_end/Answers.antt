use Rattle.std.proofs.Common.{IfSome, List, ℕ, Some, arith, sym, ap, subst, slice_get, ◌∙◌}
use Rattle.std.proofs.lemmas.Option.{none-some}
use Rattle.rart_below.specs.Children.{child_at}
use Rattle.rart_node.specs.Shape.{Shape, children_of, prefix_of}
use Rattle.rart_node.proofs.CountingLemmas.{path-one}
use Rattle.rart_ways.specs.Plans.{IsAbove}
use Rattle.rart_ways.proofs.KeyEndLemmas.{above-child, under-first, whole-rest}
use Rattle.rart_ways.proofs.LookupPathLemmas.{search-down, steps-fit}
use Rattle.rart_ways.proofs.StepLemmas.{step-counted, step-missing, step-lower, step-child}
use Rattle.rart_ways.proofs.search.end.key_end.Goals as goal

pub returns-in_err-passed-clause-counted : goal.returns-in_err-passed-clause-counted
returns-in_err-passed-clause-counted g c =
    step-counted _ _ _ _ _ _ _ c.down.invariant.down.at c.in_err-passed.ensures.work

pub returns-in_default-clause-ends : goal.returns-in_default-clause-ends
returns-in_default-clause-ends g c =
    let node = sym c.in_ok-passed.ensures.node in
    let whole = whole-rest c.down.at.now.shape _ _ c.in_ok-passed.ensures.rest c.in_default.ensures.value
    ∙ ap prefix_of node in
    c.down.invariant.down.reached ∙ (λ i. Some (node i, whole i))

pub returns-in_default-clause-above : goal.returns-in_default-clause-above
returns-in_default-clause-above g c =
    let node = sym c.in_ok-passed.ensures.node in
    let whole = whole-rest c.down.at.now.shape _ _ c.in_ok-passed.ensures.rest c.in_default.ensures.value
    ∙ ap prefix_of node in
    subst (λ (end : Shape g.row.V.Denot × List ℕ). IfSome c.down.above (λ above.
    IsAbove c.args.key.now c.args.root.now.shape c.down.steps above.node.now.shape above.byte
    end.0 end.1)) (λ i. (node i, whole i)) c.down.invariant.above

pub returns-in_default-clause-few : goal.returns-in_default-clause-few
returns-in_default-clause-few g c =
    let one = path-one c.down.at.now.shape c.down.rest.now in
    let few = c.down.invariant.down.few in
    omega (arith, one, few)

pub returns-in_default-clause-counted : goal.returns-in_default-clause-counted
returns-in_default-clause-counted g c =
    step-counted _ _ _ _ _ _ _ c.down.invariant.down.at c.in_ok-passed.ensures.work

pub returns-in_err-at-clause-absent : goal.returns-in_err-at-clause-absent
returns-in_err-at-clause-absent g c =
    let next = c.in-Some.ensures.value in
    rw c.from_residual-in_err-at.ensures
    (step-missing _ _ _ _ _ _ _ c.down.invariant.down.at c.in_ok-passed.ensures.work _
    c.in_ok-passed.ensures.rest
    (λ end. none-some _ (sym (next ∙ ap (λ z. slice_get z 0) end)))
    (c.in_err-at.ensures
    ∙ ap (λ z. child_at c.in-Some.byte.now (children_of z)) c.in_ok-passed.ensures.node
    ∙ sym (under-first _ _ _ next)))

pub returns-in_err-at-clause-counted : goal.returns-in_err-at-clause-counted
returns-in_err-at-clause-counted g c =
    step-counted _ _ _ _ _ _ _ c.down.invariant.down.at c.in_ok-passed.ensures.work

pub prove-unreachable-requires : goal.prove-unreachable-requires
prove-unreachable-requires g c =
    let here = c.in_ok-at.ensures
    ∙ ap (λ z. child_at c.in-Some.byte.now (children_of z)) c.in_ok-passed.ensures.node
    ∙ sym (under-first _ _ _ c.in-Some.ensures.value) in
    let fits = steps-fit _ _ _ _ _ _ _ c.down.invariant.down _ c.in_ok-passed.ensures.rest _
    here in
    let true = c.if-prove.true in
    omega (arith, fits, true)

pub down-smaller : goal.down-smaller
down-smaller g c =
    step-lower _ _ _ _ _ _ _ c.down.invariant.down.at c.in_ok-passed.ensures.work _
    c.in_ok-passed.ensures.rest _
    (c.in_ok-at.ensures
    ∙ ap (λ z. child_at c.in-Some.byte.now (children_of z)) c.in_ok-passed.ensures.node
    ∙ sym (under-first _ _ _ c.in-Some.ensures.value))

pub down-preserved : goal.down-preserved
down-preserved g c =
    let at = c.down.invariant.down in
    let rest = c.in_ok-passed.ensures.rest in
    let here = c.in_ok-at.ensures
    ∙ ap (λ z. child_at c.in-Some.byte.now (children_of z)) c.in_ok-passed.ensures.node
    ∙ sym (under-first _ _ _ c.in-Some.ensures.value) in
    record {
      down = search-down _ _ _ _ _ _ _ at _ rest _ here _
          (step-child _ _ _ _ _ _ _ at.at c.in_ok-passed.ensures.work _ rest _ here);
      above = above-child _ _ _ _ _ _ at.reached c.in_ok-passed.ensures.node _ _ _ rest
          c.in-Some.ensures.value c.in_ok-at.ensures;
      root = tt;
    }

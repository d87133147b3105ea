use Rattle.std.proofs.Common.{◌≡◌, ◌==◌, false, Option, Some, None, length, arith, refl, sym, ap, ◌∙◌}
use Rattle.std.proofs.lemmas.Bool.{false≢true}
use Rattle.std.specs.Option.{is_some, option_copied, option_map}
use Rattle.rart_node.specs.Shape.{value_of}
use Rattle.rart_ways.proofs.LookupPathLemmas.{search-down, steps-fit}
use Rattle.rart_ways.specs.Steps.{child_under}
use Rattle.rart_ways.proofs.StepLemmas.{nothing-if, rest-empty, step-counted, step-entered, step-here, step-left, step-missing, step-lower, step-child}
use Rattle.rart_ways.proofs.search.depth.path_length.Goals as goal

not-some : {A : Type 0} (o : Option A) → is_some o ≡ false → o ≡ None
not-some None is = refl
not-some (Some a) is = absurd (false≢true (sym is))

pub returns-in_err-passed : goal.returns-in_err-passed
returns-in_err-passed g c =
    let at = c.down.invariant.at in
    let opens = c.in_err-passed.ensures.work in
    record {
      arrives = nothing-if _ c.from_residual.result c.from_residual.ensures;
      absent = rw c.from_residual.ensures
          (step-left _ _ _ _ _ _ _ at opens c.in_err-passed.ensures.rest);
      few = nothing-if _ c.from_residual.result c.from_residual.ensures;
      counted = step-counted _ _ _ _ _ _ _ at opens;
      entered = step-entered _ _ _ _ _ _ _ at opens;
    }

pub returns-in-None-2 : goal.returns-in-None-2
returns-in-None-2 g c =
    let at = c.down.invariant.at in
    let opens = c.in_ok-passed.ensures.work in
    record {
      arrives = tt;
      absent = step-here _ _ _ _ _ _ _ at opens _ c.in_ok-passed.ensures.rest
          (rest-empty c.in_ok-passed.passed.rest.now
          (sym c.if-is_empty.true ∙ c.is_empty.ensures))
          ∙ sym (ap value_of c.in_ok-passed.ensures.node) ∙ sym c.value.ensures
          ∙ ap option_copied (not-some c.value.result (sym c.is_some.ensures ∙ c.if-is_some.false));
      few = tt;
      counted = step-counted _ _ _ _ _ _ _ at opens;
      entered = step-entered _ _ _ _ _ _ _ at opens;
    }

pub returns-in-None-2-2 : goal.returns-in-None-2-2
returns-in-None-2-2 g c =
    let at = c.down.invariant.at in
    let opens = c.in_ok-passed.ensures.work in
    record {
      arrives = tt;
      absent = step-missing _ _ _ _ _ _ _ at opens _ c.in_ok-passed.ensures.rest
          (λ end. false≢true (c.if-is_empty.ensures ∙ ap (λ z. length z == 0) end))
          (sym (ap (option_map (λ child. child.now.shape)) c.in-None.is)
          ∙ c.child.ensures
          ∙ ap (child_under c.in_ok-passed.passed.rest.now) c.in_ok-passed.ensures.node);
      few = tt;
      counted = step-counted _ _ _ _ _ _ _ at opens;
      entered = step-entered _ _ _ _ _ _ _ at opens;
    }

pub prove-unreachable-requires : goal.prove-unreachable-requires
prove-unreachable-requires g c =
    let fits = steps-fit _ _ _ _ _ _ _ c.down.invariant _ c.in_ok-passed.ensures.rest _
    (sym (ap (option_map (λ child. child.now.shape)) c.in-Some.is)
    ∙ c.child.ensures
    ∙ ap (child_under c.in_ok-passed.passed.rest.now) c.in_ok-passed.ensures.node) in
    let true = c.if-prove.true in
    omega (arith, fits, true)

pub down-smaller : goal.down-smaller
down-smaller g c =
    step-lower _ _ _ _ _ _ _ c.down.invariant.at c.in_ok-passed.ensures.work _
    c.in_ok-passed.ensures.rest _
    (sym (ap (option_map (λ child. child.now.shape)) c.in-Some.is)
    ∙ c.child.ensures ∙ ap (child_under c.in_ok-passed.passed.rest.now) c.in_ok-passed.ensures.node)

pub down-preserved : goal.down-preserved
down-preserved g c =
    let here = sym (ap (option_map (λ child. child.now.shape))
    c.in-Some.is) ∙ c.child.ensures
    ∙ ap (child_under c.in_ok-passed.passed.rest.now) c.in_ok-passed.ensures.node in
    search-down _ _ _ _ _ _ _ c.down.invariant _ c.in_ok-passed.ensures.rest _ here _
    (step-child _ _ _ _ _ _ _ c.down.invariant.at c.in_ok-passed.ensures.work _
    c.in_ok-passed.ensures.rest _ here)

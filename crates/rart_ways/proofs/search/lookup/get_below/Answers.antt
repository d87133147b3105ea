use Rattle.std.proofs.Common.{◌==◌, length, sym, ap, rules, ◌∙◌}
use Rattle.std.proofs.lemmas.Bool.{false≢true}
use Rattle.std.specs.Option.{option_copied, option_map}
use Rattle.rart_node.specs.Shape.{value_of}
use Rattle.rart_node.proofs.SearchLemmas.{search-start}
use Rattle.rart_ways.specs.Steps.{child_under}
use Rattle.rart_ways.proofs.StepLemmas.{rest-empty, step-counted, step-entered, step-here, step-left, step-missing, step-lower, step-child, each-left, each-last, each-child, above-start}
use Rattle.rart_ways.proofs.search.lookup.get_below.Goals as goal

pub returns-in_err-passed : goal.returns-in_err-passed
returns-in_err-passed g c =
    let at = c.down.invariant.search in
    let opens = c.in_err-passed.ensures.work in
    record {
      value = ap option_copied c.from_residual.ensures
          ∙ sym (step-left _ _ _ _ _ _ _ at opens c.in_err-passed.ensures.rest);
      counted = step-counted _ _ _ _ _ _ _ at opens;
      entered = step-entered _ _ _ _ _ _ _ at opens;
      each = each-left _ _ _ _ _ _ _ c.down.invariant.above opens c.in_err-passed.ensures.rest;
    }

pub returns-in-None : goal.returns-in-None
returns-in-None g c =
    let at = c.down.invariant.search in
    let opens = c.in_ok-passed.ensures.work in
    record {
      value = c.value.ensures ∙ ap value_of c.in_ok-passed.ensures.node
          ∙ sym (step-here _ _ _ _ _ _ _ at opens _ c.in_ok-passed.ensures.rest
          (rest-empty c.in_ok-passed.passed.rest.now (search rules)));
      counted = step-counted _ _ _ _ _ _ _ at opens;
      entered = step-entered _ _ _ _ _ _ _ at opens;
      each = each-last _ _ _ _ _ _ _ c.down.invariant.above opens at.tree _
          c.in_ok-passed.ensures.rest
          (sym (ap (option_map (λ child. child.now.shape)) c.in-None.is)
          ∙ c.child.ensures
          ∙ ap (child_under c.in_ok-passed.passed.rest.now) c.in_ok-passed.ensures.node);
    }

pub returns-in-None-2 : goal.returns-in-None-2
returns-in-None-2 g c =
    let at = c.down.invariant.search in
    let opens = c.in_ok-passed.ensures.work in
    record {
      value = sym (step-missing _ _ _ _ _ _ _ at opens _ c.in_ok-passed.ensures.rest
          (λ end. false≢true (c.if-is_empty.ensures ∙ ap (λ z. length z == 0) end))
          (sym (ap (option_map (λ child. child.now.shape)) c.in-None.is)
          ∙ c.child.ensures
          ∙ ap (child_under c.in_ok-passed.passed.rest.now) c.in_ok-passed.ensures.node));
      counted = step-counted _ _ _ _ _ _ _ at opens;
      entered = step-entered _ _ _ _ _ _ _ at opens;
      each = each-last _ _ _ _ _ _ _ c.down.invariant.above opens at.tree _
          c.in_ok-passed.ensures.rest
          (sym (ap (option_map (λ child. child.now.shape)) c.in-None.is)
          ∙ c.child.ensures
          ∙ ap (child_under c.in_ok-passed.passed.rest.now) c.in_ok-passed.ensures.node);
    }

pub down-smaller : goal.down-smaller
down-smaller g c =
    step-lower _ _ _ _ _ _ _ c.down.invariant.search c.in_ok-passed.ensures.work _
    c.in_ok-passed.ensures.rest _
    (sym (ap (option_map (λ child. child.now.shape)) c.in-Some.is)
    ∙ c.child.ensures ∙ ap (child_under c.in_ok-passed.passed.rest.now) c.in_ok-passed.ensures.node)

pub down-preserved : goal.down-preserved
down-preserved g c =
    let at = c.down.invariant.search in
    let opens = c.in_ok-passed.ensures.work in
    let here = sym (ap (option_map (λ child. child.now.shape)) c.in-Some.is) ∙ c.child.ensures
    ∙ ap (child_under c.in_ok-passed.passed.rest.now) c.in_ok-passed.ensures.node in
    record {
      search = step-child _ _ _ _ _ _ _ at opens _ c.in_ok-passed.ensures.rest _ here;
      above = each-child _ _ _ _ _ _ _ c.down.invariant.above opens at.tree _
          c.in_ok-passed.ensures.rest _ here;
    }

pub down-init : goal.down-init
down-init g c =
    let root = c.args.root.now.shape in
    record {
      search = search-start root c.args.key.now c.args.work.now c.requires.tree;
      above = above-start root c.args.key.now c.args.work.now;
    }

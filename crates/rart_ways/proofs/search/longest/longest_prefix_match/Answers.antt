use Rattle.std.specs.Prelude.{◌-◌}
use Rattle.std.proofs.Common.{[], ◌++◌, None, length, take, refl, arith, sym, ap, ◌∙◌}
use Rattle.std.specs.List.{last_or}
use Rattle.std.specs.Option.{option_copied, option_map}
use Rattle.rart_node.specs.Shape.{value_of}
use Rattle.rart_node.proofs.SearchLemmas.{search-start}
use Rattle.rart_ways.specs.Steps.{child_under}
use Rattle.rart_ways.proofs.StepLemmas.{step-counted, step-entered, step-lower, step-child, match-start, match-left, match-fits, match-last, match-next, last_or-append, each-left, each-last, each-child, above-start}
use Rattle.rart_ways.proofs.search.longest.longest_prefix_match.Goals as goal
use Rattle.rart_node.specs.PairsBehind.{pending_pair}

pub down-init : goal.down-init
down-init g c =
    let root = c.args.root.now.shape in
    record {
      search = search-start root c.args.probe.now c.args.work.now c.requires.tree;
      above = above-start root c.args.probe.now c.args.work.now;
      passed = [];
      match = match-start root c.args.probe.now;
      last = refl;
      within = tt;
    }

pub returns-in_default : goal.returns-in_default
returns-in_default g c =
    let at = c.down.invariant.search in
    let opens = c.in_default.ensures.work in
    record {
      longest = c.down.invariant.last
          ∙ ap (last_or None)
          (sym (match-left _ _ _ _ _ c.down.invariant.match c.in_default.ensures.rest));
      within = c.down.invariant.within;
      counted = step-counted _ _ _ _ _ _ _ at opens;
      entered = step-entered _ _ _ _ _ _ _ at opens;
      each = each-left _ _ _ _ _ _ _ c.down.invariant.above opens c.in_default.ensures.rest;
    }

pub overflow_sub-probe : goal.overflow_sub-probe
overflow_sub-probe g c = match-fits _ _ _ _ _ c.down.invariant.match _ c.in-Some.ensures.rest

pub returns-in_default-child : goal.returns-in_default-child
returns-in_default-child g c =
    let at = c.down.invariant.search in
    let opens = c.in-Some.ensures.work in
    let fits = match-fits _ _ _ _ _ c.down.invariant.match _ c.in-Some.ensures.rest in
    let none = sym (ap (option_map (λ child. child.now.shape)) c.in_default-child.is)
    ∙ c.child.ensures ∙ ap (child_under c.in-Some.passed.rest.now) c.in-Some.ensures.node in
    let last = match-last _ _ _ _ _ c.down.invariant.match _ c.in-Some.ensures.rest
    at.tree (length c.args.probe.now - length c.in-Some.passed.rest.now)
    (omega (arith, fits)) _ (c.value.ensures ∙ ap value_of c.in-Some.ensures.node) none in
    record {
      longest = c.longer-longest.ensures.pair c.args.probe.now
          ∙ ap (λ o. last_or o (pending_pair (take (length c.args.probe.now
          - length c.in-Some.passed.rest.now) c.args.probe.now) (option_copied c.value.result)))
          c.down.invariant.last
          ∙ sym (last_or-append None c.down.invariant.passed _) ∙ ap (last_or None) (sym last);
      within = c.longer-longest.ensures.within (length c.args.probe.now) (omega arith)
          c.down.invariant.within;
      counted = step-counted _ _ _ _ _ _ _ at opens;
      entered = step-entered _ _ _ _ _ _ _ at opens;
      each = each-last _ _ _ _ _ _ _ c.down.invariant.above opens at.tree _
          c.in-Some.ensures.rest none;
    }

pub down-smaller : goal.down-smaller
down-smaller g c =
    step-lower _ _ _ _ _ _ _ c.down.invariant.search c.in-Some.ensures.work _
    c.in-Some.ensures.rest _
    (sym (ap (option_map (λ child. child.now.shape)) c.in-Some-child.is)
    ∙ c.child.ensures ∙ ap (child_under c.in-Some.passed.rest.now) c.in-Some.ensures.node)

pub down-preserved : goal.down-preserved
down-preserved g c =
    let here = sym (ap (option_map (λ child. child.now.shape))
    c.in-Some-child.is) ∙ c.child.ensures
    ∙ ap (child_under c.in-Some.passed.rest.now) c.in-Some.ensures.node in
    let fits = match-fits _ _ _ _ _ c.down.invariant.match _ c.in-Some.ensures.rest in
    let own = pending_pair (take (length c.args.probe.now - length c.in-Some.passed.rest.now)
    c.args.probe.now) (option_copied c.value.result) in
    record {
      search = step-child _ _ _ _ _ _ _ c.down.invariant.search c.in-Some.ensures.work _
          c.in-Some.ensures.rest _ here;
      above = each-child _ _ _ _ _ _ _ c.down.invariant.above c.in-Some.ensures.work
          c.down.invariant.search.tree _ c.in-Some.ensures.rest _ here;
      passed = c.down.invariant.passed ++ own;
      match = match-next _ _ _ _ _ c.down.invariant.match _ c.in-Some.ensures.rest
          c.down.invariant.search.tree _ (omega (arith, fits)) _
          (c.value.ensures ∙ ap value_of c.in-Some.ensures.node) _ here;
      last = c.longer-longest.ensures.pair c.args.probe.now
          ∙ ap (λ o. last_or o own) c.down.invariant.last
          ∙ sym (last_or-append None c.down.invariant.passed own);
      within = c.longer-longest.ensures.within (length c.args.probe.now) (omega arith)
          c.down.invariant.within;
    }

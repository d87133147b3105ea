use Rattle.std.specs.Prelude.{◌-◌}
use Rattle.std.proofs.Common.{[], ◌++◌, length, take, refl, arith, sym, ap, subst, ◌∙◌, append_assoc}
use Rattle.std.specs.Option.{option_copied, option_map}
use Rattle.rart_maps.specs.Visits.{BySlice, Visit}
use Rattle.rart_maps.proofs.VisitLemmas.{answers-append, callable-part}
use Rattle.rart_node.specs.Shape.{value_of}
use Rattle.rart_node.proofs.SearchLemmas.{search-start}
use Rattle.rart_ways.specs.Steps.{child_under}
use Rattle.rart_ways.proofs.StepLemmas.{step-counted, step-entered, step-lower, step-child, match-start, match-left, match-fits, match-own, match-last, match-next, each-left, each-last, each-child, above-start}
use Rattle.rart_ways.proofs.search.prefix_matches.visit_prefix_matches.Goals as goal
use Rattle.rart_node.specs.PairsBehind.{pending_pair}

pub down-init : goal.down-init
down-init g c =
    let root = c.args.root.now.shape in
    record {
      search = search-start root c.args.probe.now c.args.work.now c.requires.tree;
      above = above-start root c.args.probe.now c.args.work.now;
      passed = [];
      match = match-start root c.args.probe.now;
      visits = refl;
    }

pub returns-in_default : goal.returns-in_default
returns-in_default g c =
    let at = c.down.invariant.search in
    let opens = c.in_default.ensures.work in
    record {
      visits = subst (λ list. Visit g.F.FnMut BySlice c.args.f.now list c.down.f)
          (sym (match-left _ _ _ _ _ c.down.invariant.match c.in_default.ensures.rest))
          c.down.invariant.visits;
      counted = step-counted _ _ _ _ _ _ _ at opens;
      entered = step-entered _ _ _ _ _ _ _ at opens;
      each = each-left _ _ _ _ _ _ _ c.down.invariant.above opens c.in_default.ensures.rest;
    }

pub overflow_sub-end : goal.overflow_sub-end
overflow_sub-end g c = match-fits _ _ _ _ _ c.down.invariant.match _ c.in-Some.ensures.rest

pub visit_own-requires : goal.visit_own-requires
visit_own-requires g c =
    let fits = match-fits _ _ _ _ _ c.down.invariant.match _ c.in-Some.ensures.rest in
    let own = match-own _ _ _ _ _ c.down.invariant.match _ c.in-Some.ensures.rest
    c.down.invariant.search.tree (length c.args.probe.now - length c.in-Some.passed.rest.now)
    (omega (arith, fits)) _ (c.value.ensures ∙ ap value_of c.in-Some.ensures.node) in
    callable-part g.F.FnMut BySlice tt _ _ refl c.requires.visitable (
      c.down.invariant.passed,
      own ∙ append_assoc c.down.invariant.passed _ _,
      c.down.invariant.visits,
    )

pub returns-in_default-child : goal.returns-in_default-child
returns-in_default-child g c =
    let at = c.down.invariant.search in
    let opens = c.in-Some.ensures.work in
    let fits = match-fits _ _ _ _ _ c.down.invariant.match _ c.in-Some.ensures.rest in
    let none = sym (ap (option_map (λ child. child.now.shape)) c.in_default-child.is)
    ∙ c.child.ensures ∙ ap (child_under c.in-Some.passed.rest.now) c.in-Some.ensures.node in
    let last = match-last _ _ _ _ _ c.down.invariant.match _ c.in-Some.ensures.rest
    at.tree (length c.args.probe.now - length c.in-Some.passed.rest.now)
    (omega (arith, fits)) _ (c.value.ensures ∙ ap value_of c.in-Some.ensures.node) none in
    record {
      visits = subst (λ list. Visit g.F.FnMut BySlice c.args.f.now list c.visit_own.new.f)
          (sym last)
          (answers-append g.F.FnMut BySlice tt c.down.invariant.passed _ c.args.f.now c.down.f
          c.visit_own.new.f c.down.invariant.visits c.visit_own.ensures);
      counted = step-counted _ _ _ _ _ _ _ at opens;
      entered = step-entered _ _ _ _ _ _ _ at opens;
      each = each-last _ _ _ _ _ _ _ c.down.invariant.above opens at.tree _
          c.in-Some.ensures.rest none;
    }

pub down-smaller : goal.down-smaller
down-smaller g c =
    step-lower _ _ _ _ _ _ _ c.down.invariant.search c.in-Some.ensures.work _
    c.in-Some.ensures.rest _
    (sym (ap (option_map (λ child. child.now.shape)) c.in-Some-child.is)
    ∙ c.child.ensures ∙ ap (child_under c.in-Some.passed.rest.now) c.in-Some.ensures.node)

pub down-preserved : goal.down-preserved
down-preserved g c =
    let here = sym (ap (option_map (λ child. child.now.shape))
    c.in-Some-child.is) ∙ c.child.ensures
    ∙ ap (child_under c.in-Some.passed.rest.now) c.in-Some.ensures.node in
    let fits = match-fits _ _ _ _ _ c.down.invariant.match _ c.in-Some.ensures.rest in
    record {
      search = step-child _ _ _ _ _ _ _ c.down.invariant.search c.in-Some.ensures.work _
          c.in-Some.ensures.rest _ here;
      above = each-child _ _ _ _ _ _ _ c.down.invariant.above c.in-Some.ensures.work
          c.down.invariant.search.tree _ c.in-Some.ensures.rest _ here;
      passed = c.down.invariant.passed
          ++ pending_pair (take (length c.args.probe.now - length c.in-Some.passed.rest.now)
          c.args.probe.now) (option_copied c.value.result);
      match = match-next _ _ _ _ _ c.down.invariant.match _ c.in-Some.ensures.rest
          c.down.invariant.search.tree _ (omega (arith, fits)) _
          (c.value.ensures ∙ ap value_of c.in-Some.ensures.node) _ here;
      visits = answers-append g.F.FnMut BySlice tt c.down.invariant.passed _ c.args.f.now c.down.f
          c.visit_own.new.f c.down.invariant.visits c.visit_own.ensures;
    }

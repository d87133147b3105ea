use Rattle.std.proofs.Common.{rules, arith, length, refl, ap, ◌∙◌}
use Rattle.std.specs.List.{concat}
use Rattle.rart_maps.specs.Visits.{ByView}
use Rattle.rart_maps.proofs.VisitLemmas.{callable-next, up_to-next, up_to-over, visits-refused}
use Rattle.rart_walks.proofs.CountedLemmas.{counted-next, counted-end}
use Rattle.rart_walks.proofs.visits.views_back.visit_views_back.Goals as goal

pub returns-in_err-value : goal.returns-in_err-value
returns-in_err-value g c =
    let refused = c.from_residual.ensures.0 in
    let before = c.visiting.invariant in
    record {
      visits = visits-refused g.F.FnMut ByView c.from_residual.result refused (_, before.calls);
      counted = counted-end before.counted c.in_err-value.ensures.counted;
      exact = search (rules, refused);
      each = search (rules, refused);
    }

pub f-requires : goal.f-requires
f-requires g c =
    let gives = rw c.in-Some.is at c.in_ok-value.ensures.gives in
    let before = c.visiting.invariant.calls in
    let here = callable-next g.F.FnMut ByView tt _ _ gives c.requires.visitable before in
    let key = c.view_of.ensures ∙ ap concat c.key_path.ensures in
    let takes = here (c.view_of.result, (c.in-Some.value, tt)) (key, refl) in
    search (rules, takes)

pub visiting-preserved : goal.visiting-preserved
visiting-preserved g c =
    let gives = rw c.in-Some.is at c.in_ok-value.ensures.gives in
    let walked = c.in_ok-value.ensures in
    let before = c.visiting.invariant in
    let key = c.view_of.ensures ∙ ap concat c.key_path.ensures in
    record {
      walk = walked.walk;
      calls = up_to-next g.F.FnMut ByView tt _ _ gives before.calls (_, c.f.ensures, (key, refl));
      counted = counted-next _ before.counted walked.entered walked.counted;
      each = let each = before.each in let next = walked.each in omega (arith, each, next);
    }

pub returns : goal.returns
returns g c =
    let none = rw c.in_default.is at c.in_ok-value.ensures.gives in
    let walked = c.in_ok-value.ensures in
    let before = c.visiting.invariant in
    let no_pair = ap (λ end. length end.pairs) none.1 in
    let no_path = ap (λ end. length end.paths) none.1 in
    record {
      visits = up_to-over g.F.FnMut ByView tt none.0 before.calls;
      counted = counted-end before.counted walked.counted;
      exact =
          let same = before.counted.same in
          let next = walked.entered in
          omega (arith, same, next, no_path);
      each =
          let each = before.each in
          let next = walked.each in
          omega (arith, each, next, no_pair);
    }

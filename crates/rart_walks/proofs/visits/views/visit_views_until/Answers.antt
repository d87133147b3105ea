use Rattle.std.proofs.Common.{rules, arith, [], Ok, inl, inr, refl, ap, ◌∙◌}
use Rattle.std.specs.List.{concat}
use Rattle.std.proofs.lemmas.Fn.{called}
use Rattle.rart_below.specs.declared.visit.VisitControl.TheVariants.{Continue, Stop}
use Rattle.rart_maps.specs.Visits.{ByView}
use Rattle.rart_maps.proofs.VisitLemmas.{callable-next, up_to-next, up_to-over, up_to-part, visit_up_to-next}
use Rattle.rart_walks.proofs.CountedLemmas.{counted-next, counted-end}
use Rattle.rart_walks.proofs.VisitEndLemmas.{ends-up_to, goes-past, goes-next, goes-end, goes-over}
use Rattle.rart_walks.proofs.visits.views.visit_views_until.Goals as goal

pub visiting-preserved-in-Ok-Some-None : goal.visiting-preserved-in-Ok-Some-None
visiting-preserved-in-Ok-Some-None g c =
    let walked = c.in-Ok-Some-None.ensures in
    let comes = rw c.in-Ok-Some-None.field-0-is at walked.steps in
    let none = c.in-Ok-Some-None.field-0-0-is in
    let same = rw none at comes.pairs in
    let before = c.visiting.invariant in
    record {
      walk = walked.walk;
      calls = up_to-part g.F.FnMut ByView (Ok Continue) [] _ same before.calls refl;
      counted = counted-next _ before.counted walked.entered walked.counted;
      goes = goes-past g.F.FnMut ByView _ _ _ _ _ before.goes comes walked.entered walked.one _
          walked.each none;
    }

pub f-requires : goal.f-requires
f-requires g c =
    let key = c.view_of.ensures ∙ ap concat c.key_path.ensures in
    let walked = c.in-Ok-Some-Some.ensures in
    let comes = rw c.in-Ok-Some-Some.field-0-is at walked.steps in
    let gives = rw c.in-Ok-Some-Some.field-0-0-is at comes.pairs in
    let before = c.visiting.invariant.calls in
    let here = callable-next g.F.FnMut ByView (Ok Continue) _ _ gives c.requires.visitable before in
    let takes = here (c.view_of.result, (c.in-Ok-Some-Some.value, tt)) (key, refl) in
    search (rules, takes)

pub visiting-preserved : goal.visiting-preserved
visiting-preserved g c =
    let key = c.view_of.ensures ∙ ap concat c.key_path.ensures in
    let walked = c.in-Ok-Some-Some.ensures in
    let comes = rw c.in-Ok-Some-Some.field-0-is at walked.steps in
    let some = c.in-Ok-Some-Some.field-0-0-is in
    let same = rw some at comes.pairs in
    let told = c.in-Ok-Continue.is ∙ ap Ok c.in-Ok-Continue.field-0-is in
    let call = called g.F.FnMut c.f.ensures told in
    let before = c.visiting.invariant in
    record {
      walk = walked.walk;
      calls = up_to-next g.F.FnMut ByView (Ok Continue) _ _ same before.calls (_, call, (key, refl));
      counted = counted-next _ before.counted walked.entered walked.counted;
      goes = goes-next g.F.FnMut ByView _ _ _ _ _ before.goes comes walked.entered walked.one
          c.in-Ok-Some-Some.value some _ walked.each (_, call, (key, refl));
    }

pub returns-in-Ok-Stop : goal.returns-in-Ok-Stop
returns-in-Ok-Stop g c =
    let key = c.view_of.ensures ∙ ap concat c.key_path.ensures in
    let walked = c.in-Ok-Some-Some.ensures in
    let comes = rw c.in-Ok-Some-Some.field-0-is at walked.steps in
    let some = c.in-Ok-Some-Some.field-0-0-is in
    let same = rw some at comes.pairs in
    let told = c.in-Ok-Stop.is ∙ ap Ok c.in-Ok-Stop.field-0-is in
    let call = called g.F.FnMut c.f.ensures told in
    let before = c.visiting.invariant in
    record {
      visits =
          (Stop, visit_up_to-next g.F.FnMut ByView _ _ same before.calls (_, call, (key, refl)));
      counted = counted-end before.counted walked.counted;
      ends = inr (ends-up_to g.F.FnMut ByView (goes-end g.F.FnMut ByView _ _ _ _ _ before.goes comes
          walked.entered walked.one c.in-Ok-Some-Some.value some _ walked.each
          (_, call, (key, refl))));
    }

pub returns-in-Err-f : goal.returns-in-Err-f
returns-in-Err-f g c =
    let key = c.view_of.ensures ∙ ap concat c.key_path.ensures in
    let walked = c.in-Ok-Some-Some.ensures in
    let comes = rw c.in-Ok-Some-Some.field-0-is at walked.steps in
    let some = c.in-Ok-Some-Some.field-0-0-is in
    let same = rw some at comes.pairs in
    let call = called g.F.FnMut c.f.ensures c.in-Err-f.is in
    let before = c.visiting.invariant in
    record {
      visits = visit_up_to-next g.F.FnMut ByView _ _ same before.calls (_, call, (key, refl));
      counted = counted-end before.counted walked.counted;
      ends = ends-up_to g.F.FnMut ByView (goes-end g.F.FnMut ByView _ _ _ _ _ before.goes comes
          walked.entered walked.one c.in-Ok-Some-Some.value some _ walked.each
          (_, call, (key, refl)));
    }

pub returns-in-Ok-None-clause-visits : goal.returns-in-Ok-None-clause-visits
returns-in-Ok-None-clause-visits g c =
    let over = rw c.in-Ok-None.field-0-is at c.in-Ok-None.ensures.steps in
    (Continue, up_to-over g.F.FnMut ByView (Ok Continue) over.0 c.visiting.invariant.calls)

pub returns-in-Ok-None-clause-ends : goal.returns-in-Ok-None-clause-ends
returns-in-Ok-None-clause-ends g c =
    let over = rw c.in-Ok-None.field-0-is at c.in-Ok-None.ensures.steps in
    let one = c.in-Ok-None.ensures.one.entered_grows in
    let through = goes-over g.F.FnMut ByView _ _ _ _ _ c.visiting.invariant.goes over.0 in
    let each = through.1 in
    inl (through.0, omega (arith, each, one))

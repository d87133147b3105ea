use Rattle.std.proofs.Common.{[], Ok, refl, ap, ◌∙◌}
use Rattle.std.specs.List.{concat}
use Rattle.std.proofs.lemmas.Fn.{called}
use Rattle.rart_below.specs.declared.visit.VisitControl.TheVariants.{Continue}
use Rattle.rart_maps.specs.Visits.{ByViewPair}
use Rattle.rart_maps.proofs.VisitLemmas.{up_to-start}
use Rattle.rart_lockstep.proofs.views.ViewsPathEndedIntersectionPath.meet.Goals as goal

pub returns-in-Ok-Continue-clause-visits : goal.returns-in-Ok-Continue-clause-visits
returns-in-Ok-Continue-clause-visits g c = λ segments holds.
    let key = c.new-key.ensures ∙ ap concat (c.segments.ensures ∙ holds) in
    let call = called g.F.FnMut c.f.ensures
    (c.in-Ok-Continue.is ∙ ap Ok c.in-Ok-Continue.field-0-is) in
    (_, (_, call, (key, refl, refl)), refl)

pub returns-in-Ok-Stop-clause-visits : goal.returns-in-Ok-Stop-clause-visits
returns-in-Ok-Stop-clause-visits g c = λ segments holds.
    let key = c.new-key.ensures ∙ ap concat (c.segments.ensures ∙ holds) in
    let call = called g.F.FnMut c.f.ensures
    (c.in-Ok-Stop.is ∙ ap Ok c.in-Ok-Stop.field-0-is) in (
      _,
      [],
      _,
      up_to-start g.F.FnMut ByViewPair (Ok Continue) c.args.f.now _,
      (_, call, (key, refl, refl)),
    )

pub returns-in-Err-clause-visits : goal.returns-in-Err-clause-visits
returns-in-Err-clause-visits g c = λ segments holds.
    let key = c.new-key.ensures ∙ ap concat (c.segments.ensures ∙ holds) in
    let call = called g.F.FnMut c.f.ensures c.in-Err.is in (
      _,
      [],
      _,
      up_to-start g.F.FnMut ByViewPair (Ok Continue) c.args.f.now _,
      (_, call, (key, refl, refl)),
    )

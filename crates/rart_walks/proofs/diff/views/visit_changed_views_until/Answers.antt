use Rattle.std.proofs.Common.{Ok, Err, [], inl, inr, length, arith, refl, ap, sym, subst, ◌∙◌}
use Rattle.std.specs.Option.{option_copied}
use Rattle.rart_below.specs.declared.visit.VisitControl.TheVariants.{Continue, Stop}
use Rattle.rart_maps.specs.ChangeVisits.{ByViewChange}
use Rattle.rart_maps.specs.Visits.{CallableOn, CalledOn}
use Rattle.rart_maps.proofs.VisitLemmas.{callable-next, up_to-over, up_to-next, visit_up_to-next}
use Rattle.rart_walks.proofs.CountedLemmas.{counted-start, counted-next}
use Rattle.rart_walks.proofs.DiffEndLemmas.{ends-on}
use Rattle.rart_walks.proofs.DiffPassLemmas.{gone-still, gone-through, come-through}
use Rattle.rart_walks.proofs.diff.views.visit_changed_views_until.Goals as goal

pub show-requires : goal.show-requires
show-requires g c =
    let gives = rw c.in-Ok-Some.field-0-is at c.in-Ok-Some.ensures.gives in
    let values = c.in-Ok-Some.values in
    let calls = c.visiting.invariant.calls in
    subst (λ key. CallableOn g.F.FnMut ByViewChange c.visiting.f
    (key, option_copied values.0, option_copied values.1)) (sym c.key.ensures)
    (callable-next g.F.FnMut ByViewChange (Ok Continue) _ _ gives c.requires.visitable calls)

pub visiting-preserved : goal.visiting-preserved
visiting-preserved g c =
    let gives = rw c.in-Ok-Some.field-0-is at c.in-Ok-Some.ensures.gives in
    let values = c.in-Ok-Some.values in
    let before = c.visiting.invariant in
    let next = c.in-Ok-Some.ensures in
    let come = rw c.in-Ok-Some.field-0-is at c.in-Ok-Some.ensures.come in
    let told = c.in-Ok-Continue.is ∙ ap Ok c.in-Ok-Continue.field-0-is in
    let answered = subst (λ answer. CalledOn g.F.FnMut ByViewChange c.visiting.f
    (c.key.result.now, option_copied values.0, option_copied values.1) answer c.show.new.f)
    told c.show.ensures in
    let called = subst (λ key. CalledOn g.F.FnMut ByViewChange c.visiting.f
    (key, option_copied values.0, option_copied values.1) (Ok Continue) c.show.new.f)
    c.key.ensures answered in
    record {
      walk = next.walk;
      calls = up_to-next g.F.FnMut ByViewChange (Ok Continue) _ _ gives before.calls called;
      counted = counted-next _ before.counted next.exact next.counted;
      gone = gone-through before.gone come.0;
      each =
          let so_far = before.each in
          let more = rw c.in-Ok-Some.field-0-is at c.in-Ok-Some.ensures.each in
          let one = ap length gives in
          omega (arith, so_far, more, one);
    }

pub returns-in-Ok-Stop-clause-visits : goal.returns-in-Ok-Stop-clause-visits
returns-in-Ok-Stop-clause-visits g c =
    let gives = rw c.in-Ok-Some.field-0-is at c.in-Ok-Some.ensures.gives in
    let values = c.in-Ok-Some.values in
    let told = c.in-Ok-Stop.is ∙ ap Ok c.in-Ok-Stop.field-0-is in
    let answered = subst (λ answer. CalledOn g.F.FnMut ByViewChange c.visiting.f
    (c.key.result.now, option_copied values.0, option_copied values.1) answer c.show.new.f)
    told c.show.ensures in
    let called = subst (λ key. CalledOn g.F.FnMut ByViewChange c.visiting.f
    (key, option_copied values.0, option_copied values.1) (Ok Stop) c.show.new.f)
    c.key.ensures answered in
    (Stop, visit_up_to-next g.F.FnMut ByViewChange _ _ gives c.visiting.invariant.calls called)

pub returns-in-Ok-Stop-clause-ends : goal.returns-in-Ok-Stop-clause-ends
returns-in-Ok-Stop-clause-ends g c =
    let values = c.in-Ok-Some.values in
    let gives = rw c.in-Ok-Some.field-0-is at c.in-Ok-Some.ensures.gives in
    let come = rw c.in-Ok-Some.field-0-is at c.in-Ok-Some.ensures.come in
    let more = rw c.in-Ok-Some.field-0-is at c.in-Ok-Some.ensures.each in
    let before = c.visiting.invariant in
    let next = c.in-Ok-Some.ensures in
    let told = c.in-Ok-Stop.is ∙ ap Ok c.in-Ok-Stop.field-0-is in
    let answered = subst (λ answer. CalledOn g.F.FnMut ByViewChange c.visiting.f
    (c.key.result.now, option_copied values.0, option_copied values.1) answer c.show.new.f)
    told c.show.ensures in
    let called = subst (λ key. CalledOn g.F.FnMut ByViewChange c.visiting.f
    (key, option_copied values.0, option_copied values.1) (Ok Stop) c.show.new.f)
    c.key.ensures answered in
    let one = ap length gives in
    let so_far = before.each in
    let made = c.new-changes.ensures in
    inr (ends-on g.V.PartialEq.eq c.args.old c.args.new c.new-changes.result made.before made.after
    g.F.FnMut ByViewChange _ _ _ _ _ c.next.new.self c.args.work.now c.next.new.work before.calls
    gives called
    (counted-next _ before.counted next.exact next.counted)
    (come-through before.walk before.gone come.1)
    (omega (arith, so_far, more, one)))

pub returns-in-Err-show-clause-ends : goal.returns-in-Err-show-clause-ends
returns-in-Err-show-clause-ends g c =
    let values = c.in-Ok-Some.values in
    let gives = rw c.in-Ok-Some.field-0-is at c.in-Ok-Some.ensures.gives in
    let come = rw c.in-Ok-Some.field-0-is at c.in-Ok-Some.ensures.come in
    let more = rw c.in-Ok-Some.field-0-is at c.in-Ok-Some.ensures.each in
    let before = c.visiting.invariant in
    let next = c.in-Ok-Some.ensures in
    let told = c.in-Err-show.is in
    let answered = subst (λ answer. CalledOn g.F.FnMut ByViewChange c.visiting.f
    (c.key.result.now, option_copied values.0, option_copied values.1) answer c.show.new.f)
    told c.show.ensures in
    let called = subst (λ key. CalledOn g.F.FnMut ByViewChange c.visiting.f
    (key, option_copied values.0, option_copied values.1) (Err c.in-Err-show.error) c.show.new.f)
    c.key.ensures answered in
    let one = ap length gives in
    let so_far = before.each in
    let made = c.new-changes.ensures in
    ends-on g.V.PartialEq.eq c.args.old c.args.new c.new-changes.result made.before made.after
    g.F.FnMut ByViewChange _ _ _ _ _ c.next.new.self c.args.work.now c.next.new.work before.calls
    gives called
    (counted-next _ before.counted next.exact next.counted)
    (come-through before.walk before.gone come.1)
    (omega (arith, so_far, more, one))

pub visiting-init : goal.visiting-init
visiting-init g c =
    let made = c.new-changes.ensures in
    record {
      walk = made.walk;
      calls = ([], sym made.changes, refl);
      counted = counted-start c.args.work.now made.nodes;
      gone = gone-still _;
      each = let all = ap length made.changes in omega (arith, all);
    }

pub returns-in-Ok-None-clause-ends : goal.returns-in-Ok-None-clause-ends
returns-in-Ok-None-clause-ends g c =
    let gives = rw c.in-Ok-None.field-0-is at c.in-Ok-None.ensures.gives in
    let before = c.visiting.invariant in
    let next = c.in-Ok-None.ensures in
    let counted = counted-next _ before.counted next.exact next.counted in
    let nodes = counted.same in
    let over = gives.1 in
    inl (
      up_to-over g.F.FnMut ByViewChange (Ok Continue) gives.0 before.calls,
      omega (arith, nodes, over),
    )

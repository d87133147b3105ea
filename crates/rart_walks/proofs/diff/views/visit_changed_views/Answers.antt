use Rattle.std.proofs.Common.{rules, [], refl, sym, subst}
use Rattle.std.specs.Option.{option_copied}
use Rattle.rart_maps.specs.ChangeVisits.{ByViewChange}
use Rattle.rart_maps.specs.Visits.{CallableOn, CalledOn}
use Rattle.rart_maps.proofs.VisitLemmas.{callable-next, up_to-next}
use Rattle.rart_walks.proofs.CountedLemmas.{counted-next}
use Rattle.rart_walks.proofs.diff.views.visit_changed_views.Goals as goal

pub visiting-init : goal.visiting-init
visiting-init g c =
    record {
      walk = c.new-changes.ensures.walk;
      calls = ([], sym c.new-changes.ensures.changes, refl);
      counted = search rules;
    }

pub show-requires : goal.show-requires
show-requires g c =
    let gives = rw c.in-Some.is at c.in_ok-before.ensures.gives in
    let calls = c.visiting.invariant.calls in
    subst (λ key. CallableOn g.F.FnMut ByViewChange c.visiting.f
    (key, option_copied c.in-Some.before, option_copied c.in-Some.after)) (sym c.key.ensures)
    (callable-next g.F.FnMut ByViewChange tt _ _ gives c.requires.visitable calls)

pub visiting-preserved : goal.visiting-preserved
visiting-preserved g c =
    let gives = rw c.in-Some.is at c.in_ok-before.ensures.gives in
    let before = c.visiting.invariant in
    let next = c.in_ok-before.ensures in
    let called = subst (λ key. CalledOn g.F.FnMut ByViewChange c.visiting.f
    (key, option_copied c.in-Some.before, option_copied c.in-Some.after) tt c.show.new.f)
    c.key.ensures c.show.ensures in
    record {
      walk = next.walk;
      calls = up_to-next g.F.FnMut ByViewChange tt _ _ gives before.calls called;
      counted = counted-next _ before.counted next.exact next.counted;
    }

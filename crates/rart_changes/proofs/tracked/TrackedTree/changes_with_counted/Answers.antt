use Rattle.std.proofs.Common.{◌+◌, ◌≤◌, arith, sym, ap, subst, ◌∙◌}
use Rattle.std.specs.FinMap as finite
use Rattle.rart_maps.specs.Visits.{CallableInTurn, Visit}
use Rattle.rart_maps.proofs.VisitLemmas.{up_to-start, visits-refused}
use Rattle.rart_maps.specs.ChangeLists.{changes}
use Rattle.rart_changes.specs.ChangeVisits.{changes_at, changes_least}
use Rattle.rart_maps.specs.ChangeVisits.{ByKeyChange}
use Rattle.rart_changes.proofs.ChangesAtLemmas.{changes-at-touched}
use Rattle.rart_changes.proofs.RebaseLemmas.{keys-counted}
use Rattle.rart_changes.proofs.ShowLemmas.{counted-each}
use Rattle.rart_changes.proofs.tracked.TrackedTree.changes_with_counted.Goals as goal

pub returns-in_err-keys-clause-visits : goal.returns-in_err-keys-clause-visits
returns-in_err-keys-clause-visits g c =
    let Shows = ByKeyChange {V = g.row.V.Denot} g.K.KeyTrait.bytes in
    visits-refused g.F.FnMut Shows c.from_residual.result c.from_residual.ensures.0
    (_, up_to-start g.F.FnMut Shows tt c.args.f.now _)

pub show_changes-requires : goal.show_changes-requires
show_changes-requires g c =
    let Shows = ByKeyChange {V = g.row.V.Denot} g.K.KeyTrait.bytes in
    let same = g.V.PartialEq.eq in
    let inside = c.self.inside in
    let all = ap (changes_at same inside.base.content inside.current.content)
    c.in_ok-keys.ensures.keys
    ∙ changes-at-touched same g.met.V.Eq.laws.refl inside.base.content inside.current.content
    inside.touched.content c.self.invariant.tracked
    ∙ ap (λ t. changes same t.base.content t.current.content) c.self.view_is in
    subst (CallableInTurn g.F.FnMut Shows tt c.args.f.now) (sym all) c.requires

pub returns-clause-visits : goal.returns-clause-visits
returns-clause-visits g c =
    let Shows = ByKeyChange {V = g.row.V.Denot} g.K.KeyTrait.bytes in
    let same = g.V.PartialEq.eq in
    let inside = c.self.inside in
    let all = ap (changes_at same inside.base.content inside.current.content)
    c.in_ok-keys.ensures.keys
    ∙ changes-at-touched same g.met.V.Eq.laws.refl inside.base.content inside.current.content
    inside.touched.content c.self.invariant.tracked
    ∙ ap (λ t. changes same t.base.content t.current.content) c.self.view_is in
    subst (λ cs. Visit g.F.FnMut Shows c.args.f.now cs c.show_changes.new.f) all
    c.show_changes.ensures.visits

pub returns-clause-each : goal.returns-clause-each
returns-clause-each g c =
    let inside = c.self.inside in
    let touched = inside.touched.content in
    let listed = c.in_ok-keys.ensures.each in
    let shown = c.show_changes.ensures.each in
    let many = keys-counted g.K.KeyTrait.bytes c.in_ok-keys.keys.items touched
    c.in_ok-keys.ensures.keys in
    subst (λ t. c.args.work.now.entered + changes_least t ≤ c.show_changes.new.work.entered) c.self.view_is
    (counted-each (finite.len touched) _ _ _ _ _ (omega arith) listed (rw many at shown))

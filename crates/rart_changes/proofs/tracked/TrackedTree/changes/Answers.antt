use Rattle.std.proofs.Common.{◌≡◌, map, ap, subst, ◌∙◌}
use Rattle.std.specs.Prelude.{IfOk}
use Rattle.rart_maps.specs.ChangeLists.{changes}
use Rattle.rart_changes.specs.ChangeVisits.{changes_at}
use Rattle.rart_changes.specs.Shown.{shown_change}
use Rattle.rart_changes.proofs.ChangesAtLemmas.{changes-at-touched}
use Rattle.rart_changes.proofs.tracked.TrackedTree.changes.Goals as goal

pub returns : goal.returns
returns g c =
    let same = g.V.PartialEq.eq in
    let inside = c.self.inside in
    let all = ap (changes_at same inside.base.content inside.current.content)
    c.in_ok-keys.ensures.keys
    ∙ changes-at-touched same g.met.V.Eq.laws.refl inside.base.content inside.current.content
    inside.touched.content c.self.invariant.tracked
    ∙ ap (λ t. changes same t.base.content t.current.content) c.self.view_is in
    subst (λ cs. IfOk c.changes_of.result (λ list.
    map (shown_change {V = g.row.V.Denot} g.K.KeyTrait.bytes) list.items ≡ cs)) all
    c.changes_of.ensures

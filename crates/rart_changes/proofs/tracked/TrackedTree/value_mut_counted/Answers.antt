use Rattle.std.proofs.Common.{◌≡◌, sym, ap, subst, ◌∙◌}
use Rattle.std.proofs.lemmas.Result.{IfOk-weaker, IfErr-weaker}
use Rattle.rart_maps.specs.Versions.{has_key, has_no_key, value_at}
use Rattle.rart_versioned.proofs.LendingLemmas.{same-ends, at-ok}
use Rattle.rart_versioned.specs.Missing.{Explains}
use Rattle.rart_changes.specs.Tracking.{Tracking}
use Rattle.rart_changes.proofs.TrackedLendingLemmas.{keeps-lent, keeps-unlent, lent-view, unlent-view}
use Rattle.rart_changes.proofs.tracked.TrackedTree.value_mut_counted.Goals as goal

pub invariant_of-self-lent : goal.invariant_of-self-lent
invariant_of-self-lent g c =
    let w = g.K.KeyTrait.bytes c.args.key.now in
    let told = c.lend_in.ensures in
    λ result. (
      (λ value. keeps-lent w c.lend_in.result value c.self.invariant told.marked told.kept
          (c.lend_in.follows.holds value)),
      keeps-unlent w c.lend_in.result (λ value. value.now) c.self.invariant told.marked told.value
          told.kept c.lend_in.follows.holds-at-none,
    )

pub returns : goal.returns
returns g c =
    let w = g.K.KeyTrait.bytes c.args.key.now in
    let seen = c.args.self.now in
    let told = c.lend_in.ensures in
    let touched = c.self.inside.touched in
    let marked = c.lend_in.new.touched in
    let here : value_at seen.current w ≡ value_at c.self.inside.current w =
    ap (λ (t : Tracking g.row.V.Denot). value_at t.current w) (sym c.self.view_is) in (
      same-ends _ c.lend_in.result _ _ _ _
          (λ ok value. lent-view touched marked seen c.self.view_is w value
          ((c.lend_in.follows.holds value).0 ok) (at-ok c.lend_in.result ok told.marked).keys)
          (unlent-view touched marked seen c.self.view_is c.lend_in.result told.kept
          c.lend_in.follows.holds-at-none),
      record {
        writes_back = tt;
        value = IfOk-weaker c.lend_in.result _ _ (λ value is. here ∙ is) told.value;
        missing =
            IfErr-weaker c.lend_in.result _ _
            (λ missing explains. subst (Explains missing) (sym here) explains) told.missing;
        counted = told.counted;
        absent =
            λ absent. told.absent
            (ap (λ (t : Tracking g.row.V.Denot). has_key t.current w) c.self.view_is ∙ absent);
        entered =
            λ keyed. told.entered
            (ap (λ (t : Tracking g.row.V.Denot). has_no_key t.current) c.self.view_is ∙ keyed);
      },
    )

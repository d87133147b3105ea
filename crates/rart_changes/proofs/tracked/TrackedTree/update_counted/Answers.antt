use Rattle.std.proofs.Common.{◌≡◌, Ok, false, true, sym, ap, ◌∙◌, is_some, refl}
use Rattle.std.specs.declared.alloc.AllocError.{AllocError}
use Rattle.rart_maps.specs.Changes.{slot_of}
use Rattle.rart_maps.specs.Versions.{has_key, value_at}
use Rattle.rart_changes.specs.Tracking.{Tracking}
use Rattle.rart_versioned.proofs.SlotChangeLemmas.{asked-memory, none, tells, updates-absent}
use Rattle.rart_versioned.proofs.UpdateLookupLemmas.{update-sets}
use Rattle.rart_changes.proofs.TrackingLemmas.{copied-some}
use Rattle.rart_changes.proofs.UpdateLemmas.{keeps-update, same-update, there-answers}
use Rattle.rart_changes.proofs.tracked.TrackedTree.update_counted.Goals as goal

pub returns-then-is_none-clause-updates : goal.returns-then-is_none-clause-updates
returns-then-is_none-clause-updates g c =
    let v = c.args.self.now.current in
    let w = g.K.KeyTrait.bytes c.args.key.now in
    let absent : has_key v w ≡ false =
    ap (λ (t : Tracking g.row.V.Denot). has_key t.current w) (sym c.self.view_is)
    ∙ sym (ap is_some c.get_k_counted.ensures.value)
    ∙ sym (copied-some c.get_k_counted.result) ∙ c.if-is_none.ensures in
    let tell = tells g.F.FnOnce c.args.f v w _ _ _
    (sym (ap slot_of (none v w absent (value_at v w) refl))) c.f-told.ensures in
    updates-absent g.F.FnOnce c.args.f v w _ _ c.settle_absent.result tell _ absent
    c.settle_absent.ensures.done

pub returns-then-is_none-clause-lookups : goal.returns-then-is_none-clause-lookups
returns-then-is_none-clause-lookups g c =
    let v = c.args.self.now.current in
    let w = g.K.KeyTrait.bytes c.args.key.now in
    let absent : has_key v w ≡ false =
    ap (λ (t : Tracking g.row.V.Denot). has_key t.current w) (sym c.self.view_is)
    ∙ sym (ap is_some c.get_k_counted.ensures.value)
    ∙ sym (copied-some c.get_k_counted.result) ∙ c.if-is_none.ensures in
    let tell = tells g.F.FnOnce c.args.f v w _ _ _
    (sym (ap slot_of (none v w absent (value_at v w) refl))) c.f-told.ensures in
    update-sets g.F.FnOnce c.args.f v _ w c.settle_absent.result
    (updates-absent g.F.FnOnce c.args.f v w _ _ c.settle_absent.result tell _ absent
    c.settle_absent.ensures.done)

pub returns-then-is_none-clause-memory : goal.returns-then-is_none-clause-memory
returns-then-is_none-clause-memory g c =
    let v = c.args.self.now.current in
    let w = g.K.KeyTrait.bytes c.args.key.now in
    let absent : has_key v w ≡ false =
    ap (λ (t : Tracking g.row.V.Denot). has_key t.current w) (sym c.self.view_is)
    ∙ sym (ap is_some c.get_k_counted.ensures.value)
    ∙ sym (copied-some c.get_k_counted.result) ∙ c.if-is_none.ensures in
    let tell = tells g.F.FnOnce c.args.f v w _ _ _
    (sym (ap slot_of (none v w absent (value_at v w) refl))) c.f-told.ensures in
    asked-memory g.F.FnOnce c.args.f v w _ _ c.settle_absent.result tell
    c.settle_absent.ensures.memory

pub invariant_of-self-2 : goal.invariant_of-self-2
invariant_of-self-2 g c =
    let v = c.self.inside.current in
    let w = g.K.KeyTrait.bytes c.args.key.now in
    let marked = c.in_ok-touched.ensures.marked in
    let updates = c.in_ok-is_there.ensures.updates in
    let there : has_key v w ≡ true = sym (ap is_some c.get_k_counted.ensures.value)
    ∙ sym (copied-some c.get_k_counted.result) ∙ c.if-is_none.ensures in
    keeps-update w c.self.invariant marked.keys marked.counted g.F.FnOnce c.args.f _
    (there-answers g.F.FnOnce c.args.f v _ w _ there updates) updates

pub returns-clause-lookups : goal.returns-clause-lookups
returns-clause-lookups g c =
    let v = c.args.self.now.current in
    let w = g.K.KeyTrait.bytes c.args.key.now in
    update-sets g.F.FnOnce c.args.f {E = AllocError} v c.update_k_counted.new.self w (Ok _)
    (same-update g.F.FnOnce c.args.f c.self.inside.current v c.update_k_counted.new.self w _ _
    (ap (λ (t : Tracking g.row.V.Denot). t.current) c.self.view_is) refl
    c.in_ok-is_there.ensures.updates)

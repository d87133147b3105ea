use Rattle.std.proofs.Common.{[], ◌+◌, ◌∷◌, ◌++◌, length, take, refl, sym, ap, subst, ◌∙◌}
use Rattle.rart_changes.specs.Shown.{shown_change}
use Rattle.rart_saved.specs.ChangeForms.{as_pair, both_written, changes_head}
use Rattle.rart_saved.specs.ChangeLoads.{shown_pairs}
use Rattle.rart_saved.specs.Forms.{entry}
use Rattle.rart_saved.specs.Numbers.{leb}
use Rattle.rart_saved.proofs.ChangeFormLemmas.{changes-written, taken-next}
use Rattle.rart_saved.proofs.EntryLemmas.{IsListed, entry-shown, listed-none, listed-next}
use Rattle.rart_saved.proofs.changes.saving.save_changes_slice.Goals as goal

pub listing-init : goal.listing-init
listing-init g c =
    listed-none (both_written g.V.SavedValue.written)
    (changes_head g.V.SavedValue.KIND ++ leb (length c.args.list.now)) _ _ _
    (c.in_ok-put_number.ensures
    ∙ ap (λ bytes. bytes ++ leb (length c.args.list.now))
    (c.in_ok-extend_from_slice.ensures.items
    ∙ (λ i. c.new-bytes.ensures.items i
    ++ (c.changes_head_of.ensures ∙ ap changes_head c.KIND.ensures) i)))
    c.new-before.ensures.items refl

pub listing-preserved : goal.listing-preserved
listing-preserved g c =
    let bytes = g.K.KeyTrait.bytes in
    let written = both_written g.V.SavedValue.written in
    let list = c.args.list.now in
    let start = changes_head g.V.SavedValue.KIND ++ leb (length list) in
    let change = c.change-item.result in
    subst (λ all. IsListed written start c.put_entry.new.out.items c.put_entry.new.before.items
    (c.listing.change-index + 1) all)
    (ap (λ change. shown_pairs bytes (take c.listing.change-index list)
    ++ as_pair (shown_change bytes change) ∷ []) c.change-item.is
    ∙ sym (taken-next bytes list c.listing.change-index change c.listing-test.true))
    (listed-next written start _ _ _ _ _ _ (shown_pairs bytes (take c.listing.change-index list))
    (bytes change.key) (change.before, change.after) c.listing.invariant
    (c.in_ok-put_entry.ensures.written
    ∙ ap (λ form. c.listing.bytes.items ++ form)
    (entry-shown (λ values. (values.0.now, values.1.now)) written _ _ _
    ∙ ap (λ k. entry written c.listing.before.items (k, (change.before, change.after)))
    c.as_ref.ensures))
    (c.in_ok-put_entry.ensures.before ∙ c.as_ref.ensures) refl)

pub returns : goal.returns
returns g c =
    changes-written g.K.KeyTrait.bytes g.V.SavedValue.written g.V.SavedValue.KIND
    c.listing.change-index c.args.list.now c.listing.bytes.items c.listing.before.items
    c.put_sum.new.self.items c.listing.change-index c.listing.invariant c.listing-test.false
    (c.in_ok-put_sum.ensures c.listing.bytes c.listing.bytes.items refl)

use Rattle.std.proofs.Common.{◌≢◌, ◌++◌, ℕ, List, length, map, subst, sym, ap, ◌∙◌, arith}
use Rattle.std.proofs.lemmas.List.{length-map}
use Rattle.rart_changes.specs.Shown.{shown_change}
use Rattle.rart_saved.specs.ChangeForms.{as_pair, both_written, changes_head}
use Rattle.rart_saved.specs.ChangeLoads.{LacksChanges, shown_pairs}
use Rattle.rart_saved.specs.Parts.{HasPart}
use Rattle.rart_saved.proofs.ChangeFormLemmas.{both-apart, changes-begin, changes-closed, lacks-listed}
use Rattle.rart_saved.proofs.ListedLemmas.{closed-all, closed-counted, closed-read, closed-started}
use Rattle.rart_saved.proofs.LoadLemmas.{other_passed}
use Rattle.rart_saved.proofs.BytePartLemmas.{other_error}
use Rattle.rart_saved.proofs.changes.loading.read_changes.Goals as goal

pub returns-in_err-at-clause-refused : goal.returns-in_err-at-clause-refused
returns-in_err-at-clause-refused g c =
    let written = g.V.SavedValue.written in
    let kind = g.V.SavedValue.KIND in
    other_error _ (LacksChanges written kind g.K.KeyTrait.MAXIMUM_SIZE c.args.bytes.now)
    (λ list is stands. subst (λ h. (rest : List ℕ) → c.args.bytes.now ≢ h ++ rest)
    (c.changes_head_of.ensures ∙ ap changes_head c.KIND.ensures) c.in_err-at.ensures.refused _
    (stands ∙ changes-begin written kind list))

pub returns-in_err-count-clause-refused : goal.returns-in_err-count-clause-refused
returns-in_err-count-clause-refused g c =
    let written = g.V.SavedValue.written in
    let kind = g.V.SavedValue.KIND in
    let heads = subst (λ h. HasPart c.args.bytes.now 0 h c.in_ok-at.at)
    (c.changes_head_of.ensures ∙ ap changes_head c.KIND.ensures) c.in_ok-at.ensures.read in
    other_error _ (LacksChanges written kind g.K.KeyTrait.MAXIMUM_SIZE c.args.bytes.now)
    (λ list is stands. c.in_err-count.ensures.refused (length (map as_pair list)) _
    (omega (arith, is.fits, length-map list as_pair))
    (closed-started (both_written written) (changes_head kind) (map as_pair list)
    c.args.bytes.now (stands ∙ changes-closed written kind list) c.in_ok-at.at heads))

pub returns-in_err-list-clause-refused : goal.returns-in_err-list-clause-refused
returns-in_err-list-clause-refused g c =
    let written = g.V.SavedValue.written in
    let kind = g.V.SavedValue.KIND in
    let heads = subst (λ h. HasPart c.args.bytes.now 0 h c.in_ok-at.at)
    (c.changes_head_of.ensures ∙ ap changes_head c.KIND.ensures) c.in_ok-at.ensures.read in
    other_passed _ c.in_err-list.field-0.0
    (LacksChanges written kind g.K.KeyTrait.MAXIMUM_SIZE c.args.bytes.now)
    c.from_residual-in_err-list.ensures.1
    (λ other list is stands.
    let opened =
    closed-counted (both_written written) (changes_head kind) (map as_pair list)
    c.args.bytes.now (stands ∙ changes-closed written kind list) c.in_ok-at.at
    c.in_ok-count.from c.in_ok-count.count heads c.in_ok-count.ensures.read in
    lacks-listed written kind g.K.KeyTrait.MAXIMUM_SIZE list c.in_ok-count.count _ _
    (c.in_err-list.ensures.refused other) is (opened.0 ∙ length-map list as_pair) opened.1)

pub returns-in_err-check_sum-clause-refused : goal.returns-in_err-check_sum-clause-refused
returns-in_err-check_sum-clause-refused g c =
    let written = g.V.SavedValue.written in
    let kind = g.V.SavedValue.KIND in
    let heads = subst (λ h. HasPart c.args.bytes.now 0 h c.in_ok-at.at)
    (c.changes_head_of.ensures ∙ ap changes_head c.KIND.ensures) c.in_ok-at.ensures.read in
    other_error _ (LacksChanges written kind g.K.KeyTrait.MAXIMUM_SIZE c.args.bytes.now)
    (λ list is stands. c.in_err-check_sum.ensures.refused
    (closed-all (both_written written) (changes_head kind) (map as_pair list) c.args.bytes.now
    (stands ∙ changes-closed written kind list)
    (both-apart written g.met.V.SavedValue.apart) c.in_ok-at.at c.in_ok-count.from
    c.in_ok-list.end c.in_ok-count.count
    (shown_pairs g.K.KeyTrait.bytes c.in_ok-list.list.items) heads c.in_ok-count.ensures.read
    c.in_ok-list.ensures.read c.in_ok-list.ensures.count))

pub returns-clause-read : goal.returns-clause-read
returns-clause-read g c =
    let written = g.V.SavedValue.written in
    let kind = g.V.SavedValue.KIND in
    let heads = subst (λ h. HasPart c.args.bytes.now 0 h c.in_ok-at.at)
    (c.changes_head_of.ensures ∙ ap changes_head c.KIND.ensures) c.in_ok-at.ensures.read in
    closed-read (both_written written) (changes_head kind)
    (shown_pairs g.K.KeyTrait.bytes c.in_ok-list.list.items) c.args.bytes.now c.in_ok-at.at
    c.in_ok-count.from c.in_ok-list.end c.in_ok-count.count heads c.in_ok-count.ensures.read
    c.in_ok-list.ensures.read c.in_ok-list.ensures.count c.in_ok-check_sum.ensures.read
    ∙ sym (changes-closed written kind
    (map (shown_change {V = g.row.V.Denot} g.K.KeyTrait.bytes) c.in_ok-list.list.items))

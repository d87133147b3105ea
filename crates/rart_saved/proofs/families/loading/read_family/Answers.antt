use Rattle.std.proofs.Common.{◌≢◌, ◌++◌, ◌<◌, ◌^◌, ℕ, List, [], length, subst, sym, ap, ◌∙◌, append-nil, rules}
use Rattle.rart_saved.specs.FamilyForms.{family_head, saved_family}
use Rattle.rart_saved.specs.FamilyLoads.{HasVersionsWithin, LacksFamily}
use Rattle.rart_saved.specs.Parts.{HasPart}
use Rattle.rart_saved.proofs.FamilyFormLemmas.{saved_family-then}
use Rattle.rart_saved.proofs.LimitLemmas.{within_each, within_passed}
use Rattle.rart_saved.proofs.FamilyReadLemmas.{family-read, few-places, opened-family, opened-places, opened-sum}
use Rattle.rart_saved.proofs.families.loading.read_family.Goals as goal

pub returns-in_err-at-clause-refused : goal.returns-in_err-at-clause-refused
returns-in_err-at-clause-refused g c =
    let written = g.V.SavedValue.written in
    let same = g.V.PartialEq.eq in
    let kind = g.V.SavedValue.KIND in
    within_each c.args.longest g.K.KeyTrait.MAXIMUM_SIZE _
    (λ most. LacksFamily written same most kind c.args.bytes.now)
    (λ most family is stands. subst (λ h. (rest : List ℕ) → c.args.bytes.now ≢ h ++ rest)
    (c.family_head_of.ensures ∙ ap family_head c.KIND.ensures) c.in_err-at.ensures.refused _
    (stands ∙ sym (append-nil (saved_family written same kind family))
    ∙ saved_family-then written same kind family []))

pub returns-in_err-count-clause-refused : goal.returns-in_err-count-clause-refused
returns-in_err-count-clause-refused g c =
    let written = g.V.SavedValue.written in
    let same = g.V.PartialEq.eq in
    let kind = g.V.SavedValue.KIND in
    let fits : length c.args.bytes.now < 2 ^ 64 = search rules in
    let heads = subst (λ h. HasPart c.args.bytes.now 0 h c.in_ok-at.at)
    (c.family_head_of.ensures ∙ ap family_head c.KIND.ensures) c.in_ok-at.ensures.read in
    within_each c.args.longest g.K.KeyTrait.MAXIMUM_SIZE _
    (λ most. LacksFamily written same most kind c.args.bytes.now)
    (λ most family is stands. c.in_err-count.ensures.refused (length family) _
    (few-places written same kind c.args.bytes.now family stands c.in_ok-at.at heads fits)
    (opened-family written same kind c.args.bytes.now family stands c.in_ok-at.at heads))

pub returns-in_err-versions-clause-refused : goal.returns-in_err-versions-clause-refused
returns-in_err-versions-clause-refused g c =
    let written = g.V.SavedValue.written in
    let same = g.V.PartialEq.eq in
    let kind = g.V.SavedValue.KIND in
    let heads = subst (λ h. HasPart c.args.bytes.now 0 h c.in_ok-at.at)
    (c.family_head_of.ensures ∙ ap family_head c.KIND.ensures) c.in_ok-at.ensures.read in
    within_passed c.args.longest g.K.KeyTrait.MAXIMUM_SIZE _ c.in_err-versions.field-0.0
    (λ most. LacksFamily written same most kind c.args.bytes.now)
    c.from_residual-in_err-versions.ensures.1
    (λ other family is stands.
    let opened =
    opened-places written same kind c.args.bytes.now family stands c.in_ok-at.at
    c.in_ok-count.from c.in_ok-count.count heads c.in_ok-count.ensures.read in
    c.in_err-versions.ensures.refused other family _ opened.0 is opened.1)

pub returns-in_err-check_sum-clause-refused : goal.returns-in_err-check_sum-clause-refused
returns-in_err-check_sum-clause-refused g c =
    let written = g.V.SavedValue.written in
    let same = g.V.PartialEq.eq in
    let kind = g.V.SavedValue.KIND in
    let heads = subst (λ h. HasPart c.args.bytes.now 0 h c.in_ok-at.at)
    (c.family_head_of.ensures ∙ ap family_head c.KIND.ensures) c.in_ok-at.ensures.read in
    within_each c.args.longest g.K.KeyTrait.MAXIMUM_SIZE _
    (λ most. LacksFamily written same most kind c.args.bytes.now)
    (λ most family is stands. c.in_err-check_sum.ensures.refused
    (opened-sum written same kind c.args.bytes.now family stands g.met.V.SavedValue.apart
    c.requires.decides c.in_ok-at.at c.in_ok-count.from c.in_ok-versions.end
    c.in_ok-count.count c.in_ok-versions.versions.items heads c.in_ok-count.ensures.read
    c.in_ok-versions.ensures.read c.in_ok-versions.ensures.count))

pub returns-clause-read : goal.returns-clause-read
returns-clause-read g c =
    let written = g.V.SavedValue.written in
    let same = g.V.PartialEq.eq in
    let kind = g.V.SavedValue.KIND in
    let heads = subst (λ h. HasPart c.args.bytes.now 0 h c.in_ok-at.at)
    (c.family_head_of.ensures ∙ ap family_head c.KIND.ensures) c.in_ok-at.ensures.read in
    family-read written same kind c.args.bytes.now c.in_ok-at.at c.in_ok-count.from
    c.in_ok-versions.end c.in_ok-count.count c.in_ok-versions.versions.items heads
    c.in_ok-count.ensures.read c.in_ok-versions.ensures.read c.in_ok-versions.ensures.count
    c.in_ok-check_sum.ensures.read
    ∙ ap (saved_family written same kind) (sym c.from_versions.ensures)

pub returns-clause-short : goal.returns-clause-short
returns-clause-short g c =
    subst (HasVersionsWithin c.args.longest) (sym c.from_versions.ensures)
    c.in_ok-versions.ensures.short

use Rattle.std.proofs.Common.{◌≢◌, ◌++◌, ℕ, List, subst, sym, ap, ◌∙◌, arith}
use Rattle.std.specs.FinMap as finite
use Rattle.rart_saved.specs.Forms.{head}
use Rattle.rart_saved.specs.Loads.{LacksVersion}
use Rattle.rart_saved.specs.Parts.{HasPart}
use Rattle.rart_saved.proofs.LimitLemmas.{within_each, within_passed}
use Rattle.rart_saved.proofs.SavedLemmas.{saved-then, saved-read, opened-head, opened-number, opened-count, opened-all}
use Rattle.rart_saved.proofs.loading.read_version.Goals as goal

pub returns-in_err-at-clause-refused : goal.returns-in_err-at-clause-refused
returns-in_err-at-clause-refused g c =
    let written = g.V.SavedValue.written in
    let kind = g.V.SavedValue.KIND in
    within_each c.args.longest g.K.KeyTrait.MAXIMUM_SIZE _
    (λ most. LacksVersion written kind most c.args.bytes.now)
    (λ most v is stands. subst (λ h. (rest : List ℕ) → c.args.bytes.now ≢ h ++ rest)
    (c.head_of.ensures ∙ ap head c.KIND.ensures) c.in_err-at.ensures.refused _
    (stands ∙ saved-then written kind v))

pub returns-in_err-number-clause-refused : goal.returns-in_err-number-clause-refused
returns-in_err-number-clause-refused g c =
    let written = g.V.SavedValue.written in
    let kind = g.V.SavedValue.KIND in
    let heads = subst (λ h. HasPart c.args.bytes.now 0 h c.in_ok-at.at)
    (c.head_of.ensures ∙ ap head c.KIND.ensures) c.in_ok-at.ensures.read in
    within_each c.args.longest g.K.KeyTrait.MAXIMUM_SIZE _
    (λ most. LacksVersion written kind most c.args.bytes.now)
    (λ most v is stands. c.in_err-number.ensures.refused v.number _ is.fits
    (opened-head written kind c.args.bytes.now v stands c.in_ok-at.at heads))

pub returns-in_err-count-clause-refused : goal.returns-in_err-count-clause-refused
returns-in_err-count-clause-refused g c =
    let written = g.V.SavedValue.written in
    let kind = g.V.SavedValue.KIND in
    let heads = subst (λ h. HasPart c.args.bytes.now 0 h c.in_ok-at.at)
    (c.head_of.ensures ∙ ap head c.KIND.ensures) c.in_ok-at.ensures.read in
    within_each c.args.longest g.K.KeyTrait.MAXIMUM_SIZE _
    (λ most. LacksVersion written kind most c.args.bytes.now)
    (λ most v is stands. c.in_err-count.ensures.refused (finite.len v.content) _
    (omega (arith, is.few, is.fits))
    (opened-number written kind c.args.bytes.now v stands c.in_ok-at.at c.in_ok-number.at
    c.in_ok-number.number heads c.in_ok-number.ensures.read).1)

pub returns-then-count-number-clause-refused : goal.returns-then-count-number-clause-refused
returns-then-count-number-clause-refused g c _ v is stands =
    let written = g.V.SavedValue.written in
    let kind = g.V.SavedValue.KIND in
    let heads = subst (λ h. HasPart c.args.bytes.now 0 h c.in_ok-at.at)
    (c.head_of.ensures ∙ ap head c.KIND.ensures) c.in_ok-at.ensures.read in
    omega (
      arith,
      is.few,
      c.if-count-number.true,
      (opened-number written kind c.args.bytes.now v stands c.in_ok-at.at c.in_ok-number.at
          c.in_ok-number.number heads c.in_ok-number.ensures.read).0,
      (opened-count written kind c.args.bytes.now v stands c.in_ok-at.at c.in_ok-number.at
          c.in_ok-count.from c.in_ok-number.number c.in_ok-count.count heads
          c.in_ok-number.ensures.read c.in_ok-count.ensures.read).0,
    )

pub returns-in_err-end-clause-refused : goal.returns-in_err-end-clause-refused
returns-in_err-end-clause-refused g c =
    let written = g.V.SavedValue.written in
    let kind = g.V.SavedValue.KIND in
    let heads = subst (λ h. HasPart c.args.bytes.now 0 h c.in_ok-at.at)
    (c.head_of.ensures ∙ ap head c.KIND.ensures) c.in_ok-at.ensures.read in
    within_passed c.args.longest g.K.KeyTrait.MAXIMUM_SIZE _ c.in_err-end.field-0.0
    (λ most. LacksVersion written kind most c.args.bytes.now)
    c.from_residual-in_err-end.ensures.1
    (λ other v is stands.
    let opened =
    opened-count written kind c.args.bytes.now v stands c.in_ok-at.at c.in_ok-number.at
    c.in_ok-count.from c.in_ok-number.number c.in_ok-count.count heads
    c.in_ok-number.ensures.read c.in_ok-count.ensures.read in
    c.in_err-end.ensures.refused other v.content _ (sym opened.0) is.lengths opened.1)

pub returns-in_err-check_sum-clause-refused : goal.returns-in_err-check_sum-clause-refused
returns-in_err-check_sum-clause-refused g c =
    let written = g.V.SavedValue.written in
    let kind = g.V.SavedValue.KIND in
    let heads = subst (λ h. HasPart c.args.bytes.now 0 h c.in_ok-at.at)
    (c.head_of.ensures ∙ ap head c.KIND.ensures) c.in_ok-at.ensures.read in
    within_each c.args.longest g.K.KeyTrait.MAXIMUM_SIZE _
    (λ most. LacksVersion written kind most c.args.bytes.now)
    (λ most v is stands. c.in_err-check_sum.ensures.refused
    (opened-all written kind c.args.bytes.now v stands g.met.V.SavedValue.apart c.in_ok-at.at
    c.in_ok-number.at c.in_ok-count.from c.in_ok-end.end c.in_ok-number.number
    c.in_ok-count.count c.take_pairs.new.tree heads c.in_ok-number.ensures.read
    c.in_ok-count.ensures.read c.in_ok-end.ensures.read c.in_ok-end.ensures.count))

pub returns-clause-read : goal.returns-clause-read
returns-clause-read g c =
    let heads = subst (λ h. HasPart c.args.bytes.now 0 h c.in_ok-at.at)
    (c.head_of.ensures ∙ ap head c.KIND.ensures) c.in_ok-at.ensures.read in
    saved-read g.V.SavedValue.written g.V.SavedValue.KIND c.in_ok-number.number
    c.in_ok-count.count c.in_ok-at.at c.in_ok-number.at c.in_ok-count.from c.in_ok-end.end
    c.args.bytes.now c.take_pairs.new.tree heads c.in_ok-number.ensures.read
    c.in_ok-count.ensures.read c.in_ok-end.ensures.read
    (omega (
      arith,
      c.in_ok-end.ensures.number,
      ap (λ v. v.number) c.new_at-tree.ensures.empty,
      c.if-count-number.false,
    ))
    c.in_ok-end.ensures.count c.in_ok-check_sum.ensures.read

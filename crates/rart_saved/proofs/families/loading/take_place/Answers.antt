use Rattle.std.proofs.Common.{◌+◌, drop, sym, subst}
use Rattle.rart_maps.specs.Versions.{Version}
use Rattle.rart_saved.specs.FamilyForms.{version_behind}
use Rattle.rart_saved.specs.FamilyLoads.{LacksPlace}
use Rattle.rart_saved.specs.Forms.{IsVersionOf}
use Rattle.rart_saved.specs.Loads.{HasKeysWithin}
use Rattle.rart_saved.specs.Parts.{HasPart}
use Rattle.rart_saved.specs.Refusals.{limit_of}
use Rattle.rart_saved.proofs.LimitLemmas.{within_each, within_passed}
use Rattle.rart_saved.proofs.OptionalLemmas.{lacks-marked, lacks-some, none-read, some-read}
use Rattle.rart_saved.proofs.families.loading.take_place.Goals as goal

pub returns-in_err-is_there-clause-refused : goal.returns-in_err-is_there-clause-refused
returns-in_err-is_there-clause-refused g c =
    let written = g.V.SavedValue.written in
    let same = g.V.PartialEq.eq in
    let old = c.args.latest.now.tree.content in
    within_each c.args.longest g.K.KeyTrait.MAXIMUM_SIZE _
    (λ most. LacksPlace written same most old (drop c.args.at c.args.bytes.now))
    (λ most one rest is. lacks-marked (version_behind written same old) _
    c.in_err-is_there.ensures.refused one rest)

pub returns-then-not-is_there-clause-read : goal.returns-then-not-is_there-clause-read
returns-then-not-is_there-clause-read g c =
    none-read
    (version_behind g.V.SavedValue.written g.V.PartialEq.eq c.args.latest.now.tree.content)
    c.args.bytes.now c.args.at c.in_ok-is_there.is_there c.in_ok-is_there.ensures.read
    c.if-not-is_there.true

pub returns-in_err-end-clause-refused : goal.returns-in_err-end-clause-refused
returns-in_err-end-clause-refused g c =
    let written = g.V.SavedValue.written in
    let same = g.V.PartialEq.eq in
    let old = c.args.latest.now.tree.content in
    within_passed c.args.longest g.K.KeyTrait.MAXIMUM_SIZE _ c.in_err-end.field-0.0
    (λ most. LacksPlace written same most old (drop c.args.at c.args.bytes.now))
    c.from_residual-in_err-end.ensures.1
    (λ other. lacks-some (version_behind written same old) c.args.bytes.now c.args.at
    c.in_ok-is_there.is_there c.in_ok-is_there.ensures.read
    (IsVersionOf (limit_of c.args.longest g.K.KeyTrait.MAXIMUM_SIZE c.in_err-end.field-0.0))
    c.if-not-is_there.false (λ v rest is. c.in_err-end.ensures.refused other v rest is))

pub returns-clause-read : goal.returns-clause-read
returns-clause-read g c =
    let behind =
    version_behind g.V.SavedValue.written g.V.PartialEq.eq c.args.latest.now.tree.content in
    some-read behind c.args.bytes.now c.args.at c.in_ok-is_there.is_there
    c.in_ok-is_there.ensures.read c.in_ok-version.version c.in_ok-end.end c.if-not-is_there.false
    (subst (λ (v : Version g.row.V.Denot). HasPart c.args.bytes.now (c.args.at + 1) (behind v)
    c.in_ok-end.end) (sym c.in_ok-version.ensures) c.in_ok-end.ensures.read)

pub returns-clause-short : goal.returns-clause-short
returns-clause-short g c =
    subst (HasKeysWithin c.args.longest) (sym c.in_ok-version.ensures) c.in_ok-end.ensures.short

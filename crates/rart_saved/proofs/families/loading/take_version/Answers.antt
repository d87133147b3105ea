use Rattle.std.proofs.Common.{◌≡◌, ◌<◌, ◌^◌, [], drop, length, refl, sym, ap, subst, ◌∙◌, arith, rules}
use Rattle.std.specs.FinMap as finite
use Rattle.rart_maps.specs.ChangeLists.{changes}
use Rattle.rart_maps.specs.Versions.{Map, Version}
use Rattle.rart_saved.specs.FamilyForms.{optional, version_behind}
use Rattle.rart_saved.specs.FamilyLoads.{LacksSettings, LacksVersionBehind}
use Rattle.rart_saved.specs.Forms.{entries}
use Rattle.rart_saved.specs.Loads.{HasKeysWithin}
use Rattle.rart_saved.specs.Numbers.{leb}
use Rattle.rart_saved.specs.Parts.{HasPart}
use Rattle.rart_saved.specs.Refusals.{limit_of}
use Rattle.rart_saved.proofs.FamilyFormLemmas.{settings, version_behind-then}
use Rattle.rart_saved.proofs.FormLengthLemmas.{part-end}
use Rattle.rart_saved.proofs.LimitLemmas.{within_each, within_passed}
use Rattle.rart_saved.proofs.FamilyReadLemmas.{few-changes, opened-changes, opened-content, opened-version, version_behind-read}
use Rattle.rart_saved.proofs.families.loading.take_version.Goals as goal

pub returns-in_err-number-clause-refused : goal.returns-in_err-number-clause-refused
returns-in_err-number-clause-refused g c =
    let written = g.V.SavedValue.written in
    let same = g.V.PartialEq.eq in
    let old = c.args.latest.now.tree.content in
    within_each c.args.longest g.K.KeyTrait.MAXIMUM_SIZE _
    (λ most. LacksVersionBehind written same most old (drop c.args.at c.args.bytes.now))
    (λ most v rest is stands. c.in_err-number.ensures.refused v.number _ is.fits
    (stands ∙ version_behind-then written same old v rest))

pub returns-in_err-count-clause-refused : goal.returns-in_err-count-clause-refused
returns-in_err-count-clause-refused g c =
    let written = g.V.SavedValue.written in
    let same = g.V.PartialEq.eq in
    let old = c.args.latest.now.tree.content in
    let fits : length c.args.bytes.now < 2 ^ 64 = search rules in
    within_each c.args.longest g.K.KeyTrait.MAXIMUM_SIZE _
    (λ most. LacksVersionBehind written same most old (drop c.args.at c.args.bytes.now))
    (λ most v rest is stands. c.in_err-count.ensures.refused (length (changes same old v.content)) _
    (few-changes written same c.args.bytes.now old v rest c.args.at stands c.in_ok-number.from
    c.in_ok-number.number c.in_ok-number.ensures.read fits)
    (opened-version written same c.args.bytes.now old v rest c.args.at stands
    c.in_ok-number.from c.in_ok-number.number c.in_ok-number.ensures.read).1)

pub take_settings-requires-clause-room : goal.take_settings-requires-clause-room
take_settings-requires-clause-room g c =
    omega (
      arith,
      c.requires.room,
      c.in_ok-number.ensures.read.within,
      part-end c.args.bytes.now (leb c.in_ok-number.number) c.args.at c.in_ok-number.from
          c.requires.inside c.in_ok-number.ensures.read,
      part-end c.args.bytes.now (leb c.in_ok-count.count) c.in_ok-number.from c.in_ok-count.from
          c.in_ok-number.ensures.read.within c.in_ok-count.ensures.read,
    )

pub take_settings-requires-clause-short : goal.take_settings-requires-clause-short
take_settings-requires-clause-short g c =
    subst (HasKeysWithin c.args.longest) (sym c.in_ok-before.ensures) c.requires.short

pub returns-in_err-end-clause-refused : goal.returns-in_err-end-clause-refused
returns-in_err-end-clause-refused g c =
    let written = g.V.SavedValue.written in
    let same = g.V.PartialEq.eq in
    let old = c.args.latest.now.tree.content in
    within_passed c.args.longest g.K.KeyTrait.MAXIMUM_SIZE _ c.in_err-end.field-0.0
    (λ most. LacksVersionBehind written same most old (drop c.args.at c.args.bytes.now))
    c.from_residual-in_err-end.ensures.1
    (λ other v rest is stands.
    let opened =
    opened-changes written same c.args.bytes.now old v rest c.args.at stands
    c.in_ok-number.from c.in_ok-count.from c.in_ok-number.number c.in_ok-count.count
    c.in_ok-number.ensures.read c.in_ok-count.ensures.read in
    subst (λ (m : Map g.row.V.Denot). LacksSettings written same
    (limit_of c.args.longest g.K.KeyTrait.MAXIMUM_SIZE c.in_err-end.field-0.0) m
    c.in_ok-count.count (drop c.in_ok-count.from c.args.bytes.now))
    (ap (λ (w : Version g.row.V.Denot). w.content) c.in_ok-before.ensures)
    (c.in_err-end.ensures.refused other) v.content rest opened.0 is.lengths opened.1)

pub returns-then-latest-number-clause-refused : goal.returns-then-latest-number-clause-refused
returns-then-latest-number-clause-refused g c _ v rest is stands =
    let written = g.V.SavedValue.written in
    let same = g.V.PartialEq.eq in
    let old = c.args.latest.now.tree.content in
    let new = c.take_settings.new.latest.tree.content in
    let held = ap (λ (w : Version g.row.V.Denot). w.content) c.in_ok-before.ensures in
    let lists = subst (λ (m : Map g.row.V.Denot). HasPart c.args.bytes.now c.in_ok-count.from
    (entries (optional written) [] (settings written same m new)) c.in_ok-end.end) held
    c.in_ok-end.ensures.read in
    let long = subst (λ (m : Map g.row.V.Denot). length (changes same m new)
    ≡ c.in_ok-count.count) held c.in_ok-end.ensures.count in
    omega (
      arith,
      is.few,
      c.if-latest-number.true,
      c.in_ok-end.ensures.counted,
      (opened-version written same c.args.bytes.now old v rest c.args.at stands
          c.in_ok-number.from c.in_ok-number.number c.in_ok-number.ensures.read).0,
      ap finite.len (opened-content written same c.args.bytes.now old v rest c.args.at stands
          g.met.V.SavedValue.apart c.requires.decides c.in_ok-number.from c.in_ok-count.from
          c.in_ok-end.end c.in_ok-number.number c.in_ok-count.count new
          c.in_ok-number.ensures.read c.in_ok-count.ensures.read lists long),
    )

pub returns-clause-read : goal.returns-clause-read
returns-clause-read g c =
    let written = g.V.SavedValue.written in
    let same = g.V.PartialEq.eq in
    let old = c.args.latest.now.tree.content in
    let new = c.take_settings.new.latest.tree.content in
    let held = ap (λ (w : Version g.row.V.Denot). w.content) c.in_ok-before.ensures in
    let lists = subst (λ (m : Map g.row.V.Denot). HasPart c.args.bytes.now c.in_ok-count.from
    (entries (optional written) [] (settings written same m new)) c.in_ok-end.end) held
    c.in_ok-end.ensures.read in
    let long = subst (λ (m : Map g.row.V.Denot). length (changes same m new)
    ≡ c.in_ok-count.count) held c.in_ok-end.ensures.count in
    subst (λ (w : Version g.row.V.Denot). HasPart c.args.bytes.now c.args.at
    (version_behind written same old w) c.in_ok-end.end) (sym c.set_version.ensures)
    (version_behind-read written same c.args.bytes.now c.args.at c.in_ok-number.from
    c.in_ok-count.from c.in_ok-end.end c.in_ok-number.number c.in_ok-count.count old
    (record { content = new; number = c.in_ok-number.number }) c.in_ok-number.ensures.read
    c.in_ok-count.ensures.read lists refl long)

pub returns-clause-short : goal.returns-clause-short
returns-clause-short g c =
    subst (HasKeysWithin c.args.longest) (sym c.set_version.ensures) c.in_ok-end.ensures.short

use Rattle.std.proofs.Common.{[], ◌∷◌, ◌++◌, length, take, refl, subst, sym, ap, ◌∙◌, arith}
use Rattle.std.proofs.lemmas.List.{take_all}
use Rattle.std.specs.Option.{option_copied}
use Rattle.rart_maps.specs.Versions.{Version}
use Rattle.rart_family.specs.Families.{Family}
use Rattle.rart_saved.specs.FamilyForms.{family_head}
use Rattle.rart_saved.specs.Numbers.{leb}
use Rattle.rart_saved.proofs.FamilyReadLemmas.{IsWritten, family-written, places-taken, unwrapped, written-next, written-none}
use Rattle.rart_saved.proofs.families.saving.save_family_slice.Goals as goal

pub placing-init : goal.placing-init
placing-init g c =
    written-none g.V.SavedValue.written g.V.PartialEq.eq
    (family_head g.V.SavedValue.KIND ++ leb (length c.args.family.now)) c.put_number.new.out.items
    c.new-empty.result.content
    (c.in_ok-put_number.ensures
    ∙ (λ i. (c.in_ok-extend_from_slice.ensures.items
    ∙ (λ j. c.new-bytes.ensures.items j
    ++ (c.family_head_of.ensures ∙ ap family_head c.KIND.ensures) j)) i ++ leb (c.len.ensures i)))
    (ap (λ (v : Version g.row.V.Denot). v.content) c.new-empty.ensures.empty)

pub placing-preserved : goal.placing-preserved
placing-preserved g c =
    let start = family_head g.V.SavedValue.KIND ++ leb (length c.args.family.now) in
    let one = option_copied c.version_at-version.result in
    subst (λ (ps : Family g.row.V.Denot). IsWritten g.V.SavedValue.written g.V.PartialEq.eq
    start c.put_place.new.out.items ps c.unwrap_or-before.result.now.content)
    (ap (λ o. take c.placing.place c.args.family.now ++ o ∷ []) c.version_at-version.ensures
    ∙ sym (places-taken c.args.family.now c.placing.place
    (omega (arith, c.placing-test.true, c.len-place-end.ensures))))
    (written-next g.V.SavedValue.written g.V.PartialEq.eq start c.placing.bytes.items
    c.put_place.new.out.items (take c.placing.place c.args.family.now)
    c.placing.before.now.content c.unwrap_or-before.result.now.content one c.placing.invariant
    c.in_ok-put_place.ensures
    (ap (λ b. b.now.content) c.unwrap_or-before.ensures
    ∙ unwrapped c.version_at-version.result c.placing.before))

pub returns : goal.returns
returns g c =
    let start = family_head g.V.SavedValue.KIND ++ leb (length c.args.family.now) in
    family-written g.V.SavedValue.written g.V.PartialEq.eq g.V.SavedValue.KIND
    c.placing.bytes.items c.put_sum.new.self.items c.args.family.now
    c.placing.before.now.content
    (subst (λ (ps : Family g.row.V.Denot). IsWritten g.V.SavedValue.written g.V.PartialEq.eq
    start c.placing.bytes.items ps c.placing.before.now.content)
    (take_all c.placing.place c.args.family.now
    (omega (arith, c.placing-test.false, c.len-place-end.ensures))) c.placing.invariant)
    (c.in_ok-put_sum.ensures c.placing.bytes c.placing.bytes.items refl)

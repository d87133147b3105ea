use Rattle.std.proofs.Common.{◌∙◌}
use Rattle.rart_saved.proofs.FamilyReadLemmas.{version_behind-written}
use Rattle.rart_saved.proofs.families.saving.put_version.Goals as goal

pub returns : goal.returns
returns g c =
    version_behind-written g.V.SavedValue.written g.V.PartialEq.eq c.args.out.now.items
    c.put_number.new.out.items c.put_number-2.new.out.items c.extend_from_slice.new.self.items
    c.as_slice.result.now c.version.result c.in_ok-settings.settings.count
    c.args.before.now.content c.args.version.now c.in_ok-put_number.ensures
    c.in_ok-put_number-2.ensures c.in_ok-extend_from_slice.ensures.items
    c.version.ensures.number c.in_ok-settings.ensures.count
    (c.as_slice.ensures.value ∙ c.in_ok-settings.ensures.bytes)

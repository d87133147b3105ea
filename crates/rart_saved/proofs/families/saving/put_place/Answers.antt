use Rattle.std.proofs.Common.{◌++◌, ap, sym, ◌∙◌}
use Rattle.std.specs.Option.{option_copied}
use Rattle.rart_saved.specs.FamilyForms.{place, version_behind}
use Rattle.rart_saved.proofs.OptionalLemmas.{none-written, some-written}
use Rattle.rart_saved.proofs.families.saving.put_place.Goals as goal

pub returns-in_default : goal.returns-in_default
returns-in_default g c =
    none-written
    (version_behind g.V.SavedValue.written g.V.PartialEq.eq c.args.before.now.content) _ _
    c.in_ok-push.ensures.items
    ∙ ap (λ v. c.args.out.now.items
    ++ place g.V.SavedValue.written g.V.PartialEq.eq c.args.before.now.content (option_copied v))
    (sym c.in_default.is)

pub returns : goal.returns
returns g c =
    some-written
    (version_behind g.V.SavedValue.written g.V.PartialEq.eq c.args.before.now.content) _ _ _
    c.in-Some.version.now c.in_ok-push-2.ensures.items c.in_ok-put_version.ensures
    ∙ ap (λ v. c.args.out.now.items
    ++ place g.V.SavedValue.written g.V.PartialEq.eq c.args.before.now.content (option_copied v))
    (sym c.in-Some.is)

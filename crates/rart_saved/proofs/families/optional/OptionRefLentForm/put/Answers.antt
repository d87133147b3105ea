use Rattle.std.proofs.Common.{◌++◌, ap, sym, ◌∙◌}
use Rattle.std.specs.Option.{option_copied}
use Rattle.rart_saved.specs.FamilyForms.{optional}
use Rattle.rart_saved.proofs.OptionalLemmas.{none-written, some-written}
use Rattle.rart_saved.proofs.families.optional.OptionRefLentForm.put.Goals as goal

pub returns-in_default : goal.returns-in_default
returns-in_default g c =
    none-written g.V.SavedValue.written _ _ c.in_ok-push.ensures.items
    ∙ ap (λ v. c.args.out.now.items ++ optional g.V.SavedValue.written (option_copied v))
    (sym c.in_default.is)

pub returns : goal.returns
returns g c =
    some-written g.V.SavedValue.written _ _ _ c.in-Some.value.now c.in_ok-push-2.ensures.items
    c.in_ok-write.ensures
    ∙ ap (λ v. c.args.out.now.items ++ optional g.V.SavedValue.written (option_copied v))
    (sym c.in-Some.is)

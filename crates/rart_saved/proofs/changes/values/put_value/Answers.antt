use Rattle.std.proofs.Common.{◌++◌, sym, ap, ◌∙◌, append-nil}
use Rattle.rart_saved.specs.ChangeForms.{if_there}
use Rattle.rart_saved.proofs.changes.values.put_value.Goals as goal

pub returns-in_default : goal.returns-in_default
unfolding if_there
returns-in_default g c =
    sym (append-nil c.args.out.now.items)
    ∙ ap (λ v. c.args.out.now.items ++ if_there g.V.SavedValue.written v) (sym c.in_default.is)

pub returns : goal.returns
unfolding if_there
returns g c =
    c.in_ok-write.ensures
    ∙ ap (λ v. c.args.out.now.items ++ if_there g.V.SavedValue.written v) (sym c.in-Some.is)

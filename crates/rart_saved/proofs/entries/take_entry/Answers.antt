use Rattle.std.proofs.Common.{◌++◌, drop, ◌∙◌}
use Rattle.rart_saved.specs.Loads.{LacksPair}
use Rattle.rart_saved.proofs.LimitLemmas.{within_passed}
use Rattle.rart_saved.proofs.LoadLemmas.{entry-then, entry-opened, entry-read}
use Rattle.rart_saved.proofs.entries.take_entry.Goals as goal

pub returns-in_err-from-clause-refused : goal.returns-in_err-from-clause-refused
returns-in_err-from-clause-refused g c =
    let written = g.F.Form.written in
    within_passed c.args.longest g.K.KeyTrait.MAXIMUM_SIZE _ c.in_err-from.field-0.0
    (λ most. LacksPair written most c.args.is_first c.args.key.now.items
    (drop c.args.at c.args.bytes.now))
    c.from_residual.ensures.1
    (λ other key x rest next long stands.
    c.in_err-from.ensures.refused other key (written x ++ rest) next long
    (stands ∙ entry-then written c.args.key.now.items key x rest))

pub returns-in_err-form-clause-refused : goal.returns-in_err-form-clause-refused
returns-in_err-form-clause-refused g c =
    let written = g.F.Form.written in
    within_passed c.args.longest g.K.KeyTrait.MAXIMUM_SIZE _ c.in_err-form.field-0.0
    (λ most. LacksPair written most c.args.is_first c.args.key.now.items
    (drop c.args.at c.args.bytes.now))
    c.from_residual-in_err-form.ensures.1
    (λ other key x rest next long stands.
    c.in_err-form.ensures.refused other x rest
    (entry-opened written c.args.bytes.now c.args.key.now.items key c.take_key.new.key.items x
    rest c.args.at c.in_ok-from.from c.in_ok-from.ensures.read stands).1)

pub returns-clause-read : goal.returns-clause-read
returns-clause-read g c =
    entry-read g.F.Form.written c.args.bytes.now c.args.key.now.items c.take_key.new.key.items
    c.in_ok-form.form c.args.at c.in_ok-from.from c.in_ok-form.end c.in_ok-from.ensures.read
    c.in_ok-form.ensures.read

use Rattle.std.proofs.Common.{drop, refl}
use Rattle.rart_saved.specs.ChangeForms.{if_there}
use Rattle.rart_saved.specs.ChangeLoads.{LacksOne}
use Rattle.rart_saved.proofs.LoadLemmas.{other_passed}
use Rattle.rart_saved.proofs.changes.values.take_value.Goals as goal

pub returns-then-not-is_there-clause-read : goal.returns-then-not-is_there-clause-read
unfolding if_there
returns-then-not-is_there-clause-read g c = record { within = c.requires; stands = refl }

pub returns-in_err-value-clause-refused : goal.returns-in_err-value-clause-refused
returns-in_err-value-clause-refused g c =
    other_passed _ c.in_err-value.field-0.0
    (LacksOne g.V.SavedValue.written c.args.is_there (drop c.args.at c.args.bytes.now))
    c.from_residual.ensures.1
    (λ other. (c.if-not-is_there.false, c.in_err-value.ensures.refused other))

pub returns-clause-read : goal.returns-clause-read
unfolding if_there
returns-clause-read g c = c.in_ok-value.ensures.read

use Rattle.std.proofs.Common.{drop}
use Rattle.rart_saved.specs.FamilyForms.{optional}
use Rattle.rart_saved.specs.Values.{LacksValue}
use Rattle.rart_saved.proofs.LoadLemmas.{other_passed}
use Rattle.rart_saved.proofs.OptionalLemmas.{lacks-marked, lacks-value, none-read, some-read}
use Rattle.rart_saved.proofs.BytePartLemmas.{other_error}
use Rattle.rart_saved.proofs.families.optional.OptionForm.take.Goals as goal

pub returns-in_err-is_there-clause-refused : goal.returns-in_err-is_there-clause-refused
returns-in_err-is_there-clause-refused g c =
    other_error _ (LacksValue (optional g.V.SavedValue.written) (drop c.args.at c.args.bytes.now))
    (lacks-marked g.V.SavedValue.written _ c.in_err-is_there.ensures.refused)

pub returns-then-not-is_there-clause-read : goal.returns-then-not-is_there-clause-read
returns-then-not-is_there-clause-read g c =
    none-read g.V.SavedValue.written c.args.bytes.now c.args.at c.in_ok-is_there.is_there
    c.in_ok-is_there.ensures.read c.if-not-is_there.true

pub returns-in_err-value-clause-refused : goal.returns-in_err-value-clause-refused
returns-in_err-value-clause-refused g c =
    other_passed _ c.in_err-value.field-0.0
    (LacksValue (optional g.V.SavedValue.written) (drop c.args.at c.args.bytes.now))
    c.from_residual-in_err-value.ensures.1
    (λ other. lacks-value g.V.SavedValue.written c.args.bytes.now c.args.at
    c.in_ok-is_there.is_there c.in_ok-is_there.ensures.read c.if-not-is_there.false
    (c.in_err-value.ensures.refused other))

pub returns-clause-read : goal.returns-clause-read
returns-clause-read g c =
    some-read g.V.SavedValue.written c.args.bytes.now c.args.at c.in_ok-is_there.is_there
    c.in_ok-is_there.ensures.read c.in_ok-value.value c.in_ok-value.end c.if-not-is_there.false
    c.in_ok-value.ensures.read

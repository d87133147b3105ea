use Rattle.std.proofs.Common.{drop, refl}
use Rattle.rart_saved.specs.ChangeForms.{both_written}
use Rattle.rart_saved.specs.Values.{LacksValue}
use Rattle.rart_saved.proofs.ChangeFormLemmas.{deed-is, lacks-after, lacks-before, lacks-deed, lacks-no_byte, values-read}
use Rattle.rart_saved.proofs.LoadLemmas.{other_passed}
use Rattle.rart_saved.proofs.BytePartLemmas.{drop-byte, drop-past}
use Rattle.rart_saved.proofs.changes.values.Tuple2OptionOptionForm.take.Goals as goal

pub returns-in_default-clause-refused : goal.returns-in_default-clause-refused
returns-in_default-clause-refused g c _ =
    lacks-no_byte g.V.SavedValue.written _ (drop-past _ _ c.in_default.ensures.lookup.3)

pub returns-then-deed-gt3-clause-refused : goal.returns-then-deed-gt3-clause-refused
returns-then-deed-gt3-clause-refused g c _ =
    let found = c.in-Some.ensures.lookup.3 in
    lacks-deed g.V.SavedValue.written c.args.bytes.now c.args.at c.in-Some.byte.now
    (drop-byte c.args.bytes.now c.args.at _ found.0 found.1) c.if-deed-gt3.true

pub returns-in_err-before-clause-refused : goal.returns-in_err-before-clause-refused
returns-in_err-before-clause-refused g c =
    let found = c.in-Some.ensures.lookup.3 in
    other_passed _ c.in_err-before.field-0.0
    (LacksValue (both_written g.V.SavedValue.written) (drop c.args.at c.args.bytes.now))
    c.from_residual.ensures.1
    (λ other. lacks-before g.V.SavedValue.written c.args.bytes.now c.args.at c.in-Some.byte.now
    (drop-byte c.args.bytes.now c.args.at _ found.0 found.1) _ refl
    (c.in_err-before.ensures.refused other))

pub returns-in_err-after-clause-refused : goal.returns-in_err-after-clause-refused
returns-in_err-after-clause-refused g c =
    let found = c.in-Some.ensures.lookup.3 in
    other_passed _ c.in_err-after.field-0.0
    (LacksValue (both_written g.V.SavedValue.written) (drop c.args.at c.args.bytes.now))
    c.from_residual-in_err-after.ensures.1
    (λ other. lacks-after g.V.SavedValue.written g.met.V.SavedValue.apart c.args.bytes.now
    c.args.at c.in_ok-before.from c.in-Some.byte.now
    (drop-byte c.args.bytes.now c.args.at _ found.0 found.1) c.in_ok-before.before _
    c.in_ok-before.ensures.read c.in_ok-before.ensures.there refl
    (c.in_err-after.ensures.refused other))

pub returns-clause-read : goal.returns-clause-read
returns-clause-read g c =
    let found = c.in-Some.ensures.lookup.3 in
    values-read g.V.SavedValue.written c.args.bytes.now c.args.at c.in-Some.byte.now
    (drop-byte c.args.bytes.now c.args.at _ found.0 found.1) c.in_ok-before.before
    c.in_ok-after.after c.in_ok-before.from c.in_ok-after.end
    (deed-is _ _ _ c.if-deed-gt3.false c.in_ok-before.ensures.there
    c.in_ok-after.ensures.there)
    c.in_ok-before.ensures.read c.in_ok-after.ensures.read

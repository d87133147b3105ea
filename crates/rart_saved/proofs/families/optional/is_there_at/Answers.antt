use Rattle.std.proofs.Common.{length, sym, ap, ◌∙◌, arith}
use Rattle.rart_saved.proofs.OptionalLemmas.{lacks-mark, mark-read}
use Rattle.rart_saved.proofs.BytePartLemmas.{drop-byte, drop-past}
use Rattle.rart_saved.proofs.families.optional.is_there_at.Goals as goal

pub returns-in_default-clause-refused : goal.returns-in_default-clause-refused
returns-in_default-clause-refused c is_there rest stands =
    omega (arith, ap length (sym (drop-past _ _ c.in_default.ensures.lookup.3) ∙ stands))

pub returns-then-mark-gt1-clause-refused : goal.returns-then-mark-gt1-clause-refused
returns-then-mark-gt1-clause-refused c =
    let found = c.in-Some.ensures.lookup.3 in
    lacks-mark c.args.bytes.now c.args.at c.in-Some.byte.now
    (drop-byte c.args.bytes.now c.args.at _ found.0 found.1) c.if-mark-gt1.true

pub returns-clause-read : goal.returns-clause-read
returns-clause-read c =
    let found = c.in-Some.ensures.lookup.3 in
    mark-read c.args.bytes.now c.args.at c.in-Some.byte.now
    (drop-byte c.args.bytes.now c.args.at _ found.0 found.1) found.0 c.if-mark-gt1.false

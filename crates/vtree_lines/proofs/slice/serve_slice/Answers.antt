use Rattle.std.proofs.Common.{sym}
use Rattle.vtree_lines.proofs.ServeLemmas.{taken_ok, taken_err, slice_byte, slice_stops, slice_serves, slice_last}
use Rattle.vtree_lines.proofs.slice.serve_slice.Goals as goal

pub returns-then-is_err-clause-err : goal.returns-then-is_err-clause-err
returns-then-is_err-clause-err c =
    slice_stops c.args.input.now c.loop-byte.byte-index c.loop-byte.session _ _ _
    c.loop-byte-test.true
    (taken_err c.take.result _ c.loop-byte.session c.take.new.self _ _
    (sym c.if-is_err.ensures.value) c.take.ensures) c.loop-byte.invariant

pub loop-byte-preserved : goal.loop-byte-preserved
loop-byte-preserved c =
    slice_byte c.args.input.now c.loop-byte.byte-index c.loop-byte.session c.take.new.self _ _ _
    c.loop-byte-test.true
    (taken_ok c.take.result _ c.loop-byte.session c.take.new.self _ _
    (sym c.if-is_err.ensures.value) c.take.ensures) c.loop-byte.invariant

pub returns-in-Ok-clause-ok : goal.returns-in-Ok-clause-ok
returns-in-Ok-clause-ok c =
    slice_serves c.in-Ok.served c.args.input.now c.loop-byte.byte-index c.loop-byte.session _ _ _
    c.loop-byte-test.false c.in-Ok.ensures c.loop-byte.invariant

pub returns-clause-err : goal.returns-clause-err
returns-clause-err c =
    slice_last c.args.input.now c.loop-byte.byte-index c.loop-byte.session _ _ _
    c.loop-byte-test.false c.in-Err.ensures c.loop-byte.invariant

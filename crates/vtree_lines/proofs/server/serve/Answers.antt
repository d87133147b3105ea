use Rattle.vtree_lines.proofs.ServeLemmas.{midst_byte, midst_stops, midst_begun, midst_serves, midst_last, eaten, told_as_write}
use Rattle.vtree_lines.proofs.server.serve.Goals as goal

pub returns-in_default-clause-err : goal.returns-in_default-clause-err
returns-in_default-clause-err g c =
    midst_begun _ _ _ c.loop-byte.session _ _ c.loop-byte.invariant.serving

pub loop-byte-preserved : goal.loop-byte-preserved
loop-byte-preserved g c = let steps = c.in-Some.ensures.steps in record {
  can_next = tt;
  is_finite = tt;
  serving = midst_byte _ _ _ _ _ c.in-Ok.byte c.loop-byte.session c.take.new.self _ _ _
      (eaten _ _ _ _ c.in-Ok.is steps.0) steps.1 c.in_ok-take.ensures c.loop-byte.invariant.serving;
}

pub returns-in_err-take-clause-err : goal.returns-in_err-take-clause-err
returns-in_err-take-clause-err g c = let steps = c.in-Some.ensures.steps in
    told_as_write c.from_residual.result _ _ _ c.from_residual.ensures.1
    (midst_stops _ _ _ _ _ c.in-Ok.byte c.loop-byte.session _ _ _
    (eaten _ _ _ _ c.in-Ok.is steps.0) steps.1 c.in_err-take.ensures c.loop-byte.invariant.serving)

pub returns-in_err-finish-clause-err : goal.returns-in_err-finish-clause-err
returns-in_err-finish-clause-err g c =
    told_as_write c.from_residual-in_err-finish.result _ _ _ c.from_residual-in_err-finish.ensures.1
    (midst_last _ _ _ c.loop-byte.session _ _ _ c.in-None.ensures.steps c.in_err-finish.ensures
    c.loop-byte.invariant.serving)

pub returns-clause-ok : goal.returns-clause-ok
returns-clause-ok g c = midst_serves c.in_ok-finish.field-0 _ _ _ c.loop-byte.session _ _ _
    c.in-None.ensures.steps c.in_ok-finish.ensures c.loop-byte.invariant.serving

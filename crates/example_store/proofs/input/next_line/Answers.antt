use Rattle.example_store.proofs.InputLemmas.{byte_taken, none_taken, kept_feedless, kept_none, kept_some, reading_more, line_read, line_last, line_none}
use Rattle.vtree_lines.proofs.SessionLemmas.{take_grown}
use Rattle.example_store.proofs.input.next_line.Goals as goal

pub returns-then-is_empty-clause-taken : goal.returns-then-is_empty-clause-taken
returns-then-is_empty-clause-taken g c =
    let ended = none_taken _ _ _ c.in_default.not-Some c.in_ok-byte.ensures in
    line_none _ _ _ c.loop.line.items c.loop.invariant (kept_none c.loop.line.items c.if-is_empty.ensures) ended.0 ended.1

pub returns-in_default-clause-feedless : goal.returns-in_default-clause-feedless
returns-in_default-clause-feedless g c = kept_feedless _ _ c.loop.line.items c.loop.invariant

pub returns-in_default-clause-taken : goal.returns-in_default-clause-taken
returns-in_default-clause-taken g c =
    let ended = none_taken _ _ _ c.in_default.not-Some c.in_ok-byte.ensures in
    line_last _ _ _ c.loop.line.items c.loop.invariant (kept_some c.loop.line.items c.if-is_empty.ensures) ended.0 ended.1

pub returns-then-byte-eq10-clause-feedless : goal.returns-then-byte-eq10-clause-feedless
returns-then-byte-eq10-clause-feedless g c = kept_feedless _ _ c.loop.line.items c.loop.invariant

pub returns-then-byte-eq10-clause-taken : goal.returns-then-byte-eq10-clause-taken
returns-then-byte-eq10-clause-taken g c = line_read _ _ _ c.loop.line.items c.in-Some.byte c.loop.invariant c.if-byte-eq10.true
    (byte_taken _ _ _ c.in-Some.byte c.in-Some.is c.in_ok-byte.ensures)

pub loop-preserved : goal.loop-preserved
loop-preserved g c = reading_more _ _ _ c.loop.line.items c.try_push.new.self.items c.in-Some.byte c.loop.invariant c.if-byte-eq10.false
    (byte_taken _ _ _ c.in-Some.byte c.in-Some.is c.in_ok-byte.ensures)
    (take_grown c.try_push.result 201 c.loop.invariant.line _ c.loop.line c.try_push.new.self
    (λ v. v.items) c.loop.invariant.kept_are c.try_push.ensures.variant.0 c.try_push.ensures.ok
    c.try_push.ensures.err c.try_push.ensures.full)

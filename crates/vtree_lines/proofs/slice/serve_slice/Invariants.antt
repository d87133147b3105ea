use Rattle.std.proofs.Common.{take}
use Rattle.std.specs.Prelude.{Some}
use Rattle.vtree_lines.specs.Sessions.{Serving}
use Rattle.vtree_lines.proofs.slice.serve_slice.Given as goal

abbrev pub invariant-loop-byte : goal.invariant-loop-byte
invariant-loop-byte l = Serving (take l.byte-index l.input) l.session (Some l.fn.output.items)
    (Some l.output.items)

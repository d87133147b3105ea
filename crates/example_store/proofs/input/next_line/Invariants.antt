use Rattle.example_store.specs.Input.{IsReading}
use Rattle.example_store.proofs.input.next_line.Given as goal

abbrev pub invariant-loop : goal.invariant-loop
invariant-loop g l = IsReading (g.R.Read.remaining l.fn.reader) (g.R.Read.remaining l.reader) l.line.items

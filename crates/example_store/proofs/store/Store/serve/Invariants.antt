use Rattle.std.specs.Prelude.{IfSome}
use Rattle.example_store.proofs.ServingLemmas.{Midst}
use Rattle.example_store.proofs.store.Store.serve.Given as goal

abbrev pub invariant-loop : goal.invariant-loop
invariant-loop g l = IfSome (g.R.Read.remaining l.fn.reader) (λ input.
    Midst input (g.R.Read.remaining l.reader) l.fn.self l.self (g.W.Write.contents l.fn.writer)
    (g.W.Write.contents l.writer))

use Rattle.std.specs.Prelude.{◌≤◌}
use Rattle.example_uses.proofs.prices.filling.list_of.Given as goal

abbrev pub invariant-loop-name : goal.invariant-loop-name
invariant-loop-name l = l.list.number ≤ l.name-index

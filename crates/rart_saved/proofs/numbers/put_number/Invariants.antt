use Rattle.std.proofs.Common.{◌≡◌, ◌++◌}
use Rattle.rart_saved.specs.Numbers.{leb}
use Rattle.rart_saved.proofs.numbers.put_number.Given as goal

abbrev pub invariant-loop-left : goal.invariant-loop-left
invariant-loop-left l = l.out.items ++ leb l.left ≡ l.fn.out.items ++ leb l.number

abbrev pub decreases-loop-left : goal.decreases-loop-left
decreases-loop-left l = l.left

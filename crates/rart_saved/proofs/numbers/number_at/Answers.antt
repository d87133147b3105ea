use Rattle.std.proofs.Common.{drop, arith}
use Rattle.rart_saved.specs.Numbers.{leb, LacksGroups, LacksNumber}
use Rattle.rart_saved.proofs.BytePartLemmas.{error_on}
use Rattle.rart_saved.proofs.numbers.number_at.Goals as goal

pub returns-clause-read : goal.returns-clause-read
unfolding leb
returns-clause-read c = c.groups_at.ensures.read

pub returns-clause-refused : goal.returns-clause-refused
unfolding leb
returns-clause-refused c =
    error_on _ (LacksGroups 9 (drop c.args.at c.args.bytes.now))
    (LacksNumber (drop c.args.at c.args.bytes.now))
    (λ lacks n rest below. lacks n rest below (omega (arith, below)))
    c.groups_at.ensures.refused

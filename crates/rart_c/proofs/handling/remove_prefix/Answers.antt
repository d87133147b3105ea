use Rattle.rart_c.proofs.CountUnderLemmas.{none-at-first}
use Rattle.rart_c.proofs.handling.remove_prefix.Goals as goal

pub returns-in-None-clause-changes : goal.returns-in-None-clause-changes
returns-in-None-clause-changes g c =
    rw (c.in-None.ensures.table) (none-at-first c.args.prefix.now)

use Rattle.rart_c.proofs.EmptyLemmas.{no-value, none-removed}
use Rattle.rart_c.proofs.handling.remove.Goals as goal

pub returns-in-None-clause-changes : goal.returns-in-None-clause-changes
returns-in-None-clause-changes g c =
    rw (c.in-None.ensures.table) (
      no-value g.row.H-Value.Denot c.args.key.now,
      none-removed g.row.H-Value.Denot c.args.key.now,
    )

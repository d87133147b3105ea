use Rattle.rart_c.proofs.EmptyLemmas.{no-value}
use Rattle.rart_c.proofs.lent.get.Goals as goal

pub returns-in-None : goal.returns-in-None
returns-in-None g c = rw (c.in-None.is) (no-value g.row.V.Denot c.args.key.now)

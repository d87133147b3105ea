use Rattle.rart_c.proofs.EmptyLemmas.{no-longest}
use Rattle.rart_c.proofs.lent.longest.Goals as goal

pub returns-in-None : goal.returns-in-None
returns-in-None g c = rw (c.in-None.is) (no-longest g.row.V.Denot c.args.probe.now)
